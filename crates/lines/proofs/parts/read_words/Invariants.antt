use Rattle.std.proofs.Common.{◌≡◌, ◌≤◌, length, vec_items, vec_len, vec_capacity}
use Rattle.lines.specs.Fields.{fields}
use Rattle.lines.specs.Reading.{words_from}
use Rattle.lines.proofs.Words.{onto}
use Rattle.lines.proofs.parts.read_words.Given as goal

-- the words so far, followed by those of the rest, are the words of all; no room was lost
abbrev pub invariant-loop-field : goal.invariant-loop-field
invariant-loop-field l =
    (vec_capacity l.initial.words ≤ vec_capacity l.words)
    × (onto (vec_items l.words) (words_from (vec_len l.words) (fields l.rest)) ≡ words_from 0 (fields l.bytes))

abbrev pub decreases-loop-field : goal.decreases-loop-field
decreases-loop-field l = length l.rest
