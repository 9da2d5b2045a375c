-- No entry of a table is above its top.
use Rattle.std.proofs.Common.{ℕ, ◌+◌, ◌*◌, ◌≤◌, ◌&&◌, ltb, Some, None, Option, arith}
use Rattle.std.proofs.lemmas.Bool.{cond_both}
use Rattle.chart.specs.declared.table.Table.{Table}
use Rattle.chart.specs.Tables.{cell, distances, capped}

pub entry_bounded : (d : Table) (s t : ℕ) → (distances d).entry s t ≤ d.top.value
entry_bounded d s t = cond_both (ltb s 32 && ltb t 32) (cell d.cells s t) d.top.value (λ e. e ≤ d.top.value) (λ _. d.bounded (s * 32 + t)) (λ _. omega arith)

pub entry_most : (d : Table) (s t : ℕ) → (distances d).entry s t ≤ 1000000000
entry_most d s t = omega (arith, entry_bounded d s t, d.top.most)

pub capped_most : (o : Option ℕ) (entry top : ℕ) → entry ≤ top → capped o entry top ≤ top
capped_most None entry top h = h
capped_most (Some v) entry top h = omega arith
