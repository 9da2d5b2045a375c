-- A script that is played in part.
use Rattle.std.proofs.Common.{◌≡◌, ℕ, ◌+◌, ◌-◌, ◌^◌, ◌<◌, min, ◌⊎◌, inl, inr, List, [], length, ℤ, None, Some, Ok, Err, Option, Result, IfSome, refl, ap, subst, append_assoc, append-nil, add-zero, suc, arith}
use Rattle.std.specs.Fmt.{option_append}
use Rattle.std.specs.Io.BufRead.{first_piece, DropsThrough}
use Rattle.std.specs.Io.KnownBytes.{Appends, IsAtEnd}
use Rattle.chart.specs.Meaning.{Meaning}
use Rattle.history.specs.Rules.{State}
use Rattle.commands.specs.declared.command.Command.{Command}
use Rattle.commands.specs.Reading.{line_read, with_words}
use Rattle.lines.specs.declared.malformed.Malformed.{Malformed}
use Rattle.lines.specs.declared.malformed.Malformed.TheVariants.{Memory}
use Rattle.script.specs.declared.report.items.Outcomes.{Outcomes}
use Rattle.script.specs.Session.{next_line, lines_after, no_outcomes, IsWrong, StopsAt, Ends, Line, Script, none, turn}
use Rattle.script.specs.declared.session.Stop.{Stop}
use Rattle.script.specs.declared.session.Stop.TheVariants.{Line as AtLine, Io}
use Rattle.script.proofs.Written.{appends_none, appends_more}

none_before : (b : Option (List ℕ)) → option_append (Some []) b ≡ b
none_before None = refl
none_before (Some ys) = refl

none_after : (a : Option (List ℕ)) → option_append a (Some []) ≡ a
none_after None = refl
none_after (Some xs) = ap Some (append-nil xs)

append_append : (a b c : Option (List ℕ)) → option_append (option_append a b) c ≡ option_append a (option_append b c)
append_append None b c = refl
append_append (Some xs) None c = refl
append_append (Some xs) (Some ys) None = refl
append_append (Some xs) (Some ys) (Some zs) = ap Some (append_assoc xs ys zs)

-- where the text is known, it was appended
Written : Option (List ℕ) → Option (List ℕ) → Option (List ℕ) → Type 0
Written was now text = IfSome text (Appends was now)

written_more : (was mid now a b : Option (List ℕ)) → IfSome a (Appends was mid) → IfSome b (Appends mid now) → IfSome (option_append a b) (Appends was now)
written_more was mid now None b p q = tt
written_more was mid now (Some xs) None p q = tt
written_more was mid now (Some xs) (Some ys) p q = appends_more was mid now xs ys p q

module _ {F : Type 0} (fault : F → Option (List ℕ)) (m : Meaning F) (K : ℕ) (bs : List ℕ) (σ : State) (was : Option (List ℕ)) where
  -- In the state ρ, with the counts n, the lines are left that are known; however many of them are played, the whole script comes to that, with what is written so far before it.
  pub record Halfway (known : Option (List ℕ)) (number : ℕ) (ρ : State) (n : Outcomes) (now : Option (List ℕ)) : Type 0 where
    pub left : List ℕ
    pub left_is : known ≡ Some left
    pub count : ℕ
    pub number_is : number ≡ min count (2 ^ 64 - 1)
    pub text : Option (List ℕ)
    pub written : IfSome text (Appends was now)
    pub goes_on : (j : ℕ) (more : Option (List ℕ)) (τ : State) (p : Outcomes) (rest : List ℕ) → Script fault m K left ρ n j more τ p rest
        → Script fault m K bs σ no_outcomes (count + j) (option_append text more) τ p rest

  pub begun : (known : Option (List ℕ)) → known ≡ Some bs → Halfway known 0 σ no_outcomes was
  begun known e = record {
    left = bs;
    left_is = e;
    count = 0;
    number_is = refl;
    text = Some [];
    written = appends_none was;
    goes_on = λ j more τ p rest s. let here : 0 + j ≡ j = omega arith in rw (here, none_before more) s;
  }

  -- what is played so far
  so_far : (known : Option (List ℕ)) (number : ℕ) (ρ : State) (n : Outcomes) (now : Option (List ℕ)) (h : Halfway known number ρ n now)
      → Script fault m K bs σ no_outcomes h.count h.text ρ n h.left
  so_far known number ρ n now h =
      rw (add-zero, none_after h.text) at (h.goes_on 0 (Some []) ρ n h.left none)

  module _ (known next : Option (List ℕ)) (number : ℕ) (ρ : State) (n : Outcomes) (now : Option (List ℕ)) (h : Halfway known number ρ n now)
      (line : List ℕ) (yielded : IfSome known (λ xs. (0 < length xs) × (line ≡ first_piece 10 xs)) × DropsThrough known next 10) where
    line_is : line ≡ next_line h.left
    line_is = (rw h.left_is at yielded.0).1

    next_is : next ≡ Some (lines_after h.left)
    next_is = rw h.left_is at yielded.1

    pub line_played : (a : Option (List ℕ)) (ρ' : State) (n' : Outcomes) (later : Option (List ℕ)) (number' : ℕ) → number' ≡ min (number + 1) (2 ^ 64 - 1)
        → Line fault m K line ρ n a ρ' n' → IfSome a (Appends now later) → Halfway next number' ρ' n' later
    line_played a ρ' n' later number' e plays wrote = record {
      left = lines_after h.left;
      left_is = next_is;
      count = h.count + 1;
      number_is = omega (arith, e, h.number_is);
      text = option_append h.text a;
      written = written_more was now later h.text a h.written wrote;
      goes_on = λ j more τ p rest s.
          let here : h.count + 1 + j ≡ h.count + suc j = omega arith in rw (append_append h.text a more, here) (h.goes_on _ _ τ p rest (turn a more (rw line_is at plays) s));
    }

    -- the script stops at this line
    stopped : (wrong : Malformed) (number' : ℕ) → number' ≡ min (number + 1) (2 ^ 64 - 1) → IsWrong line wrong → Ends fault m K (Appends was now) bs σ (Err (AtLine number' wrong)) ρ
    stopped wrong number' e is =
        let here : number' ≡ min (h.count + 1) (2 ^ 64 - 1) = omega (arith, e, h.number_is) in
        (h.count, h.text, n, h.left, so_far known number ρ n now h, h.written, here, rw line_is at is)

    pub stops : (stop : Stop) {U : Type 0} (number' : ℕ) (ρ' : State) (later : Option (List ℕ)) → number' ≡ min (number + 1) (2 ^ 64 - 1) → StopsAt number' line U stop
        → (U → (ρ' ≡ ρ) × (later ≡ now)) → Ends fault m K (Appends was later) bs σ (Err stop) ρ'
    stops (AtLine k wrong) number' ρ' later e at same =
        let u = same at.2 in rw (u.0, u.1, at.0) (stopped wrong number' e at.1)
    stops (Io x) number' ρ' later e at same = tt

  pub done : (known : Option (List ℕ)) (number : ℕ) (ρ : State) (n : Outcomes) (now : Option (List ℕ)) → Halfway known number ρ n now → IsAtEnd known → Ends fault m K (Appends was now) bs σ (Ok n) ρ
  done known number ρ n now h end =
      let none_left : h.left ≡ [] = rw h.left_is at end in
      (h.count, h.text, rw none_left at (so_far known number ρ n now h), h.written)

-- A reader may not say which bytes it has left; of one that does, the same is claimed.
pub if_some : {A : Type 0} {P Q : A → Type 0} (o : Option A) → ((x : A) → P x → Q x) → IfSome o P → IfSome o Q
if_some None f p = tt
if_some (Some x) f p = f x p

pub all_left : {F : Type 0} (fault : F → Option (List ℕ)) (m : Meaning F) (K : ℕ) (σ : State) (was : Option (List ℕ)) (known : Option (List ℕ))
    → IfSome known (λ bs. Halfway fault m K bs σ was known 0 σ no_outcomes was)
all_left fault m K σ was None = tt
all_left fault m K σ was (Some bs) = begun fault m K bs σ was (Some bs) refl

-- what the reader answers, with its words, is what the line says
pub read_is : (read : Result (Option Command) Malformed) (o : Option Command) (ws : List ℤ) (line : List ℕ) {P : Type 0} → read ≡ Ok o → ((read ≡ Err Memory) × P) ⊎ (with_words read ws ≡ line_read line) → with_words (Ok o) ws ≡ line_read line
read_is read o ws line e (inl m) = absurd (cc (e, m.0))
read_is read o ws line e (inr h) = rw e at h

pub outcomes_are : (n : Outcomes) (a r : ℕ) → n.accepted ≡ a → n.refused ≡ r → n ≡ record { accepted = a; refused = r }
outcomes_are n a r p q = rw (← p, ← q) refl

-- a line played over the same chart and top
pub same_line : {F : Type 0} (fault : F → Option (List ℕ)) (m m' : Meaning F) (K K' : ℕ) (line : List ℕ) (σ : State) (n : Outcomes) (a : Option (List ℕ)) (τ : State) (p : Outcomes)
    → m ≡ m' → K ≡ K' → Line fault m K line σ n a τ p → Line fault m' K' line σ n a τ p
same_line fault m m' K K' line σ n a τ p e f h = subst (λ k. Line fault m' k line σ n a τ p) f (subst (λ x. Line fault x K line σ n a τ p) e h)
