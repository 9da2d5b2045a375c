-- Charts that are the same, by tests of all their sections.
use Rattle.std.proofs.Common.{◌≡◌, ℕ, ◌<◌, Bool, true, false, not, is_some, eqb, None, Ok, refl, sym}
use Rattle.std.proofs.lemmas.Bool.{eqb-true, not-false}
use Rattle.finite.specs.Search.{least}
use Rattle.finite.proofs.Search.{least_none_at}
use Rattle.chain.specs.Chain.{Chain}
use Rattle.transitions.specs.System.{System}
use Rattle.register.proofs.Values.{none_of}
use Rattle.files.specs.Refusals.{refusal_of}
use Rattle.cases.specs.Charts.{weighted, choice, four, three, widest, SameChain, SameSystem}
use Rattle.cases.specs.Files.{ReadAs, file_of_four, file_of_three, file_of_widest}

-- no two numbers below n fail the test
abbrev pub AllPass : ℕ → (ℕ → ℕ → Bool) → Type 0
AllPass n test = least n (λ s. is_some (least n (λ u. not (test s u)))) ≡ None

passes : (n : ℕ) (test : ℕ → ℕ → Bool) → AllPass n test → (s u : ℕ) → s < n → u < n → test s u ≡ true
passes n test all s u hs hu =
    let row = none_of _ (sym (least_none_at n (λ x. is_some (least n (λ y. not (test x y)))) all s hs)) in
    not-false _ (least_none_at n (λ y. not (test s y)) row u hu)

abbrev pub alike : Bool → Bool → Bool
alike true b = b
alike false b = not b

alike_same : (a b : Bool) → alike a b ≡ true → a ≡ b
alike_same true b h = sym h
alike_same false true h = h
alike_same false false h = refl

same_chain : (c d : Chain) → c.n ≡ d.n → c.a ≡ d.a → c.b ≡ d.b → c.whole ≡ d.whole
    → AllPass c.n (λ s u. eqb (c.band s) (d.band s)) → AllPass c.n (λ s u. eqb (c.part s u) (d.part s u)) → SameChain c d
same_chain c d n a b whole bands parts = record {
  n = n;
  a = a;
  b = b;
  whole = whole;
  band = λ s h. eqb-true _ _ (passes c.n (λ s u. eqb (c.band s) (d.band s)) bands s s h h);
  part = λ s u hs hu. eqb-true _ _ (passes c.n (λ s u. eqb (c.part s u) (d.part s u)) parts s u hs hu);
}

same_system : (c d : System) → c.n ≡ d.n → c.a ≡ d.a → c.b ≡ d.b
    → AllPass c.n (λ s u. eqb (c.band s) (d.band s)) → AllPass c.n (λ s u. alike (c.leads s u) (d.leads s u)) → SameSystem c d
same_system c d n a b bands leads = record {
  n = n;
  a = a;
  b = b;
  band = λ s h. eqb-true _ _ (passes c.n (λ s u. eqb (c.band s) (d.band s)) bands s s h h);
  leads = λ s u hs hu. alike_same _ _ (passes c.n (λ s u. alike (c.leads s u) (d.leads s u)) leads s u hs hu);
}

pub four_read : ReadAs file_of_four (Ok (weighted four))
unfolding refusal_of
four_read = (refl, same_chain _ _ refl refl refl refl refl refl)

pub three_read : ReadAs file_of_three (Ok (choice three))
unfolding refusal_of
three_read = (refl, same_system _ _ refl refl refl refl refl)

pub widest_read : ReadAs file_of_widest (Ok (choice widest))
unfolding refusal_of
widest_read = (refl, same_system _ _ refl refl refl refl refl)
