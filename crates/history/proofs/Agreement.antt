-- Two registers of the same chart agree on what is settled.
use Rattle.std.proofs.Common.{ℕ, ◌<◌, sym, ◌∙◌, le_antisymm}
use Rattle.std.proofs.Math.Logic.{∥∥₁_elim}
use Rattle.std.proofs.Props.{props}
use Rattle.chart.specs.declared.side.Side.TheVariants.{Upper}
use Rattle.chart.specs.Distances.{Distances}
use Rattle.chart.specs.Meaning.{Meaning, Judged}
use Rattle.chart.specs.Laws.{Lawful}
use Rattle.chart.specs.Same.{IsTable, Same}
use Rattle.chart.specs.Supported.{Supported}
use Rattle.chart.specs.Tops.{InRange}
use Rattle.history.specs.Rules.{State, over}
use Rattle.history.specs.Promises.{HasHistory, Agree, SettledAgree}
use Rattle.history.proofs.Sound.{upper_supported, lower_true}

module _ {F G : Type 0} (m : Meaning F) (o : Meaning G) (same : Same m o) where
  within : {s : ℕ} → s < o.sections → s < m.sections
  within h = rw same.sections h

  table_same : {d : Distances} → IsTable o.sections d → IsTable m.sections d
  table_same table = record { top_least = table.top_least; bounded = λ s t hs ht. table.bounded s t (rw same.sections at hs) (rw same.sections at ht) }

  judged_same : {s t : ℕ} → Judged o s t → Judged m s t
  judged_same {s} {t} j =
      let hs = within j.first_in in
      let ht = within j.second_in in
      record { first_in = hs; second_in = ht; together = same.apart s t hs ht ∙ j.together }

  pub same_sym : Same o m
  same_sym = record {
    sections = sym same.sections;
    numerator = sym same.numerator;
    denominator = sym same.denominator;
    apart = λ s t hs ht. sym (same.apart s t (within hs) (within ht));
    valid = λ side d s t ws range table j words. let (to, from) = same.valid side d s t ws range (table_same table) (judged_same j) words in (from, to);
    shown = λ side d s t ws c range table j words. let (to, from) = same.shown side d s t ws c range (table_same table) (judged_same j) words in (from, to);
  }

  -- a table is supported by the one as it is by the other
  pub supported_same : (d : Distances) → InRange d.top → Supported m d → Supported o d
  supported_same d range sup = record {
    top_least = sup.top_least;
    bounded = λ s t hs ht. sup.bounded s t (within hs) (within ht);
    apart = λ s t hs ht a. sup.apart s t (within hs) (within ht) (same.apart s t (within hs) (within ht) ∙ a);
    judged = λ s t j low. let (ws, words, shown) = sup.judged s t (judged_same j) low in (ws, words, (same.shown Upper d s t ws (d.entry s t) range (record { top_least = sup.top_least; bounded = sup.bounded }) (judged_same j) words).0 shown);
  }

pub settled_agree : {F G : Type 0} (m : Meaning F) (o : Meaning G) → Lawful m → Lawful o → SettledAgree m o
settled_agree m o lawful lawful' same K k σ h run J j τ g run' s t jd settled settled' =
    let back = same_sym m o same in
    let jd' = judged_same o m back jd in
    let one = lower_true m lawful K k σ h run (over J τ.upper) (supported_same o m back _ j (upper_supported o lawful' J j τ g run')) s t jd.first_in jd.second_in in
    let two = lower_true o lawful' J j τ g run' (over K σ.upper) (supported_same m o same _ k (upper_supported m lawful K k σ h run)) s t jd'.first_in jd'.second_in in
    le_antisymm (rw settled at one) (rw settled' at two)

pub agree_where_led : {F G : Type 0} (m : Meaning F) (o : Meaning G) → Lawful m → Lawful o → Same m o
    → (K J : ℕ) → InRange K → InRange J → (σ τ : State) → HasHistory m K σ → HasHistory o J τ → Agree m K σ J τ
agree_where_led m o lawful lawful' same K J k j σ τ had had' s t jd settled settled' =
    ∥∥₁_elim had (search props) (λ (h, run). ∥∥₁_elim had' (search props) (λ (g, run'). settled_agree m o lawful lawful' same K k σ h run J j τ g run' s t jd settled settled'))
