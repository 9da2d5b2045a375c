-- Sending a full certificate.
use Rattle.std.proofs.Common.{◌≡◌, ℕ, ◌<◌, ◌≤◌, true, false, cond, List, [], ◌∷◌, ◌++◌, map, ℤ, Some, None, Ok, sym, refl, ap, ◌∙◌, inl, inr, le_of_mul-le-mul_right, arith}
use native.Mathlib.Decide.{dec_lt}
use Rattle.std.proofs.lemmas.Bool.{cases_Bool}
use Rattle.std.proofs.lemmas.Bool.Decides.{nat_tests}
use Rattle.chart.specs.declared.side.Side.{Side}
use Rattle.chart.specs.declared.side.Side.TheVariants.{Upper, Lower}
use Rattle.chart.specs.Distances.{Distances}
use Rattle.chart.specs.Weighing.{Weaker}
use Rattle.chart.specs.Meaning.{Meaning, Judged, Shown}
use Rattle.chart.specs.Laws.{Lawful, Tighter}
use Rattle.chart.specs.Supported.{Supported}
use Rattle.chart.specs.Tops.{InRange}
use Rattle.history.specs.Calls.{Call, Show, Answer, Page}
use Rattle.history.specs.Rules
use Rattle.history.specs.Rules.{State, resting, claiming, showing, Draft, Marks, put, laid, side_of, with_phase, written, over, Effect, refuses, accepts, Run, rest, turn}
use Rattle.history.specs.Certificate.{Certificate, Pair, among, Distinct, Lists, claim_of, show_of, draft_calls, Positive, Sent, all_0, some_above}
use Rattle.history.specs.Promises.{Always, calls, EachAccepted, Settles, Enters, TakesCertificates}
use Rattle.history.proofs.Cases.{absurd_bool, cases_result}
use Rattle.history.proofs.Peak.{supported_bounding, below}
use Rattle.history.proofs.Sound.{Sound, always_sound, Fits, answer_strongest, fault_unshown}
use Rattle.history.proofs.Grounds.{judged_inside, Free, openable, claimable, closable, showable, enterable}
use Rattle.history.proofs.Alone.{by_calls_alone}

-- ---- lists of pairs, and what is put at them

put_all : {A : Type 0} → (ℕ → ℕ → A) → List Pair → (ℕ → ℕ → A) → ℕ → ℕ → A
put_all x [] f = f
put_all x (p ∷ ps) f = put_all x ps (put p.0 p.1 (x p.0 p.1) f)

put_all_at : {A : Type 0} (x : ℕ → ℕ → A) (ps : List Pair) (f : ℕ → ℕ → A) (s t : ℕ) → put_all x ps f s t ≡ cond (among s t ps) (x s t) (f s t)
unfolding put_all
put_all_at x [] f s t = refl
put_all_at x (p ∷ ps) f s t = put_all_at x ps (put p.0 p.1 (x p.0 p.1) f) s t ∙ grind (arith, nat_tests)

among_head : (p : Pair) (ps : List Pair) → among p.0 p.1 (p ∷ ps) ≡ true
among_head p ps = grind (arith, nat_tests)

among_tail : (s t : ℕ) (p : Pair) (ps : List Pair) → among s t ps ≡ true → among s t (p ∷ ps) ≡ true
among_tail s t p ps h = grind (arith, nat_tests)

-- at the pairs of a distinct rest stands what stood there
put_rest : {A : Type 0} (p : Pair) (ps : List Pair) (y : A) (f : ℕ → ℕ → A) (s t : ℕ) → among p.0 p.1 ps ≡ false → among s t ps ≡ true → put p.0 p.1 y f s t ≡ f s t
put_rest p ps y f s t out h = grind (arith, nat_tests)

-- ---- accepted calls

data Goes {F : Type 0} (m : Meaning F) (K : ℕ) : State → List Call → State → Type 0 where
  stay : {σ : State} → Goes m K σ [] σ
  go : {σ ρ τ : State} {c : Call} {cs : List Call} (a : Answer) → Free m K σ c → Effect m K σ c a ρ → Goes m K ρ cs τ → Goes m K σ (c ∷ cs) τ

module _ {F : Type 0} (m : Meaning F) (K : ℕ) where
  then : {σ : State} {cs : List Call} {ρ : State} {ds : List Call} {τ : State} → Goes m K σ cs ρ → Goes m K ρ ds τ → Goes m K σ (cs ++ ds) τ
  then stay h = h
  then (go a ok f g) h = go a ok f (then g h)

  pages_of : {σ : State} {cs : List Call} {τ : State} → Goes m K σ cs τ → (h : List (Page F)) × Run m K σ h τ × (calls h ≡ cs) × EachAccepted h
  pages_of stay = ([], rest, refl, tt)
  pages_of (go {c = c} a ok f g) =
      let (h, run, is, un) = pages_of g in
      (record { call = c; outcome = Ok a } ∷ h, turn (accepts ok f) run, ap (λ x. c ∷ x) is, ((a, refl), un))

  module _ (lawful : Lawful m) (σ : State) (e : Side) (v : ℕ → ℕ → ℕ) where
    abbrev side : ℕ → ℕ → ℕ
    side = side_of e σ

    claims_go : (ps : List Pair) (d : Draft) → Distinct ps → ((s t : ℕ) → among s t ps ≡ true → d s t ≡ None) → ((s t : ℕ) → among s t ps ≡ true → Fits m K e side s t (v s t))
        → Goes m K (with_phase σ (claiming e d)) (map (claim_of v) ps) (with_phase σ (claiming e (put_all (λ s t. Some (v s t)) ps d)))
    unfolding put_all
    claims_go [] d dist none fit = stay
    claims_go (p ∷ ps) d (new, dist) none fit =
        go _ (claimable m K (with_phase σ (claiming e d)) e d p.0 p.1 _ refl (none _ _ (among_head p ps)) (fit _ _ (among_head p ps))) (Rules.claimed e d refl)
        (claims_go ps _ dist (λ s t h. put_rest p ps _ d s t new h ∙ none s t (among_tail s t p ps h)) (λ s t h. fit s t (among_tail s t p ps h)))

    -- a showing that shows the claim is accepted
    shown_free : (d : Draft) (b : Marks) (s t : ℕ) (ws : List ℤ) → Judged m s t → d s t ≡ Some (v s t) → b s t ≡ false → Shown m e (over K (laid d side)) s t ws (v s t)
        → Free m K (with_phase σ (showing e d b)) (Show s t ws)
    shown_free d b s t ws j is none shown = elim (cases_result (m.weigh e (over K (laid d side)) s t ws)) [
      | inl (c, w) ↦ showable m K (with_phase σ (showing e d b)) e d b s t (v s t) c ws refl (j.first_in, j.second_in) is none w
          (λ short. grind (arith, answer_strongest m lawful e _ s t ws c (v s t) w shown))
      | inr (f, w) ↦ absurd (fault_unshown m lawful e _ s t ws f (v s t) w shown)
    ]

    shows_go : (w : ℕ → ℕ → List ℤ) (qs : List Pair) (d : Draft) (b : Marks) → Distinct qs → ((s t : ℕ) → among s t qs ≡ true → b s t ≡ false)
        → ((s t : ℕ) → among s t qs ≡ true → Judged m s t × (d s t ≡ Some (v s t)) × Shown m e (over K (laid d side)) s t (w s t) (v s t))
        → Goes m K (with_phase σ (showing e d b)) (map (show_of w) qs) (with_phase σ (showing e d (put_all (λ s t. true) qs b)))
    unfolding put_all
    shows_go w [] d b dist none sh = stay
    shows_go w (p ∷ qs) d b (new, dist) none sh =
        let (j, is, shown) = sh p.0 p.1 (among_head p qs) in
        go _ (shown_free d b p.0 p.1 _ j is (none _ _ (among_head p qs)) shown) (Rules.shown e d b refl)
        (shows_go w qs d _ dist (λ s t h. put_rest p qs _ b s t new h ∙ none s t (among_tail s t p qs h)) (λ s t h. sh s t (among_tail s t p qs h)))

-- ---- one draft

abbrev drafted : (ℕ → ℕ → ℕ) → List Pair → Draft
drafted g ps = put_all (λ s t. Some (g s t)) ps (λ s t. None)

marked : List Pair → Marks
marked qs = put_all (λ s t. true) qs (λ s t. false)

-- the claims laid over f are g where they stand, and f elsewhere
drafted_at : (g f : ℕ → ℕ → ℕ) (ps : List Pair) (s t : ℕ) → laid (drafted g ps) f s t ≡ cond (among s t ps) (g s t) (f s t)
drafted_at g f ps s t = let at = put_all_at (λ s t. Some (g s t)) ps (λ s t. None) s t in grind arith

module _ {F : Type 0} (m : Meaning F) (lawful : Lawful m) (K : ℕ) where
  few : {s : ℕ} → s < m.sections → s < 32
  few h = omega (arith, lawful.sections_most)

  module _ (e : Side) (σ : State) (g : ℕ → ℕ → ℕ) (w : ℕ → ℕ → List ℤ) (ps qs : List Pair) (P : ℕ → ℕ → Type 0) where
    draft_goes : σ.phase ≡ resting → Lists P ps → Lists P qs → (s t : ℕ) → P s t
        → ((s t : ℕ) → P s t → Fits m K e (side_of e σ) s t (g s t))
        → ((s t : ℕ) → P s t → Shown m e (over K g) s t (w s t) (g s t))
        → ((x y : ℕ) → x < m.sections → y < m.sections → among x y ps ≡ false → Weaker e (side_of e σ x y) (g x y))
        → Goes m K σ (draft_calls e g w ps qs) (written e (drafted g ps) (with_phase σ (showing e (drafted g ps) (marked qs))))
    unfolding marked
    draft_goes quiet lp lq s t one fit sh off =
        let D : Draft = drafted g ps in
        let f : ℕ → ℕ → ℕ = side_of e σ in
        let j = (fit s t one).judged in
        let has : (x y : ℕ) → P x y → D x y ≡ Some (g x y) = λ x y h. rw (put_all_at (λ s t. Some (g s t)) ps (λ s t. None) x y, lp.every x y h) in
        let near : Tighter e m.sections (over K (laid D f)) (over K g) = record {
          tops = refl;
          entries = λ x y hx hy. grind (arith, drafted_at g f ps x y, off x y hx hy);
        } in
        go _ (openable m K σ e quiet) Rules.opens
        (then m K (claims_go m K lawful σ e g ps (λ s t. None) lp.distinct (λ x y h. refl) (λ x y h. fit x y (lp.only x y h)))
        (go _ (closable m K (with_phase σ (claiming e D)) e D s t (g s t) refl (few j.first_in) (few j.second_in) (has s t one)) (Rules.closes e D refl)
        (then m K (shows_go m K lawful σ e g w qs D (λ s t. false) lq.distinct (λ x y h. refl)
        (λ x y h. let q = lq.only x y h in ((fit x y q).judged, has x y q, lawful.monotone e _ _ x y _ _ near (sh x y q))))
        (go _ (enterable m K (with_phase σ (showing e D (marked qs))) e D (marked qs) refl (λ x y v hx hy is.
        grind (arith, put_all_at (λ s t. Some (g s t)) ps (λ s t. None) x y, put_all_at (λ s t. true) qs (λ s t. false) x y, lq.every x y, lp.only x y))) (Rules.enters e D (marked qs) refl) stay))))

-- ---- the whole certificate

module _ {F : Type 0} (m : Meaning F) (K : ℕ) where
  enters_by : (cert : Certificate m K) (σ τ : State) (cs : List Call) → Goes m K σ cs τ → Settles m K cert τ → Enters m K cert σ cs
  enters_by cert σ τ cs g settles =
      let (h, run, is, un) = pages_of m K g in
      record {
        pages = h;
        end = τ;
        run = run;
        sends = is;
        settles = λ h' ρ run' e. let (same, end) = by_calls_alone m K run run' (e ∙ sym is) in rw (same, end) (un, settles);
      }

  settles_by : (cert : Certificate m K) (τ : State) → ((s t : ℕ) → Judged m s t → (τ.lower s t ≡ cert.entry s t) × (τ.upper s t ≡ cert.entry s t)) → Settles m K cert τ
  settles_by cert τ both s t j o ρ (refuses r (Rules.ask_80 out) least) = absurd (judged_inside m K j out)
  settles_by cert τ both s t j o ρ (accepts ok Rules.asks) = let (l, u) = both s t j in rw (l, u, j.together) (grind (arith, nat_tests))

module _ {F : Type 0} (m : Meaning F) (lawful : Lawful m) (K : ℕ) (k : InRange K) (cert : Certificate m K) (σ : State) (sound : Sound m K σ) where
  abbrev table : Distances
  table = over K cert.entry

  supported : Supported m table
  supported = record { top_least = k.0; bounded = cert.bounded; apart = cert.apart; judged = λ s t j low. let (words, shown) = cert.paired s t j in (cert.pairing s t, words, shown) }

  under_upper : (x y : ℕ) → x < m.sections → y < m.sections → cert.entry x y ≤ σ.upper x y
  under_upper x y hx hy = le_of_mul-le-mul_right (below m lawful table (over K σ.upper) (supported_bounding m lawful _ sound.upper) (λ s t hs ht. elim (cases_Bool (m.apart s t)) [
    | inl a ↦ inl (rw (cert.apart s t hs ht a, sound.upper.apart s t hs ht a) (omega arith))
    | inr a ↦ elim (dec_lt 0 (cert.entry s t)) [
      | yes some ↦ let j : Judged m s t = record { first_in = hs; second_in = ht; together = a } in inr (j, cert.bounded s t hs ht, (cert.potentials s t, (cert.backed s t j some).1))
      | no none ↦ let z : cert.entry s t ≡ 0 = omega arith in inl (rw z (omega arith))
    ]
  ]) x y hx hy) k.0

  over_lower : (x y : ℕ) → x < m.sections → y < m.sections → σ.lower x y ≤ cert.entry x y
  over_lower x y hx hy = le_of_mul-le-mul_right (sound.lower table (supported_bounding m lawful table supported) x y hx hy) k.0

  module _ (ps qs : List Pair) (lp : Lists (Judged m) ps) (lq : Lists (Judged m) qs) where
    abbrev mid : State
    mid = record { upper = laid (drafted cert.entry ps) σ.upper; lower = σ.lower; phase = resting }

    first_goes : σ.phase ≡ resting → Goes m K σ (draft_calls Upper cert.entry cert.pairing ps qs) mid
    first_goes quiet = draft_goes m lawful K Upper σ cert.entry cert.pairing ps qs (Judged m) quiet lp lq 0 0
        (record { first_in = lawful.sections_least; second_in = lawful.sections_least; together = lawful.self_judged 0 lawful.sections_least })
        (λ s t j. record { judged = j; tight = under_upper s t j.first_in j.second_in; top = cert.bounded s t j.first_in j.second_in })
        (λ s t j. (cert.paired s t j).1)
        (λ x y hx hy out. elim (cases_Bool (m.apart x y)) [
          | inl a ↦ rw (cert.apart x y hx hy a) (sound.upper.bounded x y hx hy)
          | inr a ↦ absurd_bool (lp.every x y (record { first_in = hx; second_in = hy; together = a })) out
        ])

    mid_settles : ((s t : ℕ) → Judged m s t → cert.entry s t ≡ 0) → Settles m K cert mid
    mid_settles zeros = settles_by m K cert mid (λ s t j.
        (omega (arith, over_lower s t j.first_in j.second_in, zeros s t j), rw (drafted_at cert.entry σ.upper ps s t, lp.every s t j)))

    module _ (us vs : List Pair) (lu : Lists (Positive m K cert) us) (lv : Lists (Positive m K cert) vs) where
      abbrev last : State
      last = record { upper = laid (drafted cert.entry ps) σ.upper; lower = laid (drafted cert.entry us) σ.lower; phase = resting }

      -- the lower entry elsewhere reaches the certificate's
      off : (x y : ℕ) → x < m.sections → y < m.sections → among x y us ≡ false → cert.entry x y ≤ σ.lower x y
      off x y hx hy out = elim (cases_Bool (m.apart x y)) [
        | inl a ↦ rw (sound.lower_apart x y hx hy a) (cert.bounded x y hx hy)
        | inr a ↦ elim (dec_lt 0 (cert.entry x y)) [
          | yes some ↦ absurd_bool (lu.every x y (record { judged = record { first_in = hx; second_in = hy; together = a }; above = some })) out
          | no none ↦ omega arith
        ]
      ]

      second_goes : (s t : ℕ) → Positive m K cert s t → Goes m K mid (draft_calls Lower cert.entry cert.potentials us vs) last
      second_goes s t one = draft_goes m lawful K Lower mid cert.entry cert.potentials us vs (Positive m K cert) refl lu lv s t one
          (λ x y h. let j = h.judged in record { judged = j; tight = over_lower x y j.first_in j.second_in; top = cert.bounded x y j.first_in j.second_in })
          (λ x y h. (cert.backed x y h.judged h.above).1)
          off

      last_settles : Settles m K cert last
      last_settles = settles_by m K cert last (λ s t j. (
        grind (arith, drafted_at cert.entry σ.lower us s t, over_lower s t j.first_in j.second_in, off s t j.first_in j.second_in),
        rw (drafted_at cert.entry σ.upper ps s t, lp.every s t j),
      ))

  sent_enters : {cs : List Call} → σ.phase ≡ resting → Sent m K cert cs → Enters m K cert σ cs
  sent_enters quiet (all_0 ps qs lp lq zeros) = enters_by m K cert σ _ _ (first_goes ps qs lp lq quiet) (mid_settles ps qs lp lq zeros)
  sent_enters quiet (some_above ps qs us vs s t lp lq lu lv one) =
      enters_by m K cert σ _ _ (then m K (first_goes ps qs lp lq quiet) (second_goes ps qs lp lq us vs lu lv s t one)) (last_settles ps qs lp lq us vs lu lv)

pub certificate_enters : {F : Type 0} (m : Meaning F) → Lawful m → Always m (λ K σ h. TakesCertificates m K σ)
certificate_enters m lawful K k σ h run quiet cert cs sent = sent_enters m lawful K k cert σ (always_sound m lawful K k σ h run) quiet sent
