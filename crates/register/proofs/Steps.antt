-- The outcome of each call, check by check.
use Rattle.std.proofs.Common.{◌≡◌, ℕ, ◌<◌, true, false, not, ◌&&◌, eqb, ltb, ◌≢◌, List, ℤ, is_some, Some, None, Ok, Err, sym, refl, ap, inl, inr, ⊎_elim}
use Rattle.std.proofs.lemmas.Bool.{and_parts, and_cases, ltb-true, ltb-false, not-true, not-false}
use Rattle.chart.specs.declared.side.Side.{Side}
use Rattle.chart.specs.Meaning.{Meaning}
use Rattle.history.specs.declared.verdict.Verdict.{Verdict}
use Rattle.history.specs.declared.refusal.Refusal.{Refusal}
use Rattle.history.specs.declared.refusal.Refusal.TheVariants.{NotResting, NotClaiming, ClaimOutside, ClaimApart, ClaimedTwice, ClaimValue, CloseNotClaiming, NoClaims, NotShowing, ShowOutside, NoClaim, ShownAlready, Fault, Bound, EnterNotShowing, Unshown, Resting, AskOutside}
use Rattle.history.specs.Calls.{Open, Claim, Close, Show, Enter, Abandon, Ask, count, entries}
use Rattle.history.specs.Rules
use Rattle.history.specs.Rules.{State, resting, claiming, showing, Draft, Marks, put, claims, unshown, side_of, with_phase, written, draft_of, verdict_of, weighed_in, Short, Outside, Unfit, Ground, Step, refuses, accepts}
use Rattle.history.proofs.Cases.{absurd_bool, absurd_option, cases_option}
use Rattle.history.proofs.Sound.{Fits}
use Rattle.history.proofs.Grounds.{inside, openable, claimable, showable, enterable}
use Rattle.history.proofs.Outcomes.{find, numbered, From, start, passed, past_faults}
use Rattle.claims.specs.Scan.{waits, First}

module _ {F : Type 0} (m : Meaning F) (K : ℕ) where
  abbrev Both : ℕ → ℕ → Type 0
  Both s t = (s < m.sections) × (t < m.sections)

  pub inside_both : (s t : ℕ) → true ≡ (ltb s m.sections && ltb t m.sections) → Both s t
  inside_both s t h = let (p, q) = and_parts _ _ (sym h) in (ltb-true _ _ p, ltb-true _ _ q)

  pub outside_one : (s t : ℕ) → false ≡ (ltb s m.sections && ltb t m.sections) → Outside m K s t
  outside_one s t h = ⊎_elim (λ p. inl (ltb-false _ _ p)) (λ p. inr (ltb-false _ _ p)) (and_cases _ _ (sym h))

  module _ (σ : State) where
    -- ---- ask

    pub ask_outside : (s t : ℕ) → Outside m K s t → Step m K σ (Ask s t) (Err AskOutside) σ
    ask_outside s t o = refuses AskOutside (Rules.ask_80 o) (start m K σ (Ask s t))

    ask_free : (s t : ℕ) → Both s t → (q : Refusal F) → Ground m K σ (Ask s t) q → ⊥
    ask_free s t i q (Rules.ask_80 o) = inside m K i o

    pub ask_inside : (s t : ℕ) → Both s t → Step m K σ (Ask s t) (Ok (entries (σ.lower s t) (σ.upper s t) (verdict_of (m.apart s t) (eqb (σ.lower s t) (σ.upper s t))))) σ
    ask_inside s t i = accepts (ask_free s t i) Rules.asks

    pub ask_answers : (s t l u : ℕ) (v : Verdict) → Both s t → l ≡ σ.lower s t → u ≡ σ.upper s t → v ≡ verdict_of (m.apart s t) (eqb l u) → Step m K σ (Ask s t) (Ok (entries l u v)) σ
    ask_answers s t l u v i el eu ev = rw (ev, el, eu) (ask_inside s t i)

    -- ---- open

    pub open_resting : (e : Side) → σ.phase ≡ resting → Step m K σ (Open e) (Ok (count 0)) (with_phase σ (claiming e (λ s t. None)))
    open_resting e h = accepts (openable m K σ e h) Rules.opens

    pub open_busy : (e : Side) → σ.phase ≢ resting → Step m K σ (Open e) (Err NotResting) σ
    open_busy e h = refuses NotResting (Rules.open_20 h) (start m K σ (Open e))

    -- ---- abandon

    pub abandon_resting : σ.phase ≡ resting → Step m K σ Abandon (Err Resting) σ
    abandon_resting h = refuses Resting (Rules.abandon_70 h) (start m K σ Abandon)

    abandon_free : σ.phase ≢ resting → (q : Refusal F) → Ground m K σ Abandon q → ⊥
    abandon_free h q (Rules.abandon_70 r) = h r

    pub abandon_busy : σ.phase ≢ resting → Step m K σ Abandon (Ok (count (claims (draft_of σ.phase)))) (with_phase σ resting)
    abandon_busy h = accepts (abandon_free h) Rules.abandons

    -- ---- claim and close, where no draft takes claims

    pub claim_idle : (s t v : ℕ) → ((e : Side) (d : Draft) → σ.phase ≢ claiming e d) → Step m K σ (Claim s t v) (Err NotClaiming) σ
    claim_idle s t v h = refuses NotClaiming (Rules.claim_30 h) (start m K σ (Claim s t v))

    pub close_idle : ((e : Side) (d : Draft) → σ.phase ≢ claiming e d) → Step m K σ Close (Err CloseNotClaiming) σ
    close_idle h = refuses CloseNotClaiming (Rules.close_40 h) (start m K σ Close)

    -- ---- claim and close, where one does

    module _ (e : Side) (d : Draft) (ph : σ.phase ≡ claiming e d) where
      module _ (s t v : ℕ) where
        from_31 : From m K σ (Claim s t v) 31
        unfolding find numbered
        from_31 = passed m K σ (Claim s t v) NotClaiming refl (start m K σ (Claim s t v)) (elim [ Rules.claim_30 n ↦ n e d ph ])

        pub claim_outside : Outside m K s t → Step m K σ (Claim s t v) (Err ClaimOutside) σ
        claim_outside o = refuses ClaimOutside (Rules.claim_31 o) from_31

        module _ (i : Both s t) where
          from_32 : From m K σ (Claim s t v) 32
          unfolding find numbered
          from_32 = passed m K σ (Claim s t v) ClaimOutside refl from_31 (elim [ Rules.claim_31 o ↦ inside m K i o ])

          pub claim_apart : m.apart s t ≡ true → Step m K σ (Claim s t v) (Err ClaimApart) σ
          claim_apart a = refuses ClaimApart (Rules.claim_32 a) from_32

          module _ (j : m.apart s t ≡ false) where
            from_33 : From m K σ (Claim s t v) 33
            unfolding find numbered
            from_33 = passed m K σ (Claim s t v) ClaimApart refl from_32 (elim [ Rules.claim_32 a ↦ absurd_bool a j ])

            pub claim_twice : is_some (d s t) ≡ true → Step m K σ (Claim s t v) (Err ClaimedTwice) σ
            claim_twice some = elim (cases_option (d s t)) [
              | inl none ↦ absurd_bool some (ap is_some none)
              | inr (w, is) ↦ refuses ClaimedTwice (Rules.claim_33 e d w ph is) from_33
            ]

            module _ (none : d s t ≡ None) where
              from_34 : From m K σ (Claim s t v) 34
              unfolding find numbered
              from_34 = passed m K σ (Claim s t v) ClaimedTwice refl from_33 (elim [ Rules.claim_33 e' d' w ph' is ↦ let p : d' ≡ d = cc in absurd_option none (rw p at is) ])

              pub claim_unfit : Unfit m K e σ s t v → Step m K σ (Claim s t v) (Err ClaimValue) σ
              claim_unfit u = refuses ClaimValue (Rules.claim_34 e d ph u) from_34

              pub claim_fits : Fits m K e (side_of e σ) s t v → Step m K σ (Claim s t v) (Ok (count (claims (put s t (Some v) d)))) (with_phase σ (claiming e (put s t (Some v) d)))
              claim_fits f = accepts (claimable m K σ e d s t v ph none f) (Rules.claimed e d ph)

              pub claim_answers : (e' : Side) (d' : Draft) (n : ℕ) → Fits m K e (side_of e σ) s t v → e' ≡ e → d' ≡ put s t (Some v) d → n ≡ claims d'
                  → Step m K σ (Claim s t v) (Ok (count n)) (with_phase σ (claiming e' d'))
              claim_answers e' d' n f ee ed en = rw (en, ed, ee) (claim_fits f)

      pub close_empty : claims d ≡ 0 → Step m K σ Close (Err NoClaims) σ
      unfolding find numbered
      close_empty none = refuses NoClaims (Rules.close_41 e d ph none) (passed m K σ Close CloseNotClaiming refl (start m K σ Close) (elim [ Rules.close_40 n ↦ n e d ph ]))

      close_free : claims d ≢ 0 → (q : Refusal F) → Ground m K σ Close q → ⊥
      close_free some q (Rules.close_40 n) = n e d ph
      close_free some q (Rules.close_41 e' d' ph' none) = let p : d' ≡ d = cc in some (rw p at none)

      pub close_some : claims d ≢ 0 → Step m K σ Close (Ok (count (claims d))) (with_phase σ (showing e d (λ s t. false)))
      close_some some = accepts (close_free some) (Rules.closes e d ph)

    -- ---- show and enter, where no draft takes showings

    pub show_idle : (s t : ℕ) (ws : List ℤ) → ((e : Side) (d : Draft) (b : Marks) → σ.phase ≢ showing e d b) → Step m K σ (Show s t ws) (Err NotShowing) σ
    show_idle s t ws h = refuses NotShowing (Rules.show_50 h) (start m K σ (Show s t ws))

    pub enter_idle : ((e : Side) (d : Draft) (b : Marks) → σ.phase ≢ showing e d b) → Step m K σ Enter (Err EnterNotShowing) σ
    enter_idle h = refuses EnterNotShowing (Rules.enter_60 h) (start m K σ Enter)

    -- ---- show and enter, where one does

    module _ (e : Side) (d : Draft) (b : Marks) (ph : σ.phase ≡ showing e d b) where
      module _ (s t : ℕ) (ws : List ℤ) where
        from_51 : From m K σ (Show s t ws) 51
        unfolding find numbered
        from_51 = passed m K σ (Show s t ws) NotShowing refl (start m K σ (Show s t ws)) (elim [ Rules.show_50 n ↦ n e d b ph ])

        pub show_outside : Outside m K s t → Step m K σ (Show s t ws) (Err ShowOutside) σ
        show_outside o = refuses ShowOutside (Rules.show_51 o) from_51

        module _ (i : Both s t) where
          from_52 : From m K σ (Show s t ws) 52
          unfolding find numbered
          from_52 = passed m K σ (Show s t ws) ShowOutside refl from_51 (elim [ Rules.show_51 o ↦ inside m K i o ])

          pub show_unclaimed : d s t ≡ None → Step m K σ (Show s t ws) (Err NoClaim) σ
          show_unclaimed none = refuses NoClaim (Rules.show_52 e d b ph none) from_52

          module _ (v : ℕ) (is : d s t ≡ Some v) where
            from_53 : From m K σ (Show s t ws) 53
            unfolding find numbered
            from_53 = passed m K σ (Show s t ws) NoClaim refl from_52 (elim [ Rules.show_52 e' d' b' ph' not ↦ let p : d' ≡ d = cc in absurd_option (rw p at not) is ])

            pub show_again : b s t ≡ true → Step m K σ (Show s t ws) (Err ShownAlready) σ
            show_again did = refuses ShownAlready (Rules.show_53 e d b ph did) from_53

            module _ (new : b s t ≡ false) where
              from_54 : From m K σ (Show s t ws) 54
              unfolding find numbered
              from_54 = passed m K σ (Show s t ws) ShownAlready refl from_53 (elim [ Rules.show_53 e' d' b' ph' did ↦ let p : b' ≡ b = cc in absurd_bool (rw p at did) new ])

              pub show_fault : (f : F) → m.weigh e (weighed_in m K e d σ) s t ws ≡ Err f → Step m K σ (Show s t ws) (Err (Fault f)) σ
              show_fault f w = refuses (Fault f) (Rules.show_54 e d b f ph w) from_54

              module _ (c : ℕ) (w : m.weigh e (weighed_in m K e d σ) s t ws ≡ Ok c) where
                pub show_short : (x : Side) → x ≡ e → Short x c v → Step m K σ (Show s t ws) (Err (Bound x c)) σ
                show_short x ex short = rw ex (refuses (Bound e c) (Rules.show_55 e d b v c ph is w (rw ex at short)) (past_faults m K σ s t c ws e d b ph w from_54))

                pub show_answers : (x : Side) (b' : Marks) (n : ℕ) → x ≡ e → (Short x c v → ⊥) → b' ≡ put s t true b → n ≡ unshown d b' → Step m K σ (Show s t ws) (Ok (count n)) (with_phase σ (showing e d b'))
                show_answers x b' n ex reach eb en = rw (en, eb) (accepts (showable m K σ e d b s t v c ws ph i is new w (rw ex at reach)) (Rules.shown e d b ph))

      waits_not : (x y w : ℕ) → waits d b x y ≡ false → d x y ≡ Some w → b x y ≡ true
      waits_not x y w h is = elim (and_cases (is_some (d x y)) (not (b x y)) h) [ inl p ↦ absurd_bool (ap is_some is) p | inr p ↦ not-false (b x y) p ]

      pub enter_first : (p : ℕ × ℕ) → First d b (Some p) → Step m K σ Enter (Err (Unshown p.0 p.1)) σ
      unfolding find numbered
      enter_first p (hs, ht, here, before) =
          let (some, new) = and_parts (is_some (d p.0 p.1)) (not (b p.0 p.1)) here in
          elim (cases_option (d p.0 p.1)) [
            | inl none ↦ absurd_bool some (ap is_some none)
            | inr (v, is) ↦
                refuses (Unshown p.0 p.1)
                (Rules.enter_61 e d b p.0 p.1 v ph hs ht is (not-true _ new) (λ x y w hx hy first has. waits_not x y w (before x y hx hy first) has))
                (passed m K σ Enter EnterNotShowing refl (start m K σ Enter) (elim [ Rules.enter_60 n ↦ n e d b ph ]))
          ]

      pub enter_all : First d b None → Step m K σ Enter (Ok (count (claims d))) (written e d σ)
      enter_all none = accepts (enterable m K σ e d b ph (λ s t v hs ht is. waits_not s t v (none s t hs ht) is)) (Rules.enters e d b ph)
