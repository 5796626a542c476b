-- The choice, as the code finds it: the first slot that is listed, has the highest rank that stays, and has a leader. Nothing is assumed.
use mathlib.Core.Path.{◌≡◌, refl, sym, ap, ◌∙◌, subst}
use mathlib.Core.Bool.{Bool, true, false, cond, not, ◌&&◌, ◌||◌, or-false}
use mathlib.Core.List.{List, [], ◌∷◌, ◌++◌}
use Prim.Native.Nat.{ℕ, zero, suc, ◌≤◌, ◌<◌}
use native.Mathlib.Omega.{arith}
use lib.Dec.{T, ltb, eqb}
use borrow.Author.Tests.{ltb-true, ltb-false, eqb-true, not-true, lt-ltb, le-ltb, eq-eqb, ne_eqb}
use Rattle.cluster.specs.Config.{Config}
use Rattle.protocol.specs.Values.{Candidate, Held, same_candidate, is_blank_def, below, rank}
use Rattle.protocol.specs.Primitives.{real}
use Rattle.protocol.specs.Rules.{ByServer, any, keep, gather, live, highest}
use Rattle.protocol.proofs.Equal.{test_ext}
use Rattle.decide.specs.Listing.{enters}
use Rattle.decide.specs.Steps.{blank_rank, stays, raised, top_rank}
use Rattle.protocol.proofs.Ranks.{below-rank}
use Rattle.decide.proofs.Ranks.{blank-low, not-blank-high}
use Rattle.decide.proofs.Tops.{keep_append, keep-keep, any_member, any-true, raise_law, is_live_def, live-stays, keep-gather, any-gather, top_least, top-most, top-stays}
use Rattle.decide.proofs.Gathered.{any_append, gather_more, kept_out}

module _ (s : Config) (m : ByServer Bool) (g : ByServer Held) (held : ByServer Candidate)
    (W : (i : ℕ) → (held i).stamp.writer < 256) (U : (i : ℕ) → (g i).stamp.writer < 256) where
  -- a rank is below the highest one where a live candidate's is higher
  pub below_top : (n x : ℕ) → blank_rank ≤ x → ltb x (top_rank s m g held n) ≡ any (λ d. ltb x (rank d.stamp))
      (keep (is_live_def s m g held W U) (gather held n))
  unfolding top_rank raised any keep gather
  below_top zero x h = le-ltb x blank_rank h
  below_top (suc n) x h =
      go (enters held (suc n)) refl (below_top n) ∙ sym (ap (λ (l : List Candidate). any (λ d. ltb x (rank d.stamp))
      (keep (is_live_def s m g held W U) l)) (gather_more held n))
    where
      one : (b : Bool) → any (λ (d : Candidate). ltb x (rank d.stamp)) (cond b (held (suc n) ∷ []) []) ≡ (b && ltb x (rank (held (suc n)).stamp))
      one true = or-false (ltb x (rank (held (suc n)).stamp))
      one false = refl

      -- a twin raises nothing
      twin : ((y : ℕ) → blank_rank ≤ y → ltb y (top_rank s m g held n) ≡ any (λ d. ltb y (rank d.stamp))
          (keep (is_live_def s m g held W U) (gather held n)))
          → any (same_candidate (held (suc n))) (gather held n) ≡ true → (b d : Bool) → ltb (top_rank s m g held n) (rank (held (suc n)).stamp) ≡ b →
          stays s m g (rank (held (suc n)).stamp) ≡ d
          → cond (b && d) (rank (held (suc n)).stamp) (top_rank s m g held n) ≡ top_rank s m g held n
      twin f q false d e k = refl
      twin f q true false e k = refl
      twin f q true true e k =
          let z : any (λ d. ltb (top_rank s m g held n) (rank d.stamp)) (keep (is_live_def s m g held W U) (gather held n)) ≡ true =
          any_member (held (suc n)) (λ d. ltb (top_rank s m g held n) (rank d.stamp)) (is_live_def s m g held W U) (gather held n) q
          (live-stays s m g held W U (suc n) ∙ k) e in
          let w : ltb (top_rank s m g held n) (top_rank s m g held n) ≡ true = f (top_rank s m g held n) (top_least s m g held W U n) ∙ z in
          absurd (let l = ltb-true (top_rank s m g held n) (top_rank s m g held n) w in omega arith)

      go : (b : Bool) → enters held (suc n) ≡ b
          → ((y : ℕ) → blank_rank ≤ y → ltb y (top_rank s m g held n) ≡ any (λ d. ltb y (rank d.stamp))
          (keep (is_live_def s m g held W U) (gather held n)))
          → ltb x (cond (ltb (top_rank s m g held n) (rank (held (suc n)).stamp) && stays s m g (rank (held (suc n)).stamp))
          (rank (held (suc n)).stamp) (top_rank s m g held n))
          ≡ any (λ d. ltb x (rank d.stamp)) (keep (is_live_def s m g held W U) (cond b (gather held n ++ (held (suc n) ∷ [])) (gather held n)))
      go true e f =
          raise_law x (top_rank s m g held n) (rank (held (suc n)).stamp) (stays s m g (rank (held (suc n)).stamp))
          ∙ rw (
            keep_append (is_live_def s m g held W U) (gather held n) (held (suc n) ∷ []),
            any_append (λ d. ltb x (rank d.stamp))
                (keep (is_live_def s m g held W U) (gather held n)) (keep (is_live_def s m g held W U) (held (suc n) ∷ [])),
          )
          (ap (λ (b : Bool). b || (stays s m g (rank (held (suc n)).stamp) && ltb x (rank (held (suc n)).stamp))) (f x h)
          ∙ ap (λ (b : Bool). any (λ (d : Candidate). ltb x (rank d.stamp)) (keep (is_live_def s m g held W U) (gather held n)) || b)
          (ap (λ (b : Bool). b && ltb x (rank (held (suc n)).stamp)) (sym (live-stays s m g held W U (suc n))) ∙ sym
          (one (is_live_def s m g held W U (held (suc n))))))
      go false e f = by-blank (is_blank_def (held (suc n)).stamp) refl
        where
          by-blank : (y : Bool) → is_blank_def (held (suc n)).stamp ≡ y
              → ltb x (cond (ltb (top_rank s m g held n) (rank (held (suc n)).stamp) && stays s m g (rank (held (suc n)).stamp))
              (rank (held (suc n)).stamp) (top_rank s m g held n))
              ≡ any (λ d. ltb x (rank d.stamp)) (keep (is_live_def s m g held W U) (gather held n))
          by-blank true q =
              rw (le-ltb (top_rank s m g held n) (rank (held (suc n)).stamp) (omega
              (arith, blank-low (held (suc n)).stamp (W (suc n)) q, top_least s m g held W U n))) (f x h)
          by-blank false q =
              ap (ltb x) (twin f (kept_out held n e q) (ltb (top_rank s m g held n) (rank (held (suc n)).stamp))
              (stays s m g (rank (held (suc n)).stamp)) refl refl) ∙ f x h

  -- some candidate is live where the highest rank is not the blank one
  any-live : (n : ℕ) → ltb blank_rank (top_rank s m g held n) ≡ any (λ d. true) (keep (is_live_def s m g held W U) (gather held n))
  any-live n =
      below_top n blank_rank (omega arith)
      ∙ any-gather s m g held W U (λ d. ltb blank_rank (rank d.stamp)) (λ d. true) (is_live_def s m g held W U) n
      (λ i e. lt-ltb blank_rank (rank (held (suc i)).stamp) (not-blank-high (held (suc i)).stamp e))

  pub live_none : top_rank s m g held s.servers ≤ blank_rank → live real s m g (gather held s.servers) ≡ []
  unfolding live
  live_none h = any-true (keep (is_live_def s m g held W U) (gather held s.servers)) (sym (any-live s.servers) ∙ le-ltb blank_rank
      (top_rank s m g held s.servers) h)

  pub live_some : blank_rank < top_rank s m g held s.servers → any (λ d. true) (live real s m g (gather held s.servers)) ≡ true
  unfolding live
  live_some h = sym (any-live s.servers) ∙ lt-ltb blank_rank (top_rank s m g held s.servers) h

  -- the highest live candidates are those of the highest rank
  of-top : (i : ℕ) → i < s.servers → blank_rank < top_rank s m g held s.servers → (b : Bool) → stays s m g (rank (held (suc i)).stamp) ≡ b
      → (b && not (ltb (rank (held (suc i)).stamp) (top_rank s m g held s.servers))) ≡ eqb (rank (held (suc i)).stamp)
      (top_rank s m g held s.servers)
  of-top i l h true e =
      let k = top-most s m g held W U s.servers i l e in
      test_ext (not (ltb (rank (held (suc i)).stamp) (top_rank s m g held s.servers)))
      (eqb (rank (held (suc i)).stamp) (top_rank s m g held s.servers))
      (λ q.
      let z = ltb-false (rank (held (suc i)).stamp) (top_rank s m g held s.servers)
      (not-true (ltb (rank (held (suc i)).stamp) (top_rank s m g held s.servers)) q) in
      eq-eqb (rank (held (suc i)).stamp) (top_rank s m g held s.servers) (omega arith))
      (λ q. let z = eqb-true (rank (held (suc i)).stamp) (top_rank s m g held s.servers) q in ap not
      (le-ltb (rank (held (suc i)).stamp) (top_rank s m g held s.servers) (omega arith)))
  of-top i l h false e =
      sym (ne_eqb (rank (held (suc i)).stamp) (top_rank s m g held s.servers) (λ q. subst T
      (sym (top-stays s m g held W U s.servers h) ∙ ap (stays s m g) (sym q) ∙ e) tt))

  pub highest-top : blank_rank < top_rank s m g held s.servers
      → highest real s (live real s m g (gather held s.servers)) ≡ keep (λ c. eqb (rank c.stamp) (top_rank s m g held s.servers))
      (gather held s.servers)
  unfolding highest live
  highest-top h =
      keep-keep (λ c. not (any (λ d. below c.stamp d.stamp) (keep (is_live_def s m g held W U) (gather held s.servers)))) (is_live_def s m g held W U)
      (gather held s.servers)
      ∙ keep-gather s m g held W U
      (λ c. is_live_def s m g held W U c && not (any (λ d. below c.stamp d.stamp) (keep (is_live_def s m g held W U) (gather held s.servers))))
      (λ c. eqb (rank c.stamp) (top_rank s m g held s.servers)) s.servers
      (λ i l e.
      ap (λ (b : Bool). is_live_def s m g held W U (held (suc i)) && not b)
      (any-gather s m g held W U (λ d. below (held (suc i)).stamp d.stamp) (λ d. ltb (rank (held (suc i)).stamp) (rank d.stamp))
      (is_live_def s m g held W U) s.servers
      (λ j k. below-rank (held (suc i)).stamp (held (suc j)).stamp (W (suc i)) (W (suc j)))
      ∙ sym (below_top s.servers (rank (held (suc i)).stamp) (let z = not-blank-high (held (suc i)).stamp e in omega arith)))
      ∙ ap (λ (b : Bool). b && not (ltb (rank (held (suc i)).stamp) (top_rank s m g held s.servers))) (live-stays s m g held W U (suc i))
      ∙ of-top i l h (stays s m g (rank (held (suc i)).stamp)) refl)
