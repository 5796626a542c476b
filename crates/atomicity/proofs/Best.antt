-- The highest valid candidate of a request that judges: it is the one begun with or a valid one of the list, and no valid one is above it. And the
-- candidate on which the answer to a filter or a repair rests.
-- Assumes nothing.
use mathlib.Core.Path.{◌≡◌, refl, sym, subst}
use mathlib.Core.Bool.{Bool, true, false, cond, ◌&&◌}
use mathlib.Core.List.{List, [], ◌∷◌}
use mathlib.Core.Logic.{◌⊎◌, inl, inr}
use Prim.Native.Nat.{ℕ}
use Rattle.cluster.proofs.Tests.{untrue}
use Rattle.protocol.specs.Values.{Candidate, below, blank_candidate, blank_stamp}
use Rattle.protocol.specs.Packet.{Body}
use Rattle.protocol.specs.Packet.{repair}
use Rattle.protocol.specs.Server.{Server, best}
use Rattle.atomicity.specs.Lists.{In}
use Rattle.atomicity.specs.Steps.{System, nonblank, tested, judged}
use Rattle.atomicity.proofs.Util.{clash, and_left, and_right, and_intro, bool_case}
use Rattle.atomicity.proofs.Stamps.{below_irrefl, below_asym, le_trans, below-trans, below-blank}
use Rattle.atomicity.proofs.Model.{is_valid, best_of}

module _ (s : System) (j : ℕ) where
  -- it is the one begun with, or a valid one of the list
  pub best-view : (v : Server) (c : Candidate) (cs : List Candidate) → (best_of s j v c cs ≡ c)
      ⊎ (In (best_of s j v c cs) cs × (is_valid s j v (best_of s j v c cs) ≡ true))
  unfolding best In
  best-view v c [] = inl refl
  best-view v c (d ∷ ds) = go (is_valid s j v d && below c.stamp d.stamp) refl (best-view v d ds) (best-view v c ds)
    where
      Seen : Candidate → Type 0
      Seen x = (x ≡ c) ⊎ (In x (d ∷ ds) × (is_valid s j v x ≡ true))

      go : (t : Bool) → (is_valid s j v d && below c.stamp d.stamp) ≡ t →
          (best_of s j v d ds ≡ d) ⊎ (In (best_of s j v d ds) ds × (is_valid s j v (best_of s j v d ds) ≡ true)) →
          (best_of s j v c ds ≡ c) ⊎ (In (best_of s j v c ds) ds × (is_valid s j v (best_of s j v c ds) ≡ true)) → Seen (best_of s j v (cond t d c) ds)
      go true e (inl f) g = inr (inl f, subst (λ (x : Candidate). is_valid s j v x ≡ true) (sym f) (and_left (is_valid s j v d) _ e))
      go true e (inr p) g = inr (inr p.0, p.1)
      go false e f (inl g) = inl g
      go false e f (inr p) = inr (inr p.0, p.1)

  -- and the one begun with, or higher
  best-above : (v : Server) (c : Candidate) (cs : List Candidate) → (best_of s j v c cs ≡ c) ⊎ (below c.stamp (best_of s j v c cs).stamp ≡ true)
  unfolding best
  best-above v c [] = inl refl
  best-above v c (d ∷ ds) = go (is_valid s j v d && below c.stamp d.stamp) refl (best-above v d ds) (best-above v c ds)
    where
      Above : Candidate → Type 0
      Above x = (x ≡ c) ⊎ (below c.stamp x.stamp ≡ true)

      go : (t : Bool) → (is_valid s j v d && below c.stamp d.stamp) ≡ t →
          (best_of s j v d ds ≡ d) ⊎ (below d.stamp (best_of s j v d ds).stamp ≡ true) →
          Above (best_of s j v c ds) → Above (best_of s j v (cond t d c) ds)
      go true e (inl f) g = inr (subst (λ (x : Candidate). below c.stamp x.stamp ≡ true) (sym f) (and_right (is_valid s j v d) _ e))
      go true e (inr h) g = inr (below-trans c.stamp d.stamp (best_of s j v d ds).stamp (and_right (is_valid s j v d) _ e) h)
      go false e f g = g

  -- what a request finds that judges: nothing, or a valid candidate of its list, on which the answer rests
  pub best_case : (v : Server) (x : Body) → let c = best_of s j v (blank_candidate s.config) (tested x) in
      (c ≡ blank_candidate s.config) ⊎ (In c (judged s j v x) × (In c (tested x) × (is_valid s j v c ≡ true)))
  unfolding judged In
  best_case v x = go (best-view v (blank_candidate s.config) (tested x)) (best-above v (blank_candidate s.config) (tested x))
    where
      c : Candidate
      c = best_of s j v (blank_candidate s.config) (tested x)

      go : (c ≡ blank_candidate s.config) ⊎ (In c (tested x) × (is_valid s j v c ≡ true)) →
          (c ≡ blank_candidate s.config) ⊎ (below blank_stamp c.stamp ≡ true) →
          (c ≡ blank_candidate s.config) ⊎ (In c (cond (below blank_stamp c.stamp) (c ∷ []) []) × (In c (tested x) × (is_valid s j v c ≡ true)))
      go (inl e) a = inl e
      go (inr p) (inl e) = inl e
      go (inr p) (inr a) = inr (subst (λ (t : Bool). In c (cond t (c ∷ []) [])) (sym a) (inl refl), p)

  -- the candidate on which the answer rests is of the list
  pub judged-tested : (v : Server) (x : Body) (d : Candidate) → In d (judged s j v x) → In d (tested x)
  unfolding judged In
  judged-tested v x d i = go (below blank_stamp c.stamp) refl i
    where
      c : Candidate
      c = best_of s j v (blank_candidate s.config) (tested x)

      from : below blank_stamp c.stamp ≡ true → (c ≡ blank_candidate s.config) ⊎ (In c (tested x) × (is_valid s j v c ≡ true)) → In c (tested x)
      from a (inl e) = absurd (clash (subst (λ (z : Candidate). below blank_stamp z.stamp ≡ true) e a) (below_irrefl blank_stamp))
      from a (inr p) = p.0

      go : (t : Bool) → below blank_stamp c.stamp ≡ t → In d (cond t (c ∷ []) []) → In d (tested x)
      go true a (inl e) = subst (λ (z : Candidate). In z (tested x)) (sym e) (from a (best-view v (blank_candidate s.config) (tested x)))
      go true a (inr z) = absurd z
      go false a z = absurd z

  -- a valid candidate of a repair that is higher than the latest
  pub repair-judged : (v : Server) (c : Candidate) → is_valid s j v c ≡ true → below v.latest.stamp c.stamp ≡ true →
      In c (judged s j v (repair c))
  unfolding judged best In
  repair-judged v c e up =
      subst (λ (t : Bool). In c (nonblank (cond (t && below blank_stamp c.stamp) c (blank_candidate s.config)))) (sym e)
      (subst (λ (t : Bool). In c (nonblank (cond t c (blank_candidate s.config)))) (sym above)
      (subst (λ (t : Bool). In c (cond t (c ∷ []) [])) (sym above) (inl refl)))
    where
      above : below blank_stamp c.stamp ≡ true
      above = bool_case (below blank_stamp c.stamp) (λ q. q)
          (λ q. clash up (le_trans c.stamp blank_stamp v.latest.stamp q (below-blank v.latest.stamp)))

  best_from : (v : Server) (c : Candidate) (cs : List Candidate) → below (best_of s j v c cs).stamp c.stamp ≡ false
  unfolding best
  best_from v c [] = below_irrefl c.stamp
  best_from v c (d ∷ ds) = go (is_valid s j v d && below c.stamp d.stamp) refl (best_from v d ds) (best_from v c ds)
    where
      go : (t : Bool) → (is_valid s j v d && below c.stamp d.stamp) ≡ t → below (best_of s j v d ds).stamp d.stamp ≡ false →
          below (best_of s j v c ds).stamp c.stamp ≡ false →
          below (best_of s j v (cond t d c) ds).stamp c.stamp ≡ false
      go true e f g = le_trans c.stamp d.stamp (best_of s j v d ds).stamp (below_asym c.stamp d.stamp (and_right (is_valid s j v d) _ e)) f
      go false e f g = g

  pub best-max : (v : Server) (c : Candidate) (cs : List Candidate) (d : Candidate) → In d cs → is_valid s j v d ≡ true →
      below (best_of s j v c cs).stamp d.stamp ≡ false
  unfolding best In
  best-max v c [] d i q = absurd i
  best-max v c (e ∷ es) d (inl q) k = go (is_valid s j v e && below c.stamp e.stamp) refl
    where
      ve : is_valid s j v e ≡ true
      ve = subst (λ (y : Candidate). is_valid s j v y ≡ true) q k

      low : (is_valid s j v e && below c.stamp e.stamp) ≡ false → below c.stamp e.stamp ≡ false
      low k = untrue _ (λ z. clash (and_intro _ _ ve z) k)

      go : (t : Bool) → (is_valid s j v e && below c.stamp e.stamp) ≡ t → below (best_of s j v (cond t e c) es).stamp d.stamp ≡ false
      go true k = subst (λ (y : Candidate). below (best_of s j v e es).stamp y.stamp ≡ false) (sym q) (best_from v e es)
      go false k = subst (λ (y : Candidate). below (best_of s j v c es).stamp y.stamp ≡ false) (sym q)
          (le_trans e.stamp c.stamp (best_of s j v c es).stamp (low k) (best_from v c es))
  best-max v c (e ∷ es) d (inr i) q = best-max v (cond (is_valid s j v e && below c.stamp e.stamp) e c) es d i q
