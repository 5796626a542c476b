-- What the filter round may choose: a write that a quorum held since the round began is never excluded, so the choice is no lower than what
-- had ended when the call began; and a proven candidate is that of a write, whose content its group gives back.
-- Assumes nothing.
use mathlib.Core.Path.{◌≡◌, refl, sym, ap, ap₂, ◌∙◌, subst}
use mathlib.Core.Bool.{Bool, true, false, cond, not}
use mathlib.Core.List.{List, [], ◌∷◌, map}
use mathlib.Core.Option.{some}
use mathlib.Core.Logic.{◌⊎◌, inl, inr}
use Prim.Native.Nat.{ℕ, ◌≤◌, ◌<◌}
use native.Mathlib.Omega.{arith}
use lib.Dec.{ltb, eqb}
use lib.ListN.{length}
use borrow.Author.Tests.{ltb-false, leb-true, eqb-false, not-true}
use Rattle.cluster.specs.Config.{up_to}
use Rattle.erasure.specs.Fragments.{Part}
use Rattle.protocol.specs.declared.Stamp.{Stamp}
use Rattle.protocol.specs.Values.{Candidate, Share, Held, below, blank_stamp, blank_candidate, nth, digest_size, run_of}
use Rattle.protocol.specs.Rules.{ByServer, any, first, count_to, lower, live, fits, agrees, leads, leader, proven, highest, choice, parts, restored_by}
use Rattle.protocol.specs.Rules.{tags_in}
use Rattle.atomicity.specs.Lists.{In}
use Rattle.atomicity.specs.Steps.{digests_with, proving, all_digested}
use Rattle.atomicity.proofs.Util.{bool_case, clash, and_left, and_right, in-keep, keep_in, none_in, in_map}
use Rattle.atomicity.proofs.Stamps.{le_trans, le-blank}
use Rattle.atomicity.proofs.Counting.{quorum-sum}
use Rattle.atomicity.proofs.Model.{fragment_for, tags_for, account}
use Rattle.atomicity.proofs.Setup.{Setup, Steps, Fair, right, Same, same_right, lat}
use Rattle.atomicity.proofs.Begun.{mark-bytes, mark-digested}
use Rattle.atomicity.proofs.Genuine.{Revealed, Genuine}
use Rattle.atomicity.proofs.Covers.{Covers}
use Rattle.atomicity.proofs.States.{Filters}
use Rattle.atomicity.proofs.Quorums.{S, Q, FullAt, TopAt, Beats, meets-marks, correct_in, Many}
use Rattle.atomicity.proofs.Gathered.{members, members-length, members_range, members_apart, up_to_in}
use Rattle.atomicity.proofs.Groups.{fit-view, member, leader-view, parts_are, part_in, no_two}

pub first-view : {A : Type 0} (p : A → Bool) (l : List A) (c : A) → first p l ≡ some c → In c l × (p c ≡ true)
unfolding first In
first-view p [] c e = absurd (let z : ◌≡◌ {A = ℕ} 0 1 = cc in omega arith)
first-view {A} p (x ∷ xs) c e = go (p x) refl e (λ k. first-view p xs c k)
  where
    go : (b : Bool) → p x ≡ b → cond b (some x) (first p xs) ≡ some c → (first p xs ≡ some c → In c xs × (p c ≡ true)) → In c (x ∷ xs) × (p c ≡ true)
    go true q k f = let z : c ≡ x = cc in (inl z, subst (λ (y : A). p y ≡ true) (sym z) q)
    go false q k f = (inr (f k).0, (f k).1)

module _ (K : Setup) where
  pub q_pos : 0 < Q K
  q_pos = omega (arith, quorum-sum K.s.config K.legal, K.legal.most)

  abbrev pub Live : ByServer Bool → ByServer Held → List Candidate → List Candidate
  Live m g cs = live K.s.P K.s.config m g cs

  -- what no correct reply of many servers is below is never excluded
  pub live_by : (xs : Steps K) (g : ByServer Held) (m : ByServer Bool) (cs : List Candidate) (d : Candidate) (P : ℕ → Bool) → In d cs → Many K xs P →
      ((j : ℕ) → right K xs j ≡ true → P j ≡ true → m j ≡ true → below (g j).stamp d.stamp ≡ false) → In d (Live m g cs)
  unfolding live lower
  live_by xs g m cs d P i many f = in-keep (λ c. ltb (count_to (S K) (lower K.s.P K.s.config m g c)) (Q K)) cs d i
      (bool_case (ltb (count_to (S K) (lower K.s.P K.s.config m g d)) (Q K)) (λ e. e) (λ e. absurd (bad (ltb-false _ _ e))))
    where
      bad : Q K ≤ count_to (S K) (lower K.s.P K.s.config m g d) → ⊥
      bad h =
          let r = meets-marks K xs P (lower K.s.P K.s.config m g d) many h in
          let j = r.0 in
          clash (and_right (m j) _ r.3) (f j r.1 r.2 (and_left (m j) _ r.3))

  -- so is what is covered by a quorum since the round began
  pub live_in : (ys z0 z1 : Steps K) (cs : List Candidate) (g : ByServer Held) (m : ByServer Bool) → Same K z1 ys → Filters K ys z0 z1 cs g m →
      (d : Candidate) → In d cs → Genuine K z1 d → FullAt K z1 d.stamp → In d (Live m g cs)
  live_in ys z0 z1 cs g m p1 F d i gen full = let o = gen.origin in
      live_by z1 g m cs d (λ j. Covers K z1 j d.stamp) i full
      (λ j h p k. (F.sift j (sym (same_right K z1 ys p1 j) ∙ h) k).stands d i p o.write o.made o.stamp_is gen.nonce_is)

  -- what had ended when the call began is no higher than a candidate that is live
  pub reached : (ys z0 z1 : Steps K) (cs : List Candidate) (g : ByServer Held) (m : ByServer Bool) → Same K z0 ys → Same K z1 ys →
      Filters K ys z0 z1 cs g m → (b : Stamp) → TopAt K z0 b →
      (below blank_stamp b ≡ false) ⊎ ((d : Candidate) × In d (Live m g cs) × (below d.stamp b ≡ false))
  reached ys z0 z1 cs g m p0 p1 F b top =
      let C = F.first in
      let r = meets-marks K z0 (λ j. not (below (lat K z0 j) b)) C.whom top C.enough in
      let e = C.each r.0 (same_right K z1 z0 (p1 ∙ sym p0) r.0 ∙ r.1) r.3 in
      go (C.what r.0) (le_trans b (lat K z0 r.0) (C.what r.0).stamp (not-true _ r.2) e.0) e.1
    where
      go : (d : Candidate) → below d.stamp b ≡ false → (d ≡ blank_candidate K.s.config) ⊎ (In d cs × Genuine K z1 d × FullAt K z1 d.stamp) →
          (below blank_stamp b ≡ false) ⊎ ((d : Candidate) × In d (Live m g cs) × (below d.stamp b ≡ false))
      go d h (inl e) = inl (subst (λ (z : Candidate). below z.stamp b ≡ false) e h)
      go d h (inr k) = inr (d, live_in ys z0 z1 cs g m p1 F d k.0 k.1 k.2, h)

  -- ---- a proven candidate is a write's, and its group gives the content back

  -- these have been digested
  abbrev pub Digests : Steps K → List (List ℕ) → Type 0
  Digests ys us = (u : List ℕ) → In u us → In u (all_digested K.s (account K.s) ys)

  pub record Real (ys : Steps K) (c : Candidate) (g : ByServer Held) (m : ByServer Bool) (b : ℕ) : Type 0 where
    pub origin : Revealed K ys c.stamp
    pub digest_is : K.s.P.digest origin.write.nonce ≡ K.s.P.digest c.nonce
    pub tags_is : tags_in K.s.P K.s.config c (g b).share ≡ tags_for K.s origin.write
    pub gives : restored_by K.s.P K.s.config m g c b (g b).share ≡ origin.write.content

  pub real : (ys z0 z1 : Steps K) (cs : List Candidate) (g : ByServer Held) (m : ByServer Bool) → Fair K ys → Filters K ys z0 z1 cs g m →
      (c : Candidate) (b : ℕ) → Digests ys (map (λ p. p.bytes) (parts K.s.P K.s.config m g c b (S K))) →
      leads K.s.P K.s.config m g c b ≡ true → Real ys c g m b
  unfolding leads restored_by In digests_with
  real ys z0 z1 cs g m fair F c b dig L =
      let A = agrees K.s.P K.s.config m g c b in
      let own = fit-view K.s m g c b (and_left (fits K.s.P K.s.config m g c b) _ L) in
      let many : K.s.config.threshold ≤ count_to (S K) A = leb-true _ _ (and_right (fits K.s.P K.s.config m g c b) _ L) in
      let h = correct_in K ys A many in
      let j = h.0 in
      let f = member K.s m g c b j own.share own.share_is h.4 in
      let P = (F.sift j h.3 f.0.marked).piece f.0.share f.0.share_is in
      let w = P.origin.write in
      let size : own.share.size ≡ length w.content = f.1.size ∙ ap (λ (z : Share). z.size) P.share_is in
      let tags : own.share.tags ≡ tags_for K.s w = f.1.tags ∙ ap (λ (z : Share). z.tags) P.share_is in
      let digests : own.share.digests ≡ run_of (S K) (λ i. K.s.P.digest (fragment_for K.s w.content i)) = f.1.digests
      ∙ ap (λ (z : Share). z.digests) P.share_is in
      let each : (i : ℕ) → 1 ≤ i → i ≤ S K → A i ≡ true → (h : Share) × ((g i).share ≡ some h)
      × (h.fragment ≡ fragment_for K.s w.content i) = λ i lo hi e.
      let t = member K.s m g c b i own.share own.share_is e in (
        t.0.share,
        t.0.share_is,
        no_two K ys fair t.0.share.fragment (fragment_for K.s w.content i)
            (dig _ (in_map (λ (p : Part). p.bytes) (parts K.s.P K.s.config m g c b (S K))
            (record { server = i; bytes = t.0.share.fragment })
            (part_in K.s m g c b (S K) i t.0.share lo hi e t.0.share_is)))
            (mark-digested K.s ys w (fragment_for K.s w.content i) P.origin.made
            (inr (in_map (λ (i : ℕ). fragment_for K.s w.content i) (up_to (S K)) i (up_to_in (S K) i lo hi))))
            (t.0.digest_is ∙ ap (λ (z : List ℕ). nth digest_size z i) (sym t.1.digests ∙ digests)
            ∙ K.laws.digest_at (fragment_for K.s w.content) i lo hi),
      ) in
      record {
        origin = record { write = w; made = P.origin.made; stamp_is = P.origin.stamp_is ∙ f.0.stamp_is; shown = P.origin.shown };
        digest_is = sym (ap (λ (z : Share). z.nonce_digest_def) P.share_is) ∙ f.0.nonce_is;
        tags_is = ap (tags_in K.s.P K.s.config c) own.share_is ∙ tags;
        gives = ap (restored_by K.s.P K.s.config m g c b) own.share_is
            ∙ ap₂ (λ (n : ℕ) (l : List Part). K.s.P.restored K.s.config.points K.s.config.threshold n l) size
            (parts_are K.s m g c (fragment_for K.s w.content) b (S K) each)
            ∙ K.laws.restores w.content (mark-bytes K.s ys w P.origin.made) (members A (S K)) (members_apart A (S K))
            (members_range A (S K)) (omega (arith, many, members-length A (S K)));
      }

  -- ---- the choice

  pub record Chosen (ys z0 : Steps K) (cs : List Candidate) (g : ByServer Held) (m : ByServer Bool) (c : Candidate) : Type 0 where
    pub among : In c cs
    pub beats : Beats K z0 c.stamp
    pub real : Real ys c g m (leader K.s.P K.s.config m g c (S K))

  pub chosen : (ys z0 z1 : Steps K) (cs : List Candidate) (g : ByServer Held) (m : ByServer Bool) → Same K z0 ys → Same K z1 ys → Fair K ys →
      Filters K ys z0 z1 cs g m →
      (c : Candidate) → Digests ys (proving K.s m g (some c)) → choice K.s.P K.s.config m g cs ≡ some c → Chosen ys z0 cs g m c
  unfolding choice highest live Beats proving
  chosen ys z0 z1 cs g m p0 p1 fair F c dig ch =
      let v = first-view (proven K.s.P K.s.config m g) (highest K.s.P K.s.config (Live m g cs)) c ch in
      let hi = keep_in (λ c. not (any (λ d. below c.stamp d.stamp) (Live m g cs))) (Live m g cs) c v.0 in
      record {
        among = (keep_in (λ c. ltb (count_to (S K) (lower K.s.P K.s.config m g c)) (Q K)) cs c hi.0).0;
        beats = over (not-true _ hi.1);
        real = led (leader-view K.s m g c (S K)) (not-true _ v.1);
      }
    where
      led : (leader K.s.P K.s.config m g c (S K) ≡ 0)
          ⊎ ((1 ≤ leader K.s.P K.s.config m g c (S K)) × (leader K.s.P K.s.config m g c (S K) ≤ S K)
          × (leads K.s.P K.s.config m g c (leader K.s.P K.s.config m g c (S K)) ≡ true)) →
          eqb (leader K.s.P K.s.config m g c (S K)) 0 ≡ false → Real ys c g m (leader K.s.P K.s.config m g c (S K))
      led (inl z) e = absurd (eqb-false _ _ e z)
      led (inr z) e = real ys z0 z1 cs g m fair F c (leader K.s.P K.s.config m g c (S K)) dig z.2

      over : any (λ d. below c.stamp d.stamp) (Live m g cs) ≡ false → (b : Stamp) → TopAt K z0 b → below c.stamp b ≡ false
      over nope b top = go (reached ys z0 z1 cs g m p0 p1 F b top)
        where
          go : (below blank_stamp b ≡ false) ⊎ ((d : Candidate) × In d (Live m g cs) × (below d.stamp b ≡ false)) → below c.stamp b ≡ false
          go (inl z) = le-blank b c.stamp z
          go (inr d) = le_trans b d.0.stamp c.stamp d.2 (none_in (λ d. below c.stamp d.stamp) (Live m g cs) nope d.0 d.1)
