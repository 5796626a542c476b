-- The parts of packets, let through field by field: from what the fields' readers answer to what the part's reader answers.
-- Each format is a sequence, so its value is the tuple of its fields' values, and these stand one after the other.
-- Assumes nothing.
use mathlib.Core.Path.{◌≡◌, refl, sym, ap, ap₂, ◌∙◌, subst}
use mathlib.Core.Bool.{true}
use mathlib.Core.List.{List}
use Prim.Native.Nat.{ℕ, ◌+◌, ◌-◌, ◌≤◌}
use native.Mathlib.Omega.{arith}
use native.Mathlib.Nat.{add_assoc}
use mathlib.Core.Logic.{⊎_elim}
use lib.ListN.{length, take, drop, length-drop}
use Rattle.cluster.specs.Config.{Config}
use Rattle.cluster.specs.Ranges.{top_number, top_writer, top_length}
use Rattle.hmac.specs.Hmac.{tag_size}
use Rattle.erasure.specs.Fragments.{fragment_size_def}
use Rattle.protocol.specs.declared.Label.{Label}
use Rattle.protocol.specs.declared.Stamp.{Stamp}
use Rattle.format.specs.Format.{zeros, run}
use Rattle.protocol.specs.Values.{Candidate, Share, label_of, stamp_size, nonce_size, digest_size, digests_size_def, tags_size_def, candidate_size_def, blank_stamp, blank_candidate}
use Rattle.protocol.specs.Packet.{stamp_f, any_stamp_f, share_f, write_f, candidate_f, any_candidate_f}
use Rattle.protocol.specs.View.{stamp_at_def, candidate_at, share_at, share_of_size}
use Rattle.format.specs.Reading.{bytes_at, Leaves, Stops, number4_at}
use Rattle.format.proofs.Leaves.{leaves-seq, leaves-via, stops-via, stops_first, stops_second, leaves_some, leaves-blank}
use Rattle.wire.specs.Places.{length_at, share_size_def, write_at_def, no_label}
use Rattle.wire.specs.Reads.{TookAt, TookLabelled, Past, byte_l, number2_l, number4_l, stamp_l, any_stamp_l, share_l, write_l, candidate_l, any_candidate_l}
use Rattle.wire.proofs.Leaf.{ends, number4-numbered, run_in, run_past, run-few}
use Rattle.cluster.proofs.Tests.{below_or_not}
use Rattle.wire.proofs.From.{drop_from, part_from, first_from, blank-stamp, blank-candidate}

-- m bytes, from the place p to q
abbrev pub Ran : ℕ → List ℕ → ℕ → ℕ → Type 0
Ran m s p q = Past (run m) s p (bytes_at s p m) q m

module _ {s : List ℕ} {at : ℕ} where
  pub stamp-took : {v p w q e : ℕ} → TookAt (number4_l 1 top_number) s at v p → TookAt (byte_l 1 top_writer) s p w q → Ran tag_size s q e
      → TookLabelled stamp_l s at (record { number = v; writer = w }) 0 e
  unfolding stamp_f stamp_at_def
  stamp-took {v} {p} {w} {q} {e} a b r =
      let stamp : ℕ → List ℕ → Stamp = λ w t. record { number = number4_at (drop at s); writer = w; tag = t } in
      let writer = first_from s at 4 a.place in
      let same = ap₂ stamp writer (part_from s at {k = q} 5 tag_size (omega (arith, a.place, b.place))) in
      record {
        took = record {
          leaves = subst (λ (x : Stamp). Leaves stamp_f s at x e) same (leaves-via _ _ _ refl
              (leaves-seq _ _ a.leaves (leaves-seq _ _ b.leaves r.leaves)));
          number = refl;
          place = omega (arith, a.place, b.place, r.place);
        };
        label = ap₂ (λ (n w : ℕ). record { number = n; writer = w }) a.number (b.number ∙ writer);
      }

  pub any-stamp-took : {l : Label} {v e : ℕ} → TookLabelled stamp_l s at l v e → TookLabelled any_stamp_l s at l v e
  unfolding any_stamp_f
  any-stamp-took x =
      let t = x.took in
      record { took = record { leaves = leaves_some _ _ _ t.leaves; number = t.number; place = t.place }; label = x.label }

  -- past the end
  pub past-stamp : length s ≤ at → Stops stamp_f s at
  unfolding stamp_f
  past-stamp h = stops-via _ _ _ (stops_first _ _ (ends (number4-numbered 1 top_number) _ _ (simp length-drop (omega arith))))

  pub blank-stamp-took : {e : ℕ} → Stops stamp_f s at → at + stamp_size ≤ length s → zeros (take stamp_size (drop at s)) ≡ true → e ≡ at + stamp_size
      → TookLabelled any_stamp_l s at no_label 0 e
  unfolding any_stamp_f
  blank-stamp-took {e} n h z p =
      let b : stamp_at_def (drop at s) ≡ blank_stamp = blank-stamp stamp_size (drop at s) (omega (arith, length-drop at s)) z (omega arith) in
      record {
        took = record {
          leaves = subst (λ (k : ℕ). Leaves any_stamp_f s at (stamp_at_def (drop at s)) k) (sym p)
              (subst (λ (x : Stamp). Leaves any_stamp_f s at x (at + stamp_size)) (sym b) (leaves-blank _ _ _ n h z));
          number = refl;
          place = p;
        };
        label = ap label_of (sym b);
      }

-- the fragment of a content of n bytes
abbrev pub Fragment : Config → List ℕ → ℕ → ℕ → ℕ → Type 0
Fragment c s n p q = Ran (fragment_size_def c.threshold n) s p q

module _ (c : Config) {s : List ℕ} {at : ℕ} where
  pub share-took : {n p q d g e : ℕ} → TookAt (number2_l 0 top_length) s at n p
      → Fragment c s n p q → Ran (digests_size_def c) s q d → Ran digest_size s d g
      → Ran (tags_size_def c) s g e → TookAt (share_l c) s at n e
  unfolding share_f share_at share_of_size length_at share_size_def
  share-took {n} {p} {q} {d} {g} {e} a b₀ x y z =
      let m : ℕ = length_at (drop at s) in
      let f : ℕ = fragment_size_def c.threshold m in
      let b = subst (λ (k : ℕ). Fragment c s k p q) a.number b₀ in
      let share : List ℕ → List ℕ → List ℕ → List ℕ → Share = λ u v w z. record { size = m; fragment = u; digests = v; nonce_digest_def = w; tags = z } in
      let e1 : bytes_at s p f ≡ bytes_at (drop at s) 2 f = part_from s at 2 f a.place in
      let e2 : bytes_at s q (digests_size_def c) ≡ bytes_at (drop at s) (2 + f) (digests_size_def c) = part_from s at {k = q} (2 + f) (digests_size_def c)
      (omega (arith, a.place, b.place)) in
      let e3 : bytes_at s d digest_size ≡ bytes_at (drop at s) (2 + f + digests_size_def c) digest_size =
      part_from s at {k = d} (2 + f + digests_size_def c) digest_size (omega (arith, a.place, b.place, x.place)) in
      let e4 : bytes_at s g (tags_size_def c) ≡ bytes_at (drop at s) (2 + f + digests_size_def c + digest_size) (tags_size_def c) =
      part_from s at {k = g} (2 + f + digests_size_def c + digest_size) (tags_size_def c) (omega (arith, a.place, b.place, x.place, y.place)) in
      let same = ap₂ (λ u v. share u v (bytes_at s d digest_size) (bytes_at s g (tags_size_def c))) e1 e2 ∙ ap₂
      (share (bytes_at (drop at s) 2 f) (bytes_at (drop at s) (2 + f) (digests_size_def c))) e3 e4 in
      record {
        leaves =
            subst (λ (h : Share). Leaves (share_f c) s at h e) same
            (leaves-via _ _ _ refl
            (leaves-seq _ _ a.leaves (leaves-seq _ _ b.leaves (leaves-seq _ _ x.leaves (leaves-seq _ _ y.leaves z.leaves)))));
        number = a.number;
        place = omega (arith, a.place, b.place, x.place, y.place, z.place);
      }

  -- the fragment's length is told by the length that stands there
  sized : {n p q : ℕ} → TookAt (number2_l 0 top_length) s at n p → Fragment c s n p q
      → Leaves (run (fragment_size_def c.threshold (length_at (drop at s)))) s p (bytes_at s p (fragment_size_def c.threshold (length_at (drop at s)))) q
  sized {n} {p} {q} a b = subst (λ (k : ℕ). Leaves (run (fragment_size_def c.threshold k)) s p (bytes_at s p (fragment_size_def c.threshold k)) q)
      a.number
      b.leaves

  pub share_stops1 : {n p : ℕ} → TookAt (number2_l 0 top_length) s at n p → Stops (run (fragment_size_def c.threshold n)) s p
      → Stops (share_f c) s at
  unfolding share_f
  share_stops1 {n} {p} a z =
      stops-via _ _ _ (stops_second _ _ a.leaves (stops_first _ _ (subst (λ (k : ℕ). Stops (run (fragment_size_def c.threshold k)) s p) a.number
      z)))

  pub share_stops2 : {n p q : ℕ} → TookAt (number2_l 0 top_length) s at n p → Fragment c s n p q → Stops (run (digests_size_def c)) s q → Stops
      (share_f c) s at
  unfolding share_f
  share_stops2 a b z = stops-via _ _ _ (stops_second _ _ a.leaves (stops_second _ _ (sized a b) (stops_first _ _ z)))

  pub share_stops3 : {n p q d : ℕ} → TookAt (number2_l 0 top_length) s at n p → Fragment c s n p q
      → Ran (digests_size_def c) s q d → Stops (run digest_size) s d → Stops (share_f c) s at
  unfolding share_f
  share_stops3 a b x z = stops-via _ _ _ (stops_second _ _ a.leaves (stops_second _ _ (sized a b)
      (stops_second _ _ x.leaves (stops_first _ _ z))))

  pub share_stops4 : {n p q d g : ℕ} → TookAt (number2_l 0 top_length) s at n p → Fragment c s n p q
      → Ran (digests_size_def c) s q d → Ran digest_size s d g
      → Stops (run (tags_size_def c)) s g → Stops (share_f c) s at
  unfolding share_f
  share_stops4 a b x y z =
      stops-via _ _ _ (stops_second _ _ a.leaves (stops_second _ _ (sized a b) (stops_second _ _ x.leaves (stops_second _ _ y.leaves z))))

  -- the four runs that follow the length, as one run of m bytes
  module _ {n p m : ℕ} (a : TookAt (number2_l 0 top_length) s at n p) (size : m ≡ share_size_def c n - 2) where
    abbrev f : ℕ
    f = fragment_size_def c.threshold n

    pub share-joined : {e : ℕ} → Ran m s p e → TookAt (share_l c) s at n e
    unfolding share_size_def
    share-joined {e} r =
        let w = r.leaves.within in
        let x = p + f + digests_size_def c in
        let k : x + digest_size + tags_size_def c ≡ e = omega (arith, r.place) in
        subst (TookAt (share_l c) s at n) k
        (share-took a (run_in f (omega (arith, k))) (run_in (digests_size_def c) (omega (arith, k))) (run_in digest_size (omega (arith, k)))
        (run_in (tags_size_def c) (omega (arith, k))))

    -- the first of the four that is not there stops it
    pub share_short : Stops (run m) s p → Stops (share_f c) s at
    unfolding share_size_def
    share_short z =
        let l = run-few m z in
        let x = p + f + digests_size_def c in
        ⊎_elim (λ h. share_stops1 a (run_past f (omega arith)))
        (λ h. ⊎_elim (λ i. share_stops2 a (run_in f h) (run_past (digests_size_def c) (omega arith)))
        (λ i. ⊎_elim (λ j. share_stops3 a (run_in f h) (run_in (digests_size_def c) i) (run_past digest_size (omega arith)))
        (λ j. share_stops4 a (run_in f h) (run_in (digests_size_def c) i) (run_in digest_size j) (run_past (tags_size_def c) (omega (arith, l))))
        (below_or_not (length s) (x + digest_size)))
        (below_or_not (length s) x))
        (below_or_not (length s) (p + f))

  pub write-took : {l : Label} {v p n e : ℕ} → TookLabelled stamp_l s at l v p → TookAt (share_l c) s p n e → TookLabelled (write_l c) s at l n e
  unfolding write_f write_at_def
  write-took {p = p} {e = e} x b =
      let a = x.took in
      let r : drop p s ≡ drop stamp_size (drop at s) = drop_from s at stamp_size a.place in
      record {
        took = record {
          leaves =
              subst (λ (h : List ℕ). Leaves (write_f c) s at (record { stamp = stamp_at_def (drop at s); share = share_at c h }) e) r
              (leaves-via _ _ _ refl (leaves-seq _ _ a.leaves b.leaves));
          number = b.number ∙ ap length_at r;
          place = b.place ∙ ap₂ (λ (k : ℕ) (h : List ℕ). k + share_size_def c (length_at h)) a.place r ∙ add_assoc at stamp_size
              (share_size_def c (length_at (drop stamp_size (drop at s))));
        };
        label = x.label;
      }

  pub candidate-took : {l : Label} {v p q e : ℕ} → TookLabelled stamp_l s at l v p → Ran nonce_size s p q
      → Ran (tags_size_def c) s q e → TookLabelled (candidate_l c) s at l 0 e
  unfolding candidate_f candidate_at
  candidate-took {q = q} {e = e} x b r =
      let a = x.took in
      let candidate : List ℕ → List ℕ → Candidate = λ n t. record { stamp = stamp_at_def (drop at s); nonce = n; tags = t } in
      let same =
      ap₂ candidate (part_from s at stamp_size nonce_size a.place)
      (part_from s at {k = q} (stamp_size + nonce_size) (tags_size_def c) (omega (arith, a.place, b.place))) in
      record {
        took = record {
          leaves =
              subst (λ (x : Candidate). Leaves (candidate_f c) s at x e) same
              (leaves-via _ _ _ refl (leaves-seq _ _ a.leaves (leaves-seq _ _ b.leaves r.leaves)));
          number = refl;
          place = omega (arith, a.place, b.place, r.place);
        };
        label = x.label;
      }

  pub any-candidate-took : {l : Label} {v e : ℕ} → TookLabelled (candidate_l c) s at l v e → TookLabelled (any_candidate_l c) s at l v e
  unfolding any_candidate_f
  any-candidate-took x =
      let t = x.took in
      record { took = record { leaves = leaves_some _ _ _ t.leaves; number = t.number; place = t.place }; label = x.label }

  pub blank-candidate-took : {e : ℕ} → Stops (candidate_f c) s at → at + candidate_size_def c ≤ length s → zeros (take (candidate_size_def c) (drop at s)) ≡ true
      → e ≡ at + candidate_size_def c → TookLabelled (any_candidate_l c) s at no_label 0 e
  unfolding any_candidate_f
  blank-candidate-took {e} n h z p =
      let l : candidate_size_def c ≤ length (drop at s) = omega (arith, length-drop at s) in
      let b : candidate_at c (drop at s) ≡ blank_candidate c = blank-candidate (candidate_size_def c) (drop at s) l z c (omega arith) in
      let a : stamp_at_def (drop at s) ≡ blank_stamp = blank-stamp (candidate_size_def c) (drop at s) l z (omega arith) in
      record {
        took = record {
          leaves =
              subst (λ (k : ℕ). Leaves (any_candidate_f c) s at (candidate_at c (drop at s)) k) (sym p)
              (subst (λ (x : Candidate). Leaves (any_candidate_f c) s at x (at + candidate_size_def c)) (sym b) (leaves-blank _ _ _ n h z));
          number = refl;
          place = p;
        };
        label = ap label_of (sym a);
      }
