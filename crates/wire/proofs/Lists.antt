-- A run of candidates is let through one by one: what was let through is a run, one more lengthens it, and one that stops breaks the longer run.
-- With its count before it, it is a list.
-- Assumes nothing.
use mathlib.Core.Path.{◌≡◌, ap, ◌∙◌, subst}
use mathlib.Core.List.{List, [], ◌∷◌, ◌++◌}
use mathlib.Core.Option.{none, some}
use Prim.Native.Nat.{ℕ, zero, suc, ◌+◌, ◌-◌, ◌*◌, ◌≤◌, ◌<◌}
use native.Mathlib.Omega.{arith}
use native.Mathlib.Nat.{mul-suc}
use native.Mathlib.Numerals.{add-one}
use lib.ListN.{length, drop}
use Rattle.cluster.specs.Config.{Config}
use Rattle.format.specs.Format.{Fmt, and_then, parse_many, byte, many}
use Rattle.protocol.specs.Values.{Candidate, candidate_size_def}
use Rattle.protocol.specs.Packet.{candidate_f, candidates_f}
use Rattle.protocol.specs.View.{candidate_at}
use Rattle.format.specs.Reading.{Leaves, Stops}
use Rattle.format.proofs.Answers.{same_rest, and_then_some}
use Rattle.format.proofs.Leaves.{leaves_none, leaves-seq, leaves-via, stops-via, stops_first, stops_second}
use Rattle.format.proofs.Walks.{many-count, many_snoc}
use Rattle.wire.specs.Places.{candidate_list}
use Rattle.wire.specs.Reads.{TookAt, Past, first_byte, byte_l, candidate_l, candidates_l}
use Rattle.wire.proofs.From.{drop_from}

-- ---- any format that stops after some

module _ {A : Type 0} (F : Fmt A) where
  parse_broken : (i m : ℕ) (b : List ℕ) (xs : List A) (q : List ℕ) → parse_many F i b ≡ some (xs, q) → F.parse q ≡ none → parse_many F (i + suc m) b ≡
      none
  parse_broken zero m b xs q e f =
      let l : b ≡ q = same_rest [] xs b q e in
      let z : 0 + suc m ≡ suc m = omega arith in
      rw (z, l, f)
  parse_broken (suc i) m b xs q e f =
      let (a, r, ea, ek) = and_then_some (F.parse b) (λ a q. and_then (parse_many F i q) (λ ys s. some (a ∷ ys, s))) xs q e in
      let (ys, t, ec, em) = and_then_some (parse_many F i r) (λ ys s. some (a ∷ ys, s)) xs q ek in
      let l : t ≡ q = same_rest (a ∷ ys) xs t q em in
      let g = parse_broken i m r ys t ec (ap F.parse l ∙ f) in
      let z : suc i + suc m ≡ suc (i + suc m) = omega arith in
      rw (z, ea, g)

  pub many_broken : (i n : ℕ) {s : List ℕ} {at k : ℕ} {xs : List A} → i < n → Leaves (many i F) s at xs k → Stops F s k → Stops (many n F) s at
  unfolding many
  many_broken i n {s} {at} {k} {xs} h m f =
      let z : i + suc (n - suc i) ≡ n = omega arith in
      record {
        stopped = subst (λ (j : ℕ). parse_many F j (drop at s) ≡ none) z (parse_broken i (n - suc i) (drop at s) xs (drop k s) m.parsed
            f.stopped);
      }

-- ---- candidates

module _ (c : Config) {s : List ℕ} {at : ℕ} where
  pub run_none : at ≤ length s → Past (many 0 (candidate_f c)) s at (candidate_list c 0 (drop at s)) at (candidate_size_def c * 0)
  unfolding candidate_list
  run_none h = record { leaves = leaves_none (candidate_f c) 0 h; place = omega arith }

  pub run_more : (i : ℕ) {k v q : ℕ} → Past (many i (candidate_f c)) s at (candidate_list c i (drop at s)) k (candidate_size_def c * i)
      → TookAt (candidate_l c)
      s k v q
      → Past (many (i + 1) (candidate_f c)) s at (candidate_list c (i + 1) (drop at s)) q (candidate_size_def c * (i + 1))
  unfolding candidate_list
  run_more i {k} {v} {q} m t =
      let r : drop k s ≡ drop (candidate_size_def c * i) (drop at s) = drop_from s at (candidate_size_def c * i) m.place in
      let xs : List Candidate = candidate_list c i (drop at s) in
      let g : Leaves (many (i + 1) (candidate_f c)) s at (xs ++ candidate_at c (drop (candidate_size_def c * i) (drop at s)) ∷ []) q =
      subst (λ (d : List ℕ). Leaves (many (i + 1) (candidate_f c)) s at (xs ++ candidate_at c d ∷ []) q) r
      (many_snoc (candidate_f c) i m.leaves t.leaves) in
      record { leaves = rw add-one (rw add-one at g); place = rw add-one (omega (arith, m.place, t.place, mul-suc (candidate_size_def c) i)) }

  pub list-took : (S : ℕ) → S ≡ c.servers → {n p e : ℕ} → TookAt (byte_l 0 S) s at n p
      → Past (many n (candidate_f c)) s p (candidate_list c n (drop p s)) e (candidate_size_def c * n) → TookAt (candidates_l c) s at n e
  unfolding candidates_f
  list-took S es {n} {p} {e} a m₀ =
      let d : List ℕ = drop at s in
      let r : drop p s ≡ drop 1 d = drop_from s at 1 a.place in
      let m = subst (λ (k : ℕ). Past (many k (candidate_f c)) s p (candidate_list c k (drop p s)) e (candidate_size_def c * k)) a.number m₀ in
      let b = subst (λ (k : ℕ). Leaves (byte 0 k) s at (first_byte d) p) es a.leaves in
      let l : List Candidate = candidate_list c (first_byte d) (drop p s) in
      let count : length l ≡ first_byte d = many-count (first_byte d) (candidate_f c) m.leaves in
      record {
        leaves =
            subst (λ (x : List ℕ). Leaves (candidates_f c) s at (candidate_list c (first_byte d) x) e) r
            (leaves-via _ _ _ (ap (λ (k : ℕ). (k, l)) count) (leaves-seq _ _ b m.leaves));
        number = a.number;
        place = omega (arith, a.place, m.place);
      }

  pub list_stops : (S : ℕ) → S ≡ c.servers → Stops (byte 0 S) s at → Stops (candidates_f c) s at
  unfolding candidates_f
  list_stops S es z = stops-via _ _ _ (stops_first _ _ (subst (λ (k : ℕ). Stops (byte 0 k) s at) es z))

  pub list_breaks : (S : ℕ) → S ≡ c.servers → {n p : ℕ} → TookAt (byte_l 0 S) s at n p → Stops (many n (candidate_f c)) s p
      → Stops (candidates_f c) s at
  unfolding candidates_f
  list_breaks S es {n} {p} a z =
      stops-via _ _ _
      (stops_second _ _ (subst (λ (k : ℕ). Leaves (byte 0 k) s at (first_byte (drop at s)) p) es a.leaves)
      (subst (λ (k : ℕ). Stops (many k (candidate_f c)) s p) a.number z))
