-- What may be there or not: a share after a stamp, told by a byte; and the answers to a store, of which some bytes are none.
-- Assumes nothing.
use mathlib.Core.Path.{◌≡◌, refl, sym, ap, ◌∙◌, subst}
use mathlib.Core.Bool.{Bool, true, false, cond, ◌||◌}
use mathlib.Core.List.{List}
use mathlib.Core.Option.{none, some}
use Prim.Native.Nat.{ℕ, zero, suc, ◌+◌, ◌≤◌, ◌<◌}
use native.Mathlib.Omega.{arith}
use lib.Dec.{leb, eqb}
use lib.ListN.{drop, get_or}
use borrow.Author.Tests.{ne_eqb, lt-leb}
use Rattle.cluster.specs.Config.{Config}
use Rattle.protocol.specs.declared.Label.{Label}
use Rattle.protocol.specs.declared.Stamp.{Stamp}
use Rattle.format.specs.Format.{byte}
use Rattle.protocol.specs.Values.{Held, stamp_size}
use Rattle.protocol.specs.Kinds.{code_number}
use Rattle.protocol.specs.declared.codes.Code.{Code}
use Rattle.protocol.specs.declared.codes.Code.TheVariants as code
use Rattle.protocol.specs.Packet.{share_f, held_f, held_most_def, code_f}
use Rattle.protocol.specs.View.{stamp_at_def, share_at, held_at}
use Rattle.format.specs.Reading.{Leaves, Stops}
use Rattle.format.proofs.Leaves.{leaves-seq, leaves-via, stops-via, stops_second, leaves-keep, stops-test, leaves_absent, leaves_present, stops-flag, stops_present}
use Rattle.protocol.proofs.Packets.{held-most}
use Rattle.wire.specs.Places.{length_at, share_size_def, held_size}
use Rattle.wire.specs.Reads.{TookAt, TookLabelled, byte_l, any_stamp_l, share_l, held_l, code_l}
use Rattle.wire.proofs.From.{drop_from, first_from}

-- ---- a byte that is at most 1

one : (x : ℕ) → x ≤ 1 → (x ≡ 0 → ⊥) → x ≡ 1
one zero h n = absurd (n refl)
one (suc zero) h n = refl
one (suc (suc x)) h n = absurd (omega arith)

abbrev held_by_def : Config → List ℕ → ℕ → List ℕ → Held
held_by_def c d f e = record { stamp = stamp_at_def d; share = cond (eqb f 0) none (some (share_at c e)) }

flag_one : (hi : ℕ) (a : Stamp) {s : List ℕ} {p f q : ℕ} → hi ≡ held_most_def a → TookAt (byte_l 0 hi) s p f q → (f ≡ 0 → ⊥) → f ≡ 1
unfolding byte
flag_one hi a {f = f} e b n =
    let o = b.leaves.ok in
    one f (omega (arith, b.number, o.1, e, held-most (eqb a.number 0))) n

module _ (c : Config) {s : List ℕ} {at : ℕ} {l : Label} {v p : ℕ} (x : TookLabelled any_stamp_l s at l v p) (hi : ℕ)
    (limit : hi ≡ cond (eqb l.number 0) 0 1) where
  abbrev d : List ℕ
  d = drop at s

  abbrev a : TookAt any_stamp_l s at v p
  a = x.took

  -- the limit that the stamp sets
  most : hi ≡ held_most_def (stamp_at_def d)
  most = limit ∙ ap (λ (y : Label). cond (eqb y.number 0) 0 1) x.label

  pub held-flag_stops : Stops (byte 0 hi) s p → Stops (held_f c) s at
  unfolding held_f
  held-flag_stops z = stops-via _ _ _ (stops_second _ _ a.leaves (stops-flag _ _ (subst (λ (k : ℕ). Stops (byte 0 k) s p) most z)))

  module _ {f q : ℕ} (b : TookAt (byte_l 0 hi) s p f q) where
    -- the byte after the stamp
    flag_at : Leaves (byte 0 (held_most_def (stamp_at_def d))) s p f q
    flag_at = subst (λ (k : ℕ). Leaves (byte 0 k) s p f q) most (subst (λ (y : ℕ). Leaves (byte 0 hi) s p y q) (sym b.number) b.leaves)

    flag-place : f ≡ get_or d stamp_size 0
    flag-place = b.number ∙ first_from s at stamp_size a.place

    pub held_absent : f ≡ 0 → TookLabelled (held_l c) s at l f q
    unfolding held_f held_at held_size
    held_absent z =
        let g : get_or d stamp_size 0 ≡ 0 = sym flag-place ∙ z in
        let w : q ≡ at + (stamp_size + 1 + 0) = omega (arith, a.place, b.place) in
        let r = leaves-via _ _ _ refl (leaves-seq _ _ a.leaves (leaves_absent _ _
        (subst (λ (y : ℕ). Leaves (byte 0 (held_most_def (stamp_at_def d))) s p y q) z flag_at))) in
        record {
          took = record {
            leaves = subst (λ (y : ℕ). Leaves (held_f c) s at (held_by_def c d y (drop (stamp_size + 1) d)) q) (sym g) r;
            number = z ∙ ap (λ (y : ℕ). cond (eqb y 0) 0 1) (sym g);
            place = w ∙ ap (λ (y : ℕ). at + (stamp_size + 1 + cond (eqb y 0) 0 (share_size_def c (length_at (drop (stamp_size + 1) d))))) (sym g);
          };
          label = x.label;
        }

    module _ (n : f ≡ 0 → ⊥) where
      flag_is_one : f ≡ 1
      flag_is_one = flag_one hi (stamp_at_def d) most b n

      flag-there : Leaves (byte 0 (held_most_def (stamp_at_def d))) s p 1 q
      flag-there = subst (λ (y : ℕ). Leaves (byte 0 (held_most_def (stamp_at_def d))) s p y q) flag_is_one flag_at

      pub held-share_stops : Stops (share_f c) s q → Stops (held_f c) s at
      unfolding held_f
      held-share_stops z = stops-via _ _ _ (stops_second _ _ a.leaves (stops_present _ _ flag-there z))

      pub held_present : {m u : ℕ} → TookAt (share_l c) s q m u → TookLabelled (held_l c) s at l f u
      unfolding held_f held_at held_size
      held_present {u = u} r =
          let g : get_or d stamp_size 0 ≡ 1 = sym flag-place ∙ flag_is_one in
          let w : q ≡ at + (stamp_size + 1) = omega (arith, a.place, b.place) in
          let t : drop q s ≡ drop (stamp_size + 1) d = drop_from s at (stamp_size + 1) w in
          let z : ℕ = share_size_def c (length_at (drop (stamp_size + 1) d)) in
          let k : u ≡ q + z = r.place ∙ ap (λ (y : List ℕ). q + share_size_def c (length_at y)) t in
          let j : u ≡ at + (stamp_size + 1 + z) = omega (arith, k, w) in
          let y = leaves-via _ _ _ refl (leaves-seq _ _ a.leaves (leaves_present _ _ flag-there r.leaves)) in
          record {
            took = record {
              leaves =
                  subst (λ (y : ℕ). Leaves (held_f c) s at (held_by_def c d y (drop (stamp_size + 1) d)) u) (sym g)
                  (subst (λ (y : List ℕ). Leaves (held_f c) s at (held_by_def c d 1 y) u) t y);
              number = flag_is_one ∙ ap (λ (y : ℕ). cond (eqb y 0) 0 1) (sym g);
              place = j ∙ ap (λ (y : ℕ). at + (stamp_size + 1 + cond (eqb y 0) 0 z)) (sym g);
            };
            label = x.label;
          }

-- ---- the answers to a store

abbrev is_code : ℕ → Bool
is_code v = eqb v 0 || leb 10 v

module _ {s : List ℕ} {at : ℕ} where
  code_in : {v p : ℕ} → TookAt (byte_l 0 11) s at v p → is_code v ≡ true → TookAt code_l s at v p
  unfolding code_f
  code_in t e = record { leaves = leaves-keep _ _ t.leaves (ap is_code (sym t.number) ∙ e); number = t.number; place = t.place }

  -- a byte that is a code's number
  pub code_took : {v p : ℕ} → TookAt (byte_l 0 11) s at v p → (k : Code) → code_number k ≡ v → TookAt code_l s at v p
  code_took t code.Kept e = code_in t (ap is_code (sym e))
  code_took t code.Held e = code_in t (ap is_code (sym e))
  code_took t code.Full e = code_in t (ap is_code (sym e))

  pub code_stops : {v p : ℕ} → TookAt (byte_l 0 11) s at v p → (v ≡ 0 → ⊥) → v < 10 → Stops code_f s at
  unfolding code_f
  code_stops {v} t n h = let e : is_code v ≡ false = simp (ne_eqb v 0 n, lt-leb 10 v h) in stops-test _ _ t.leaves (ap is_code (sym t.number) ∙ e)
