-- From a body's fields to the body of its kind, and from head and body to the packet.
-- Assumes nothing.
use mathlib.Core.Path.{◌≡◌, refl, sym, ap, ◌∙◌, subst}
use mathlib.Core.Bool.{Bool, true, false, cond}
use mathlib.Core.List.{List, [], ◌∷◌}
use mathlib.Core.Option.{none, some}
use Prim.Native.Nat.{ℕ, zero, suc, ◌+◌, ◌*◌, ◌≤◌, ◌<◌}
use native.Mathlib.Omega.{arith}
use lib.Dec.{eqb}
use lib.ListN.{length, drop, get_or, length-append}
use borrow.Author.Tests.{ne_eqb}
use Rattle.cluster.specs.Config.{Config, shelf}
use Rattle.protocol.specs.declared.Head.{Head}
use Rattle.protocol.specs.declared.Label.{Label}
use Rattle.format.specs.Format.{byte, empty, seq, via, such}
use Rattle.protocol.specs.Values.{is_some, label_of, stamp_size, candidate_size_def}
use Rattle.protocol.specs.Packet.{Body, head_f, head_size, body_f, packet_f, decode}
use Rattle.protocol.specs.View.{stamp_at_def, candidate_at, share_at, held_at}
use Rattle.format.specs.Reading.{Leaves, Stops}
use Rattle.format.proofs.Leaves.{leaves-seq, leaves-via, stops-via, stops_second}
use Rattle.protocol.proofs.Bodies.{Kind}
use Rattle.protocol.proofs.Whole.{body-leaves, body_stops, decoded, refused, trailing}
use Rattle.wire.specs.Places.{body_at, packet_at, write_at_def, candidate_list, no_label, body_label, body_number, fragment_held, fragment_of, fragment_in}
use Rattle.wire.specs.Reads.{Layout, TookAt, Past, FieldAs, LabelledAs, without_label, TookBody, BodyAs, TookPacket}
use Rattle.std.specs.Prelude.{Some, None}
use Rattle.std.specs.declared.option.Option.{Option}
use Rattle.wire.specs.declared.fields.Cursor.{Cursor}

-- ---- the numbers of a list and of what is held

pub count_of : (c : Config) (n : ℕ) (d : List ℕ) → length (candidate_list c n d) ≡ n
unfolding candidate_list
count_of c zero d = refl
count_of c (suc n) d = omega (arith, length-append (candidate_list c n d) (candidate_at c (drop (candidate_size_def c * n) d) ∷ []), count_of c n d)

pub flag_of : {A : Type 0} (t : Bool) (x : A) → ◌≡◌ {A = ℕ} (cond t 0 1) (cond (is_some (cond t none (some x))) 1 0)
flag_of true x = refl
flag_of false x = refl

-- ---- bodies

module _ (c : Config) (s : List ℕ) (at : ℕ) where
  -- a body of one field: what the field's reader answers, the body's reader answers
  module _ {A : Type 0} (L : Layout A) {con : A → Body} {k : ℕ} (d : Kind c k L.format con) (e : (x : List ℕ) → con (L.value x) ≡ body_at c k x)
      (m : (x : List ℕ) → L.number x ≡ body_number (body_at c k x)) {j : ℕ} (ej : j ≡ k) where
    there : {l : Label} {v p : ℕ} → TookAt L s at v p → l ≡ body_label (body_at c k (drop at s)) → TookBody c j s at l v p
    there {l} {v} {p} t f =
        subst (λ (i : ℕ). TookBody c i s at l v p) (sym ej)
        (record {
          leaves = subst (λ (b : Body). Leaves (body_f c k) s at b p) (e (drop at s)) (body-leaves d t.leaves);
          label = f;
          number = t.number ∙ m (drop at s);
        })

    broken : Stops L.format s at → Stops (body_f c j) s at
    broken z = subst (λ (i : ℕ). Stops (body_f c i) s at) (sym ej) (body_stops d z)

    pub of_part : ((x : List ℕ) → label_of (stamp_at_def x) ≡ body_label (body_at c k x)) → (r : Option (Label × ℕ × Cursor)) → LabelledAs L s at r → BodyAs c j s at r
    of_part f (Some x) t = there t.took (t.label ∙ f (drop at s))
    of_part f None z = broken z

    of_plain : ((x : List ℕ) → no_label ≡ body_label (body_at c k x)) → (y : Option (ℕ × Cursor)) → FieldAs L s at y → BodyAs c j s at (without_label y)
    of_plain f (Some x) t = there t (f (drop at s))
    of_plain f None z = broken z

    pub of_field : ((x : List ℕ) → no_label ≡ body_label (body_at c k x)) → (y : Option (ℕ × Cursor)) → FieldAs L s at y → {r : Option (Label × ℕ × Cursor)} → r ≡ without_label y
        → BodyAs c j s at r
    of_field f y t er = subst (BodyAs c j s at) (sym er) (of_plain f y t)

  -- a body of no field
  nothing : at ≤ length s → Leaves empty s at tt at
  unfolding empty
  nothing h = record { parsed = refl; within = h; ok = tt }

  pub bare : {con : Body} (k : ℕ) → Kind c k empty (λ x. con) → con ≡ body_at c k (drop at s) → no_label ≡ body_label con → 0 ≡ body_number con
      → at ≤ length s → (j : ℕ) → j ≡ k → TookBody c j s at no_label 0 at
  bare k d e f g h j ej =
      subst (λ (i : ℕ). TookBody c i s at no_label 0 at) (sym ej)
      (record {
        leaves = subst (λ (b : Body). Leaves (body_f c k) s at b at) e (body-leaves d (nothing h));
        label = f ∙ ap body_label e;
        number = g ∙ ap body_number e;
      })

-- ---- packets

module _ {s : List ℕ} {h : Head} {p : ℕ} (f : Past head_f s 0 h p head_size) where
  pub kind_range : (1 ≤ h.kind) × (h.kind ≤ 12)
  unfolding head_f such via seq byte
  kind_range = f.leaves.ok.1.0

  head_past : p ≡ head_size
  head_past = omega (arith, f.place)

  took : {e : ℕ} → Leaves (body_f (shelf h.t) h.kind) s p (body_at (shelf h.t) h.kind (drop p s)) e → Leaves packet_f s 0 (packet_at h s) e
  unfolding packet_f packet_at
  took {e} b =
      subst (λ (k : ℕ). Leaves packet_f s 0 (record { head = h; body = body_at (shelf h.t) h.kind (drop k s) }) e) head_past
      (leaves-via _ _ _ refl (leaves-seq _ _ f.leaves b))

  at_head : {A : Type 0} (f : Body → A) {a : A} → a ≡ f (body_at (shelf h.t) h.kind (drop p s)) → a ≡ f (packet_at h s).body
  unfolding packet_at
  at_head f e = e ∙ ap (λ (k : ℕ). f (body_at (shelf h.t) h.kind (drop k s))) head_past

  pub took-packet : {l : Label} {v e : ℕ} → TookBody (shelf h.t) h.kind s p l v e → length s ≤ e → TookPacket s h l v
  took-packet b k =
      record {
        packet = decoded (took b.leaves) k;
        label = at_head body_label b.label;
        number = at_head body_number b.number;
      }

  pub packet_trailing : {e : ℕ} → Leaves (body_f (shelf h.t) h.kind) s p (body_at (shelf h.t) h.kind (drop p s)) e → e < length s → decode s
      ≡ none
  packet_trailing b k = trailing (took b) k

  pub packet_broken : Stops (body_f (shelf h.t) h.kind) s p → decode s ≡ none
  unfolding packet_f
  packet_broken z = refused (stops-via _ _ _ (stops_second _ _ f.leaves z))

-- ---- fragments

module _ (c : Config) (d : List ℕ) where
  neither : (t : Bool) (x y : Body) → fragment_of x ≡ [] → fragment_of y ≡ [] → fragment_of (cond t x y) ≡ []
  neither true x y e f = e
  neither false x y e f = f

  pub fragment_none : (k : ℕ) → (k ≡ 3 → ⊥) → (k ≡ 10 → ⊥) → fragment_of (body_at c k d) ≡ []
  unfolding body_at fragment_of
  fragment_none k n m =
      neither (eqb k 1) _ _ refl
      (neither (eqb k 2) _ _ refl
      (rw (ne_eqb k 3 n)
      (neither (eqb k 4) _ _ refl
      (neither (eqb k 5) _ _ refl
      (neither (eqb k 6) _ _ refl
      (neither (eqb k 7) _ _ refl
      (neither (eqb k 8) _ _ refl (neither (eqb k 9) _ _ refl (rw (ne_eqb k 10 m) (neither (eqb k 11) _ _ refl refl))))))))))

  pub fragment-store : (k : ℕ) → k ≡ 3 → (share_at c (drop stamp_size d)).fragment ≡ fragment_of (body_at c k d)
  unfolding body_at fragment_of write_at_def
  fragment-store k e = rw e

  -- of a filter's reply, by its number
  held_number : (k : ℕ) → k ≡ 10 → body_number (body_at c k d) ≡ cond (eqb (get_or d stamp_size 0) 0) 0 1
  unfolding body_at body_number held_at
  held_number k e = rw e (sym (flag_of (eqb (get_or d stamp_size 0) 0) (share_at c (drop (stamp_size + 1) d))))

  pub fragment_absent : (k : ℕ) → k ≡ 10 → body_number (body_at c k d) ≡ 0 → fragment_of (body_at c k d) ≡ []
  unfolding body_at fragment_of held_at fragment_held
  fragment_absent k e z = by (eqb (get_or d stamp_size 0) 0) refl
    where
      by : (t : Bool) → eqb (get_or d stamp_size 0) 0 ≡ t → fragment_of (body_at c k d) ≡ []
      by true q = rw (e, q)
      by false q = absurd (omega (arith, sym (held_number k e) ∙ z, ap {B = ℕ} (λ (t : Bool). cond t 0 1) q))

  pub fragment_present : (k : ℕ) → k ≡ 10 → (body_number (body_at c k d) ≡ 0 → ⊥) → (share_at c (drop (stamp_size + 1) d)).fragment ≡ fragment_of
      (body_at c k d)
  unfolding body_at fragment_of held_at fragment_held
  fragment_present k e n = by (eqb (get_or d stamp_size 0) 0) refl
    where
      by : (t : Bool) → eqb (get_or d stamp_size 0) 0 ≡ t → (share_at c (drop (stamp_size + 1) d)).fragment ≡ fragment_of (body_at c k d)
      by true q = absurd (n (held_number k e ∙ ap (λ (t : Bool). cond t 0 1) q))
      by false q = rw (e, q)

pub fragment_broken : (s : List ℕ) → decode s ≡ none → [] ≡ fragment_in (decode s)
unfolding fragment_in
fragment_broken s e = rw e

pub fragment_read : (s : List ℕ) (h : Head) {x : List ℕ} → decode s ≡ some (packet_at h s) → x ≡ fragment_of
    (body_at (shelf h.t) h.kind (drop head_size s)) → x ≡ fragment_in (decode s)
unfolding fragment_in packet_at
fragment_read s h {x} e f = rw e f
