-- A client's bytes and the client that they stand for: which round is pending, the begins of a write and of a read, and giving up.
-- What is put is read back by place, and a new round has no marks. Nothing is assumed.
use mathlib.Core.Path.{◌≡◌, refl, sym, ap, ◌∙◌}
use mathlib.Core.Bool.{Bool, true, false, cond, not}
use mathlib.Core.List.{List}
use Prim.Native.Nat.{ℕ, zero, suc, ◌+◌, ◌*◌, ◌≤◌, ◌<◌}
use native.Mathlib.Omega.{arith}
use lib.Dec.{eqb, lit<}
use lib.ListN.{length, replicate, length-replicate}
use borrow.Author.Tests.{ne_eqb, le-leb, lt-leb, leb-true}
use Rattle.cluster.specs.Config.{Config}
use Rattle.cluster.specs.Ranges.{within, most_servers, top_length}
use Rattle.cluster.proofs.Tests.{and_both}
use Rattle.protocol.specs.declared.Call.{Call}
use Rattle.protocol.specs.declared.Tally.{Tally}
use Rattle.protocol.specs.Values.{blank_candidate, nonce_size}
use Rattle.protocol.specs.Rules.{nobody}
use Rattle.protocol.specs.Client.{Client, idle, clocking, collecting, begun, onto, awaits, is_idle}
use Rattle.protocol.specs.View.{content_of, nonce_of_def, hand_of, view, kept_size, nonce_place, candidate_slot, candidates_place}
use Rattle.format.specs.Reading.{bytes_at, put}
use Rattle.protocol.specs.ClientBytes.{fresh, in_hand, awaited}
use Rattle.format.proofs.Puts.{put-length}
use Rattle.format.proofs.Places.{part_same, part-below}
use Rattle.protocol.proofs.Marks.{marked-fresh}
use Rattle.protocol.proofs.Slots.{slots-zero}

-- ---- the pending round

pub past : (n k : ℕ) → k < 7 → eqb (suc (suc (suc (suc (suc (suc (suc n))))))) k ≡ false
past n k h = ne_eqb _ k (λ e. omega arith)

pub out_of-rounds : (n : ℕ) → within 1 6 (suc (suc (suc (suc (suc (suc (suc n))))))) ≡ false
out_of-rounds n = rw (
  lt-leb (suc (suc (suc (suc (suc (suc (suc n))))))) 6 (omega arith),
  le-leb 1 (suc (suc (suc (suc (suc (suc (suc n)))))))
      (omega arith),
)

-- no call is in hand in any other round
pub hand_past : (s : Config) (n : ℕ) (c : Call) (kept : List ℕ) → hand_of s (suc (suc (suc (suc (suc (suc (suc n))))))) c kept ≡ idle
unfolding hand_of
hand_past s n c kept = rw (past n 1 (lit< tt), past n 2 (lit< tt), past n 3 (lit< tt), past n 4 (lit< tt), past n 5 (lit< tt), past n 6 (lit< tt))

hand-awaits : (s : Config) (r : ℕ) (c : Call) (kept : List ℕ) → awaits (hand_of s r c kept) ≡ cond (within 1 6 r) (2 * r) 0
unfolding hand_of awaits
hand-awaits s zero c kept = refl
hand-awaits s (suc zero) c kept = refl
hand-awaits s (suc (suc zero)) c kept = refl
hand-awaits s (suc (suc (suc zero))) c kept = refl
hand-awaits s (suc (suc (suc (suc zero)))) c kept = refl
hand-awaits s (suc (suc (suc (suc (suc zero))))) c kept = refl
hand-awaits s (suc (suc (suc (suc (suc (suc zero)))))) c kept = refl
hand-awaits s (suc (suc (suc (suc (suc (suc (suc n))))))) c kept =
    ap awaits (unfold hand_of in hand_past s n c kept) ∙ rw (out_of-rounds n)

pub busy_is : (c : Call) → not (eqb (awaited c) 0) ≡ in_hand c
unfolding awaited in_hand
busy_is c = go (within 1 6 c.tally.round) refl
  where
    go : (b : Bool) → within 1 6 c.tally.round ≡ b → not (eqb (cond b (2 * c.tally.round) 0) 0) ≡ b
    go false e = refl
    go true e =
        let l : 1 ≤ c.tally.round = leb-true _ _ (and_both _ _ e).0 in
        rw (ne_eqb (2 * c.tally.round) 0 (λ z. omega arith))

pub in-round : (c : Call) → eqb (awaited c) 0 ≡ false → within 1 6 c.tally.round ≡ true
unfolding in_hand
in-round c i = sym (unfold in_hand in busy_is c) ∙ ap not i

module _ (s : Config) (c : Call) (kept : List ℕ) where
  -- the kind awaited, by the view and by the call
  pub awaits_is : awaits (view s c kept).hand ≡ awaited c
  unfolding view awaited in_hand
  awaits_is = hand-awaits s c.tally.round c kept

  -- a call is in hand, by the view and by the call
  pub pending_is : not (is_idle (view s c kept).hand) ≡ in_hand c
  unfolding is_idle
  pending_is = ap (λ (k : ℕ). not (eqb k 0)) awaits_is ∙ busy_is c

-- ---- what every step on bytes leaves

-- the sizes
pub record Sound (s : Config) (c : Call) (kept : List ℕ) : Type 0 where
  pub size : length kept ≡ kept_size
  pub width : length c.tally.marks ≡ most_servers

-- the bytes stand for the client cl
pub record Lifted (s : Config) (cl : Client) (c : Call) (kept : List ℕ) : Type 0 where
  pub seen : view s c kept ≡ cl
  pub sound : Sound s c kept

-- a new round
pub fresh_sound : (s : Config) (r : ℕ) (c : Call) (kept : List ℕ) → c.tally ≡ fresh r → length kept ≡ kept_size → Sound s c kept
unfolding fresh
fresh_sound s r c kept e k =
    record {
      size = k;
      width = ap (λ (y : Tally). length y.marks) e;
    }

-- a content at the start is what the view reads there
pub content_read : (c : Call) (kept content : List ℕ) → c.length ≡ length content → length content ≤ top_length → bytes_at kept 0 (length content) ≡
    content
    → content_of c kept ≡ content
unfolding content_of
content_read c kept content e l p = rw (e, le-leb (length content) top_length l) p

module _ (s : Config) (c : Call) (kept : List ℕ) (h : Sound s c kept) where
  -- begin a write
  pub write-begun : (content nonce : List ℕ) → length content ≤ top_length → length nonce ≡ nonce_size
      → Lifted s (begun (view s c kept) (clocking content nonce c.last))
      (record { number = suc c.number; last = c.last; high = c.last; length = length content; tally = fresh 1 })
      (put (put kept 0 content) nonce_place nonce)
  unfolding view hand_of nonce_of_def fresh begun
  write-begun content nonce small l =
      let k : List ℕ = put kept 0 content in
      let K : List ℕ = put k nonce_place nonce in
      let c' : Call = record { number = suc c.number; last = c.last; high = c.last; length = length content; tally = fresh 1 } in
      let s1 : length k ≡ kept_size = put-length kept 0 content (omega (arith, h.size)) ∙ h.size in
      let room : nonce_place + length nonce ≤ length k = omega arith in
      let e : bytes_at K nonce_place nonce_size ≡ nonce = ap (bytes_at K nonce_place) (sym l) ∙ part_same k nonce_place nonce room in
      let f : bytes_at K 0 (length content) ≡ content =
      part-below k nonce_place nonce room 0 (length content) (omega arith) ∙ part_same kept 0 content (omega (arith, h.size)) in
      let g : content_of c' K ≡ content = content_read c' K content refl small f in
      record {
        seen = λ i. record { calls = suc c.number; last = c.last; marks = marked-fresh i; hand = clocking (g i) (e i) c.last };
        sound = fresh_sound s 1 c' K (unfold fresh in refl) (put-length k nonce_place nonce room ∙ s1);
      }

  -- begin a read
  pub read-begun : s.servers ≤ most_servers
      → Lifted s (begun (view s c kept) (collecting (λ b. blank_candidate s)))
      (record { number = suc c.number; last = c.last; high = c.high; length = c.length; tally = fresh 4 })
      (put kept candidates_place (replicate (candidate_slot * most_servers) 0))
  unfolding view hand_of fresh begun
  read-begun few =
      let z = slots-zero s few kept h.size in
      let n : ◌≡◌ {A = ℕ} (length {A = ℕ} (replicate (candidate_slot * most_servers) 0)) (candidate_slot * most_servers) =
      length-replicate {A = ℕ} (candidate_slot * most_servers) 0 in
      record {
        seen = λ i. record { calls = suc c.number; last = c.last; marks = marked-fresh i; hand = collecting (z i) };
        sound =
            fresh_sound s 4 _ _ (unfold fresh in refl)
            (put-length kept candidates_place (replicate (candidate_slot * most_servers) 0) (omega (arith, h.size, n)) ∙ h.size);
      }

  -- giving up, or the end of a call
  pub idled : Lifted s (onto (view s c kept) nobody idle)
      (record { number = c.number; last = c.last; high = c.high; length = c.length; tally = fresh 0 }) kept
  unfolding view hand_of fresh onto
  idled =
      record {
        seen = λ i. record { calls = c.number; last = c.last; marks = marked-fresh i; hand = idle };
        sound = fresh_sound s 0 _ kept (unfold fresh in refl) h.size;
      }
