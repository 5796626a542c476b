-- The shares of a write in their slots: each is read back, and what stands before the slots stays.
-- By induction over the servers: the last share put touches its own slot alone. Nothing is assumed.
use mathlib.Core.Path.{◌≡◌, refl, ap, ◌∙◌}
use mathlib.Core.Bool.{Bool, true, false, cond}
use mathlib.Core.List.{List}
use mathlib.Core.Logic.{◌≢◌}
use Prim.Native.Nat.{ℕ, zero, suc, ◌+◌, ◌-◌, ◌*◌, ◌≤◌, ◌<◌}
use native.Mathlib.Omega.{arith}
use lib.Dec.{eqb}
use lib.ListN.{length}
use borrow.Author.Tests.{eqb-true, eqb-false, leb-true}
use Rattle.cluster.specs.Config.{Config}
use Rattle.cluster.specs.Ranges.{within, top_length}
use Rattle.cluster.proofs.Tests.{and_both}
use Rattle.protocol.specs.Values.{Share, no_share}
use Rattle.protocol.specs.Packet.{share_f}
use Rattle.protocol.specs.Rules.{ByServer}
use Rattle.protocol.specs.View.{shares_in, reply_slot_of, share_at, kept_size, replies_place, reply_slot}
use Rattle.format.specs.Reading.{bytes_at, put}
use Rattle.protocol.specs.ClientBytes.{put_shares}
use Rattle.protocol.proofs.Packets.{ShareLengths}
use Rattle.protocol.proofs.Room.{Fitting, share-fits}
use Rattle.format.proofs.Puts.{put-length}
use Rattle.format.proofs.Places.{part_put, part-below, part-other, slots_apart}
use Rattle.protocol.proofs.Readers.{share_read}

-- a share that its slot can hold
pub record Holdable (s : Config) (h : Share) : Type 0 where
  pub lengths : ShareLengths s h
  pub short : h.size ≤ top_length

module _ (s : Config) (f : Fitting s) (kept : List ℕ) (size : length kept ≡ kept_size) (h : ByServer Share)
    (ok : (i : ℕ) → 1 ≤ i → i ≤ s.servers → Holdable s (h i)) where
  abbrev B : ℕ → List ℕ
  B n = (share_f s).print (h (suc n))

  share_slot : (n : ℕ) → suc n ≤ s.servers → length (B n) ≤ reply_slot
  share_slot n l = let k = ok (suc n) (omega arith) l in omega (arith, share-fits s f (h (suc n)) k.lengths k.short)

  -- there is room for the share of server n + 1
  slot-room : (n : ℕ) → suc n ≤ s.servers → (d : List ℕ) → length d ≡ kept_size → replies_place + reply_slot * n + length (B n) ≤ length d
  slot-room n l d e = omega (arith, share_slot n l, f.few, e)

  pub puts-length : (n : ℕ) → n ≤ s.servers → length (put_shares s kept h n) ≡ kept_size
  unfolding put_shares
  puts-length zero l = size
  puts-length (suc n) l =
      let e = puts-length n (omega arith) in
      put-length (put_shares s kept h n) (replies_place + reply_slot * n) (B n) (slot-room n l (put_shares s kept h n) e) ∙ e

  -- before the slots nothing changes
  pub puts-below : (n : ℕ) → n ≤ s.servers → (p w : ℕ) → p + w ≤ replies_place → bytes_at (put_shares s kept h n) p w ≡ bytes_at kept p w
  unfolding put_shares
  puts-below zero l p w k = refl
  puts-below (suc n) l p w k =
      part-below (put_shares s kept h n) (replies_place + reply_slot * n) (B n) (slot-room n l (put_shares s kept h n) (puts-length n (omega arith))) p w
      (omega arith)
      ∙ puts-below n (omega arith) p w k

  -- the share of server j + 1 among those of servers 1 to n
  puts-slot : (n : ℕ) → n ≤ s.servers → (j : ℕ) → j < n → share_at s (bytes_at (put_shares s kept h n) (replies_place + reply_slot * j) reply_slot)
      ≡ h (suc j)
  unfolding put_shares
  puts-slot zero l j k = absurd (omega arith)
  puts-slot (suc n) l j k = go (eqb j n) refl (puts-slot n (omega arith) j)
    where
      D : List ℕ
      D = put_shares s kept h n

      go : (b : Bool) → eqb j n ≡ b → (j < n → share_at s (bytes_at (put_shares s kept h n) (replies_place + reply_slot * j) reply_slot) ≡ h (suc j))
          → share_at s (bytes_at (put (put_shares s kept h n) (replies_place + reply_slot * n) (B n)) (replies_place + reply_slot * j) reply_slot) ≡ h (suc j)
      go true e before =
          let q : j ≡ n = eqb-true j n e in
          rw q
          (ap (share_at s)
          (part_put (put_shares s kept h n) (replies_place + reply_slot * n) (B n) (slot-room n l (put_shares s kept h n) (puts-length n (omega arith)))
          reply_slot (share_slot n l))
          ∙ share_read s (h (suc n)) _ (ok (suc n) (omega arith) l).lengths)
      go false e before =
          let d : j ≢ n = eqb-false j n e in
          ap (share_at s)
          (part-other (put_shares s kept h n) (replies_place + reply_slot * n) (B n) (slot-room n l (put_shares s kept h n) (puts-length n (omega arith)))
          (replies_place + reply_slot * j) reply_slot (slots_apart replies_place reply_slot n j (length (B n)) (share_slot n l) d))
          ∙ before (omega arith)

  -- every server's share
  pub shares_put : shares_in s (put_shares s kept h s.servers) ≡ (λ b. cond (within 1 s.servers b) (h b) no_share)
  unfolding shares_in reply_slot_of
  shares_put = λ k b. at b k
    where
      at : (b : ℕ) → shares_in s (put_shares s kept h s.servers) b ≡ cond (within 1 s.servers b) (h b) no_share
      at b = go (within 1 s.servers b) refl
        where
          go : (x : Bool) → within 1 s.servers b ≡ x
              → cond x (share_at s (bytes_at (put_shares s kept h s.servers) (replies_place + reply_slot * (b - 1)) reply_slot)) no_share
              ≡ cond x (h b) no_share
          go false e = refl
          go true e =
              let (lo, hi) = and_both _ _ e in
              let p : 1 ≤ b = leb-true 1 b lo in
              let q : b ≤ s.servers = leb-true b s.servers hi in
              let r : suc (b - 1) ≡ b = omega arith in
              puts-slot s.servers (omega arith) (b - 1) (omega arith) ∙ ap h r
