-- The bytes of the round's packet: the head, and the kept bytes that its body is made of.
-- The encoding of what the view of the kept bytes requests, with the round put in. Assumes nothing.
use mathlib.Core.Path.{◌≡◌, refl, sym, ap}
use mathlib.Core.List.{List, [], ◌++◌, append-nil}
use Prim.Native.Nat.{ℕ, ◌-◌, ◌≤◌}
use borrow.Author.Tests.{le-leb}
use Rattle.cluster.specs.Config.{shelf}
use Rattle.protocol.specs.declared.Call.{Call}
use Rattle.protocol.specs.declared.Head.{Head}
use Rattle.format.specs.Format.{via, seq}
use Rattle.protocol.specs.Packet.{encode, packet_f, body_f, head_f, stamp_f, share_f, write_f, candidate_f, candidates_f}
use Rattle.protocol.specs.Client.{made}
use Rattle.protocol.specs.Rules.{gather}
use Rattle.protocol.specs.View.{view, hand_of, marked, chosen_of, shares_in, share_at, reply_slot_of, candidates_in}

module _ (t client b : ℕ) (c : Call) (kept : List ℕ) where
  abbrev head : ℕ → Head
  head k = record { kind = k; client = client; server = b; t = t; call = c.number }

  abbrev bytes : ℕ → List ℕ
  bytes r = encode (made t client (record { calls = c.number; last = c.last; marks = marked c.tally.marks; hand = hand_of (shelf t) r c kept })
      b)

  abbrev chosen : List ℕ
  chosen = (candidate_f (shelf t)).print (chosen_of (shelf t) kept)

  pub round-bytes : (r : ℕ) → c.tally.round ≡ r → encode (made t client (view (shelf t) c kept) b) ≡ bytes r
  unfolding view
  round-bytes r e = ap bytes e

  pub clock-bytes : bytes 1 ≡ head_f.print (head 1) ++ ([] ++ [])
  unfolding encode packet_f via seq body_f made hand_of
  clock-bytes = refl

  pub collect-bytes : bytes 4 ≡ head_f.print (head 7) ++ ([] ++ [])
  unfolding encode packet_f via seq body_f made hand_of
  collect-bytes = refl

  pub complete-bytes : bytes 3 ≡ head_f.print (head 5) ++ (chosen ++ [])
  unfolding encode packet_f via seq body_f made hand_of
  complete-bytes = ap (λ (x : List ℕ). head_f.print (head 5) ++ x) (sym (append-nil chosen))

  pub repair-bytes : bytes 6 ≡ head_f.print (head 11) ++ (chosen ++ [])
  unfolding encode packet_f via seq body_f made hand_of
  repair-bytes = ap (λ (x : List ℕ). head_f.print (head 11) ++ x) (sym (append-nil chosen))

  pub filter-bytes : bytes 5 ≡ head_f.print (head 9) ++ (candidates_f (shelf t)).print (gather (candidates_in (shelf t) kept) (shelf t).servers)
  unfolding encode packet_f via seq body_f made hand_of
  filter-bytes = refl

  pub store_bytes : 1 ≤ b → b ≤ (shelf t).servers
      → bytes 2 ≡ head_f.print (head 3) ++ (stamp_f.print (chosen_of (shelf t) kept).stamp ++ (share_f (shelf t)).print
      (share_at (shelf t) (reply_slot_of kept (b - 1))))
  unfolding encode packet_f write_f via seq body_f made hand_of shares_in
  store_bytes lo hi = rw (le-leb 1 b lo, le-leb b (shelf t).servers hi)
