-- The bytes of every body and of every packet, exactly, by kind: a planner's numbers are these.
-- They are sums of the layout's own lengths, so that they follow it; each part's length is known from its ranges. Assumes nothing.
use mathlib.Core.Path.{◌≡◌, refl, ap, ◌∙◌}
use mathlib.Core.List.{List, [], ◌∷◌, ◌++◌}
use mathlib.Core.Option.{Option, none, some}
use Prim.Native.Nat.{ℕ, ◌+◌, ◌*◌}
use native.Mathlib.Nat.{suc-mul}
use native.Mathlib.Omega.{arith}
use lib.ListN.{length, length-append}
use Rattle.cluster.specs.Config.{Config, shelf}
use Rattle.protocol.specs.declared.Stamp.{Stamp}
use Rattle.format.specs.Format.{All, print_many, via, seq, such, byte, or_blank, many, optional}
use Rattle.protocol.specs.Values.{Candidate, Share, Held, stamp_size, candidate_size_def}
use Rattle.protocol.specs.Packet.{Body, BodyOk, Packet, PacketOk, print_body, packet_f, head_f, body_f, head_size, share_size_def, encode, stamp_f, any_stamp_f, share_f, code_f, candidate_f, candidates_f, held_f, held_most_def}
use Rattle.protocol.specs.Packet.{clock, clock_reply, store, store_reply, complete, complete_reply, collect, collect_reply, filter, filter_reply, repair, repair_reply}
use Rattle.protocol.proofs.Packets.{head-length, stamp-length, any-stamp-tag, ShareLengths, share-length, write-length, candidate-lengths, candidate-length, any-candidate-length}
use Rattle.protocol.proofs.Bodies.{body_ok}
use Rattle.protocol.proofs.Readers.{held-lengths}

-- what follows the byte of a held reply: a share, or nothing
abbrev pub held_share_size : Config → Option Share → ℕ
held_share_size s none = 0
held_share_size s (some h) = share_size_def s h.size

abbrev pub body_size : Config → Body → ℕ
body_size s clock = 0
body_size s (clock_reply x) = stamp_size
body_size s (store x) = stamp_size + share_size_def s x.share.size
body_size s (store_reply x) = 1
body_size s (complete x) = candidate_size_def s
body_size s complete_reply = 0
body_size s collect = 0
body_size s (collect_reply x) = candidate_size_def s
body_size s (filter x) = 1 + length x * candidate_size_def s
body_size s (filter_reply x) = stamp_size + 1 + held_share_size s x.share
body_size s (repair x) = candidate_size_def s
body_size s repair_reply = 0

-- ---- the parts that Packets leaves

any-stamp-length : (a : Stamp) → any_stamp_f.Ok a → length (any_stamp_f.print a) ≡ stamp_size
any-stamp-length a h = unfold any_stamp_f or_blank in stamp-length a (any-stamp-tag a h)

code-length : (n : ℕ) → length (code_f.print n) ≡ 1
unfolding code_f such byte
code-length n = refl

module _ (s : Config) where
  list_length : (cs : List Candidate) → All (candidate_f s).Ok cs → length (print_many (candidate_f s) cs) ≡ length cs * candidate_size_def s
  list_length [] h = omega arith
  list_length (c ∷ cs) h =
      omega (
        arith,
        length-append ((candidate_f s).print c) (print_many (candidate_f s) cs),
        candidate-length s c (candidate-lengths s c h.0),
        list_length cs h.1,
        suc-mul (length cs) (candidate_size_def s),
      )

  candidates-length : (cs : List Candidate) → (candidates_f s).Ok cs → length ((candidates_f s).print cs) ≡ 1 + length cs * candidate_size_def s
  unfolding candidates_f via seq byte many
  candidates-length cs h = omega (arith, list_length cs h.1.1)

  pub held-length : (x : Held) → (held_f s).Ok x → length ((held_f s).print x) ≡ stamp_size + 1 + held_share_size s x.share
  unfolding held_f via seq optional any_stamp_f or_blank
  held-length x o = go x.share (held-lengths s x o).share
    where
      go : (y : Option Share) → ((h : Share) → y ≡ some h → ShareLengths s h)
          → length (stamp_f.print x.stamp ++ (optional (held_most_def x.stamp) (share_f s)).print y) ≡ stamp_size + 1 + held_share_size s y
      go none k = omega (arith, length-append (stamp_f.print x.stamp) (0 ∷ []), stamp-length x.stamp (held-lengths s x o).tag)
      go (some h) k =
          omega (
            arith,
            length-append (stamp_f.print x.stamp) (1 ∷ (share_f s).print h),
            stamp-length x.stamp (held-lengths s x o).tag,
            share-length s h (k h refl),
          )

  -- ---- bodies

  pub body-length : (x : Body) → BodyOk s x → length (print_body s x) ≡ body_size s x
  body-length clock h = refl
  body-length (clock_reply x) h = any-stamp-length x h
  body-length (store x) h = write-length s x h
  body-length (store_reply x) h = code-length x
  body-length (complete x) h = candidate-length s x (candidate-lengths s x h)
  body-length complete_reply h = refl
  body-length collect h = refl
  body-length (collect_reply x) h = any-candidate-length s x h
  body-length (filter x) h = candidates-length x h
  body-length (filter_reply x) h = held-length x h
  body-length (repair x) h = candidate-length s x (candidate-lengths s x h)
  body-length repair_reply h = refl

-- ---- packets

pub packet-length : (p : Packet) → length (encode p) ≡ head_size + length (print_body (shelf p.head.t) p.body)
unfolding encode packet_f via seq body_f
packet-length p =
    length-append (head_f.print p.head) (print_body (shelf p.head.t) p.body)
    ∙ ap (λ (n : ℕ). n + length (print_body (shelf p.head.t) p.body)) (head-length p.head)

pub packet-size : (p : Packet) → PacketOk p → length (encode p) ≡ head_size + body_size (shelf p.head.t) p.body
packet-size p h = packet-length p ∙ ap (λ (n : ℕ). head_size + n) (body-length (shelf p.head.t) p.body (body_ok p h))
