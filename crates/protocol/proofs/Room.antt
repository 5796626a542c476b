-- Room: on every legal shelf a held reply fits its slot, a stored write is shorter, and so 32 of them fit a memory.
-- A fragment has at most 512 bytes and a shelf at most 13 servers; that is all that is used of the numbers. Everything else rests on `Fitting`.
-- Nothing is assumed.
use mathlib.Core.List.{List, [], ◌∷◌}
use Prim.Native.Nat.{ℕ, ◌+◌, ◌*◌, ◌≤◌, ◌<◌}
use native.Mathlib.Omega.{arith}
use lib.ListN.{length, length-append}
use Rattle.cluster.specs.Config.{Config, Legal, shelf}
use Rattle.cluster.specs.Ranges.{top_faults, most_servers, top_length}
use Rattle.cluster.proofs.Legal.{legal-shelf}
use Rattle.erasure.proofs.Answers.{size_fits}
use Rattle.format.specs.Format.{All, print_many, via, seq, number2}
use Rattle.protocol.specs.Values.{Share, Write, stamp_size}
use Rattle.protocol.specs.Packet.{share_f, share_size_def, write_f}
use Rattle.protocol.specs.View.{reply_slot}
use Rattle.protocol.proofs.Packets.{ShareLengths, share-length, write-length}

-- the numbers of s fit the kept bytes: the slots are for the most servers, and a slot holds a stamp, a byte and a share
pub record Fitting (s : Config) : Type 0 where
  pub few : s.servers ≤ most_servers
  pub room : (n : ℕ) → n ≤ top_length → stamp_size + 1 + share_size_def s n ≤ reply_slot

pub legal-fits : (s : Config) → Legal s → Fitting s
unfolding share_size_def
legal-fits s l =
    record {
      few = l.few;
      room = λ n h. omega (arith, size_fits s.threshold n (omega (arith, l.faulty, l.restores)) h, l.few);
    }

pub shelf-fits : (t : ℕ) → 1 ≤ t → t ≤ top_faults → Fitting (shelf t)
shelf-fits t l h = legal-fits (shelf t) (legal-shelf t l h)

module _ (s : Config) (f : Fitting s) where
  pub share-size : (h : Share) → (share_f s).Ok h → h.size ≤ top_length
  unfolding share_f via seq number2
  share-size h o = o.0.1

  pub share-fits : (h : Share) → ShareLengths s h → h.size ≤ top_length → stamp_size + 1 + length ((share_f s).print h) ≤ reply_slot
  share-fits h l o = omega (arith, share-length s h l, f.room h.size o)

  pub share-room : (h : Share) → (share_f s).Ok h → stamp_size + 1 + share_size_def s h.size ≤ reply_slot
  share-room h o = f.room h.size (share-size h o)

  pub write-room : (w : Write) → (write_f s).Ok w → length ((write_f s).print w) < reply_slot
  write-room w o = omega (arith, write-length s w o, share-room w.share (share_of_lem w o))
    where
      share_of_lem : (w : Write) → (write_f s).Ok w → (share_f s).Ok w.share
      share_of_lem w o = unfold write_f via seq in o.1

  pub writes-room : (ws : List Write) → All (write_f s).Ok ws → length (print_many (write_f s) ws) ≤ reply_slot * length ws
  writes-room [] o = omega arith
  writes-room (w ∷ ws) o =
      omega (arith, length-append ((write_f s).print w) (print_many (write_f s) ws), write-room w o.0, writes-room ws o.1)
