-- A packet whose parts are bytes is printed as bytes. By the layout: what stands in a row is bytes where each of it is.
-- Assumes nothing.
use mathlib.Core.Path.{◌≡◌, refl}
use mathlib.Core.Bool.{Bool, true, ◌&&◌}
use mathlib.Core.List.{List, [], ◌∷◌, ◌++◌}
use mathlib.Core.Option.{none, some}
use Prim.Native.Nat.{ℕ, zero, suc, ◌/◌, ◌%◌, ◌≤◌, ◌<◌}
use native.Mathlib.Omega.{arith}
use lib.Dec.{ltb, leb}
use lib.ListN.{length}
use borrow.Author.Tests.{ltb-true, leb-true}
use Rattle.cluster.specs.Config.{Config, shelf}
use Rattle.cluster.specs.Ranges.{top_number}
use Rattle.protocol.specs.declared.Stamp.{Stamp}
use Rattle.format.specs.Format.{Bytes, byte, number2, number4, run, seq, via, such, or_blank, many, optional, print_many, print4}
use Rattle.protocol.specs.Values.{Candidate, Share, Held, run_of}
use Rattle.protocol.specs.Packet.{Body, Packet, stamp_f, any_stamp_f, share_f, write_f, candidate_f, any_candidate_f, candidates_f, held_f, code_f, print_body}
use Rattle.protocol.specs.Packet.{body_f, head_f, packet_f, encode}
use Rattle.protocol.specs.Packet.{clock, clock_reply, store, store_reply, complete, complete_reply, collect, collect_reply, filter, filter_reply, repair}
use Rattle.protocol.specs.Packet.{repair_reply}
use Rattle.atomicity.specs.Lists.{All}
use Rattle.atomicity.proofs.Util.{and_left, and_right}

-- ---- lists of bytes, byte by byte

pub data Byted : List ℕ → Type 0 where
  done : Byted []
  next : {x : ℕ} {xs : List ℕ} → x < 256 → Byted xs → Byted (x ∷ xs)

pub row : {xs ys : List ℕ} → Byted xs → Byted ys → Byted (xs ++ ys)
row done k = k
row (next h r) k = next h (row r k)

pub bytes_of : {xs : List ℕ} → Byted xs → Bytes xs
bytes_of done i = omega arith
bytes_of (next h r) zero = h
bytes_of (next h r) (suc i) = bytes_of r i

pub byted : (xs : List ℕ) → Bytes xs → Byted xs
byted [] h = done
byted (x ∷ xs) h = next (h 0) (byted xs (λ i. h (suc i)))

pub run-bytes : (n : ℕ) (f : ℕ → List ℕ) → ((i : ℕ) → Byted (f i)) → Byted (run_of n f)
unfolding run_of
run-bytes zero f h = done
run-bytes (suc n) f h = row (run-bytes n f h) (h (suc n))

-- a list that is known, by its test
abbrev pub all_bytes : List ℕ → Bool
all_bytes [] = true
all_bytes (x ∷ xs) = ltb x 256 && all_bytes xs

pub bytes_ok : (l : List ℕ) → all_bytes l ≡ true → Byted l
bytes_ok [] e = done
bytes_ok (x ∷ xs) e = next (ltb-true x 256 (and_left (ltb x 256) _ e)) (bytes_ok xs (and_right (ltb x 256) _ e))

number-bytes : (n : ℕ) → n ≤ top_number → Byted (print4 n)
number-bytes n h =
    next {x = n / 16777216} (omega arith) (next {x = n / 65536 % 256} (omega arith)
    (next {x = n / 256 % 256} (omega arith) (next {x = n % 256} (omega arith) done)))

-- ---- the parts of a packet

pub record StampBytes (a : Stamp) : Type 0 where
  pub number : a.number ≤ top_number
  pub writer : a.writer < 256
  pub tag : Byted a.tag

pub record CandidateBytes (c : Candidate) : Type 0 where
  pub stamp : StampBytes c.stamp
  pub nonce : Byted c.nonce
  pub tags : Byted c.tags

pub record ShareBytes (h : Share) : Type 0 where
  pub size : h.size < 65536
  pub fragment : Byted h.fragment
  pub digests : Byted h.digests
  pub nonce_digest_def : Byted h.nonce_digest_def
  pub tags : Byted h.tags

-- a stamp, and perhaps a share
pub data HeldBytes : Held → Type 0 where
  bare : {a : Stamp} → StampBytes a → HeldBytes (record { stamp = a; share = none })
  full : {a : Stamp} {g : Share} → StampBytes a → ShareBytes g → HeldBytes (record { stamp = a; share = some g })

abbrev pub BodyBytes : Body → Type 0
BodyBytes clock = Unit {0}
BodyBytes (clock_reply a) = StampBytes a
BodyBytes (store w) = StampBytes w.stamp × ShareBytes w.share
BodyBytes (store_reply n) = n < 256
BodyBytes (complete c) = CandidateBytes c
BodyBytes complete_reply = Unit {0}
BodyBytes collect = Unit {0}
BodyBytes (collect_reply c) = CandidateBytes c
BodyBytes (filter cs) = (length cs < 256) × All CandidateBytes cs
BodyBytes (filter_reply h) = HeldBytes h
BodyBytes (repair c) = CandidateBytes c
BodyBytes repair_reply = Unit {0}

stamp-bytes : (a : Stamp) → StampBytes a → Byted (stamp_f.print a)
unfolding stamp_f via seq number4 byte run
stamp-bytes a b = row (number-bytes a.number b.number) (next b.writer b.tag)

module _ (s : Config) where
  share-bytes : (h : Share) → ShareBytes h → Byted ((share_f s).print h)
  unfolding share_f via seq number2 run
  share-bytes h b =
      next {x = h.size / 256} (omega (arith, b.size)) (next {x = h.size % 256} (omega arith)
      (row b.fragment (row b.digests (row b.nonce_digest_def b.tags))))

  candidate-bytes : (c : Candidate) → CandidateBytes c → Byted ((candidate_f s).print c)
  unfolding candidate_f via seq run
  candidate-bytes c b = row (stamp-bytes c.stamp b.stamp) (row b.nonce b.tags)

  candidates-bytes : (cs : List Candidate) → All CandidateBytes cs → Byted (print_many (candidate_f s) cs)
  unfolding All
  candidates-bytes [] h = done
  candidates-bytes (c ∷ cs) h = row (candidate-bytes c h.0) (candidates-bytes cs h.1)

  held_bytes : (h : Held) → HeldBytes h → Byted ((held_f s).print h)
  unfolding held_f any_stamp_f or_blank via seq optional
  held_bytes h (bare {a} b) = row (stamp-bytes a b) (bytes_ok (0 ∷ []) refl)
  held_bytes h (full {a} {g} b k) = row (stamp-bytes a b) (next {x = 1} (omega arith) (share-bytes g k))

  body_bytes : (x : Body) → BodyBytes x → Byted (print_body s x)
  unfolding any_stamp_f or_blank any_candidate_f write_f candidates_f code_f such via seq byte many
  body_bytes clock h = done
  body_bytes (clock_reply a) h = stamp-bytes a h
  body_bytes (store w) h = row (stamp-bytes w.stamp h.0) (share-bytes w.share h.1)
  body_bytes (store_reply n) h = next h done
  body_bytes (complete c) h = candidate-bytes c h
  body_bytes complete_reply h = done
  body_bytes collect h = done
  body_bytes (collect_reply c) h = candidate-bytes c h
  body_bytes (filter cs) h = next h.0 (candidates-bytes cs h.1)
  body_bytes (filter_reply x) h = held_bytes x h
  body_bytes (repair c) h = candidate-bytes c h
  body_bytes repair_reply h = done

-- ---- a packet

pub record PacketBytes (p : Packet) : Type 0 where
  pub kind : p.head.kind < 256
  pub client : p.head.client < 256
  pub server : p.head.server < 256
  pub t : p.head.t < 256
  pub call : p.head.call ≤ top_number
  pub body : BodyBytes p.body

pub packet-bytes : (p : Packet) → PacketBytes p → Bytes (encode p)
unfolding encode packet_f head_f body_f via seq such byte number4
packet-bytes p h =
    bytes_of (next h.kind (next h.client (next h.server (next h.t
    (row (number-bytes p.head.call h.call) (body_bytes (shelf p.head.t) p.body h.body))))))

-- a head in its ranges, by one test
abbrev pub head_fits : Packet → Bool
head_fits p = ltb p.head.kind 256 && (ltb p.head.client 256 && (ltb p.head.server 256 &&
    (ltb p.head.t 256 && leb p.head.call top_number)))

pub packet_of : (p : Packet) → head_fits p ≡ true → BodyBytes p.body → PacketBytes p
packet_of p e b =
    let e1 = and_right (ltb p.head.kind 256) _ e in
    let e2 = and_right (ltb p.head.client 256) _ e1 in
    let e3 = and_right (ltb p.head.server 256) _ e2 in
    record {
      kind = ltb-true _ _ (and_left (ltb p.head.kind 256) _ e);
      client = ltb-true _ _ (and_left (ltb p.head.client 256) _ e1);
      server = ltb-true _ _ (and_left (ltb p.head.server 256) _ e2);
      t = ltb-true _ _ (and_left (ltb p.head.t 256) _ e3);
      call = leb-true _ _ (and_right (ltb p.head.t 256) _ e3);
      body = b;
    }
