-- The latest candidate raised: heads read off bytes are in the order of their stamps, and a higher candidate's bytes over the latest ones
-- are the memory of the raised server. Assumes nothing.
use mathlib.Core.Path.{◌≡◌, refl, sym, ap, ◌∙◌}
use mathlib.Core.Bool.{Bool, true, false, cond}
use mathlib.Core.List.{List, []}
use mathlib.Core.Option.{some}
use Prim.Native.Nat.{ℕ, ◌+◌, ◌≤◌, ◌<◌}
use native.Mathlib.Omega.{arith}
use lib.ListN.{length, drop, get_or}
use borrow.Author.Tests.{le-leb}
use Rattle.cluster.specs.Config.{shelf}
use Rattle.cluster.specs.Ranges.{top_faults, memory_size}
use Rattle.cluster.specs.declared.Outcome.{Outcome}
use Rattle.protocol.specs.declared.Head.{Head}
use Rattle.format.specs.Format.{Bytes}
use Rattle.protocol.specs.Values.{Candidate, below, stamp_size, candidate_size_def}
use Rattle.protocol.specs.declared.kinds.Kind.TheVariants as kind
use Rattle.protocol.specs.Packet.{candidate_f, any_candidate_f, complete, head_size, decode}
use Rattle.protocol.specs.Memory.{encode_memory, latest_place}
use Rattle.protocol.specs.Primitives.{real}
use Rattle.protocol.specs.Server.{memory_of, Server, raise, act}
use Rattle.protocol.specs.View.{stamp_at_def, candidate_at}
use Rattle.format.specs.Reading.{put}
use Rattle.protocol.specs.ServerBytes.{Served, server_in, acted_on}
use Rattle.protocol.proofs.Acts.{any-candidate}
use Rattle.protocol.proofs.Changes.{latest-bytes}
use Rattle.protocol.proofs.Packets.{any-print, any-candidate-length}
use Rattle.wire.specs.declared.values.CandidateHead.{CandidateHead}
use Rattle.wire.specs.Places.{padded, head_at_def, body_at, packet_at}
use Rattle.wire.specs.Make.{Placed, placed, packet_step}
use Rattle.wire.proofs.Runs.{padded_get}
use Rattle.server.specs.declared.memory.Opened.{Opened}
use Rattle.server.specs.Reads.{OpenedAs}
use Rattle.server.specs.Answers.{memory_in, reply_head_def, raised_bytes, AnswersFor}
use Rattle.server.proofs.Standing.{memory-bytes, memory-size_of, memory-fields}
use Rattle.server.proofs.Replies.{body_of, to-server, replied, unchanged, sent-ok, sent-bytes}

-- a head read off bytes has the number and the writer that stand there
module _ (x : List ℕ) where
  place : (i : ℕ) → i < stamp_size → get_or (padded stamp_size x) i 0 ≡ get_or x i 0
  place i h = padded_get stamp_size x i h

  head-number : (head_at_def x).stamp.number ≡ (stamp_at_def x).number
  unfolding head_at_def stamp_at_def
  head-number = rw (place 0 (omega arith), place 1 (omega arith), place 2 (omega arith), place 3 (omega arith)) refl

  head-writer : (head_at_def x).stamp.writer ≡ (stamp_at_def x).writer
  unfolding head_at_def stamp_at_def
  head-writer = place 4 (omega arith)

head-below : (x y : List ℕ) → below (head_at_def x).stamp (head_at_def y).stamp ≡ below (stamp_at_def x) (stamp_at_def y)
unfolding below
head-below x y = rw (head-number x, head-number y, head-writer x, head-writer y) refl

-- ---- each way through the code

module _ (d x : List ℕ) {y : List ℕ} (p : y ≡ drop latest_place d) {h g : CandidateHead} (u : h ≡ head_at_def y) (v : g ≡ head_at_def x) {b : Bool}
    (w : b ≡ below h.stamp g.stamp) where
  tested : b ≡ below (stamp_at_def (drop latest_place d)) (stamp_at_def x)
  tested = w ∙ (λ i. below ((u ∙ ap head_at_def p) i).stamp (v i).stamp) ∙ head-below (drop latest_place d) x

  pub raise-higher : b ≡ true → {next : ℕ} {out : List ℕ} → record { next = next; output = out } ≡ placed d latest_place x → out ≡ raised_bytes d x
  unfolding raised_bytes
  raise-higher t q = rw (sym tested ∙ t) (ap (λ (z : Placed). z.output) q)

  pub raise-other : b ≡ false → d ≡ raised_bytes d x
  unfolding raised_bytes
  raise-other t = rw (sym tested ∙ t) refl

-- ---- the bytes of the raised server

cond-memory : (t b : ℕ) (g : Bool) (p q : Server) (x y : List ℕ) → x ≡ encode_memory (memory_of t b p) → y ≡ encode_memory (memory_of t b q)
    → cond g x y ≡ encode_memory (memory_of t b (cond g p q))
cond-memory t b true p q x y e f = e
cond-memory t b false p q x y e f = f

pub placed_put : (d : List ℕ) (at : ℕ) (x : List ℕ) → at + length x ≤ length d → (placed d at x).output ≡ put d at x
unfolding placed
placed_put d at x h = rw (le-leb (at + length x) (length d) h)

pub size_few : (t : ℕ) → t ≤ top_faults → latest_place + candidate_size_def (shelf t) ≤ memory_size
unfolding shelf
size_few t h = omega arith

module _ {d : List ℕ} {told : Opened} (o : OpenedAs d told) (bs : Bytes d) (x : List ℕ) where
  abbrev t : ℕ
  t = told.t

  abbrev b : ℕ
  b = told.server

  module _ (p : x ≡ (candidate_f (shelf t)).print (candidate_at (shelf t) x)) (ok : (candidate_f (shelf t)).Ok (candidate_at (shelf t) x)) where
    any-length : (c : Candidate) → (any_candidate_f (shelf t)).Ok c → length ((any_candidate_f (shelf t)).print c) ≡ candidate_size_def (shelf t)
    any-length c h = any-candidate-length (shelf t) c h

    x-any : x ≡ (any_candidate_f (shelf t)).print (candidate_at (shelf t) x)
    x-any = p ∙ sym (any-print (shelf t) (candidate_at (shelf t) x))

    x-length : length x ≡ candidate_size_def (shelf t)
    x-length = ap length x-any ∙ any-length (candidate_at (shelf t) x) (any-candidate (shelf t) (candidate_at (shelf t) x) ok)

    placed-raised : (placed d latest_place x).output ≡ encode_memory (memory_of t b (record { latest = candidate_at (shelf t) x; history = o.writes }))
    placed-raised =
        let l : latest_place + length x ≤ length d = omega (arith, x-length, memory-size_of o bs, size_few t (memory-fields o).t_range.1) in
        let c : Candidate = candidate_at (shelf t) x in
        let same : length ((any_candidate_f (shelf t)).print (memory_in o).latest) ≡ length ((any_candidate_f (shelf t)).print c) =
        any-length (memory_in o).latest (memory-fields o).latest ∙ sym (any-length c (any-candidate (shelf t) c ok)) in
        placed_put d latest_place x l
        ∙ ap (λ (z : List ℕ). put z latest_place x) (sym (memory-bytes o bs))
        ∙ ap (λ (z : List ℕ). put (encode_memory (memory_in o)) latest_place z) x-any
        ∙ latest-bytes (memory_in o) c same

    pub raised-memory : raised_bytes d x ≡ encode_memory (memory_of t b (raise (candidate_at (shelf t) x) (server_in (memory_in o))))
    unfolding raised_bytes raise server_in candidate_at
    raised-memory =
        let v : Server = server_in (memory_in o) in
        let w : Server = record { latest = candidate_at (shelf t) x; history = o.writes } in
        cond-memory t b (below (stamp_at_def (drop latest_place d)) (stamp_at_def x)) w v (placed d latest_place x).output d placed-raised (unchanged o bs)

-- ---- complete

module _ (d packet : List ℕ) (ps : Bytes packet) (output : List ℕ) (h : Head) where
  pub complete-answers : {x m out : List ℕ} {r : Outcome} → x ≡ drop head_size packet → m ≡ raised_bytes d x
      → record { result = r; output = out } ≡ packet_step (reply_head_def h 6) [] [] output
      → AnswersFor kind.Complete d packet output h (record { result = r; memory = m; output = out })
  unfolding body_at act packet_at
  complete-answers {x} {m} {out} {r} c e w key told o own dec k room =
      let y : List ℕ = drop head_size packet in
      let b = body_of h packet 5 k in
      let answer : Served = record { result = r; memory = m; output = out } in
      to-server h own (λ z. (o : OpenedAs d z) → answer ≡ acted_on real d key packet output (some (memory_in o)) (decode packet))
      (λ n z top o. replied key packet output h o dec room (complete (candidate_at (shelf h.t) y)) b [] []
      (e ∙ ap (raised_bytes d) c ∙ raised-memory o o.bytes y (sent-bytes h packet dec b ps) (sent-ok h packet dec b)) refl w) o
