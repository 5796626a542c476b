-- Filter: what was chosen is what the server's step keeps of the list, raised; the reply is what is held for its stamp.
-- By the laws of the raised memory and of replies; the blank is lowest and held by none. Assumes nothing.
use mathlib.Core.Path.{◌≡◌, sym, ap, ◌∙◌, subst}
use mathlib.Core.List.{List, [], append-nil}
use mathlib.Core.Option.{some}
use mathlib.Core.Bool.{and-false}
use Prim.Native.Nat.{ℕ, ◌≤◌}
use native.Mathlib.Omega.{arith}
use lib.ListN.{length, drop, get_or, length-drop, length-replicate}
use borrow.Author.Tests.{le-ltb}
use Rattle.cluster.specs.Config.{Config, shelf}
use Rattle.cluster.specs.Ranges.{packet_room}
use Rattle.cluster.specs.declared.Outcome.{Outcome}
use Rattle.hmac.specs.Hmac.{tag_size}
use Rattle.protocol.specs.declared.Head.{Head}
use Rattle.protocol.specs.declared.Stamp.{Stamp}
use Rattle.format.specs.Format.{Bytes}
use Rattle.protocol.specs.Values.{Candidate, below, blank_stamp, blank_candidate, stamp_size, candidate_size_def}
use Rattle.protocol.specs.Packet.{held_f, filter, filter_reply, head_size, decode}
use Rattle.protocol.specs.Memory.{lookup, encode_memory}
use Rattle.protocol.specs.Primitives.{real}
use Rattle.protocol.specs.Server.{memory_of, Acted, Server, raise, best, act}
use Rattle.protocol.specs.View.{stamp_at_def, candidate_at}
use Rattle.format.specs.Reading.{bytes_at}
use Rattle.protocol.specs.ServerBytes.{Served, server_in, acted_on}
use Rattle.protocol.proofs.Packets.{candidate-lengths, candidate-length}
use Rattle.wire.specs.Places.{candidate_list, packet_at, padded}
use Rattle.wire.specs.Make.{packet_step}
use Rattle.wire.proofs.Runs.{stamp-padded, padded-whole}
use Rattle.server.specs.declared.memory.Top.{Top}
use Rattle.server.specs.declared.memory.Opened.{Opened}
use Rattle.std.specs.declared.option.Option as rust
use Rattle.std.specs.Prelude.{Some, None}
use Rattle.server.specs.Reads.{OpenedAs}
use Rattle.server.specs.Answers.{memory_in, ToServer, reply_head_def, raised_bytes}
use Rattle.server.specs.Ranks.{slot_of}
use Rattle.server.specs.Filter.{ChosenIs, ChosenAs, HeldAs}
use Rattle.server.proofs.Raising.{raised-memory}
use Rattle.server.proofs.Replies.{told_to, to-server, replied_as, unchanged}
use Rattle.server.proofs.Listing.{count_in, list_in, filter-body, listed}

-- a stamp by value, where the bytes are long enough
stamp-value : (x : List ℕ) → stamp_size ≤ length x → stamp_at_def (padded stamp_size x) ≡ stamp_at_def x
unfolding stamp_at_def bytes_at
stamp-value x h =
    let e : padded tag_size (drop 5 x) ≡ bytes_at x 5 tag_size = unfold bytes_at in padded-whole tag_size (drop 5 x) (omega (arith, length-drop 5 x)) in
    sym (unfold stamp_at_def bytes_at in stamp-padded x) ∙ (λ i. record { number = (stamp_at_def x).number; writer = (stamp_at_def x).writer; tag = e i })

-- the blank raises nothing
blank_raises : (s : Config) (v : Server) → raise (blank_candidate s) v ≡ v
unfolding raise below
blank_raises s v =
    rw (le-ltb v.latest.stamp.number 0 (omega arith), le-ltb v.latest.stamp.writer 0 (omega arith), and-false)

module _ {d : List ℕ} (bs : Bytes d) (key packet : List ℕ) (ps : Bytes packet) (output : List ℕ) (h : Head) {n e : ℕ} {top : rust.Option Top}
    (o : OpenedAs d (told_to h n e top))
    (dec : decode packet ≡ some (packet_at h packet)) (k : h.kind ≡ 9) (room : packet_room ≤ length output) where
  abbrev s : Config
  s = shelf h.t

  abbrev server : Server
  server = server_in (memory_in o)

  abbrev Y : List ℕ
  Y = list_in packet

  abbrev M : ℕ
  M = count_in packet

  abbrev kept : Candidate
  kept = best real s key h.server server (blank_candidate s) (candidate_list s M Y)

  abbrev acted : Candidate → Acted
  acted c = record { server = raise c server; reply = filter_reply (record { stamp = c.stamp; share = lookup c.stamp o.writes }) }

  step_is : (c : Candidate) → kept ≡ c → act real s key h.server server (filter (candidate_list s M Y)) ≡ acted c
  unfolding act server_in
  step_is c p = ap acted p

  answered : (c : Candidate) → kept ≡ c → length c.stamp.tag ≡ tag_size → {a : Stamp} → a ≡ c.stamp → {r : Outcome} {m out : List ℕ} → m ≡
      encode_memory (memory_of h.t h.server (raise c server))
      → HeldAs d h (told_to h n e top) a output (record { result = r; output = out })
      → record { result = r; memory = m; output = out } ≡ acted_on real d key packet output (some (memory_in o)) (decode packet)
  answered c p l {a} q u w =
      let H : List ℕ = (held_f s).print (record { stamp = c.stamp; share = lookup c.stamp o.writes }) in
      replied_as key packet output h o dec room (filter (candidate_list s M Y)) (filter-body h packet dec k) (acted c) (step_is c p) H [] u
      (sym (append-nil H))
      (w o.writes o.holds (ap (λ (z : Stamp). length z.tag) q ∙ l) ∙ ap
      (λ (z : Stamp). packet_step (reply_head_def h 10) ((held_f s).print (record { stamp = z; share = lookup z o.writes })) [] output) q)

  module _ {u v : List ℕ} {m : ℕ} (p : u ≡ drop head_size packet) (q : v ≡ drop 1 u) (c : m ≡ get_or u 0 0) (f : rust.Option ℕ)
      (g : ChosenAs d key (told_to h n e top) v m f) where
    in-packet : v ≡ Y
    in-packet = q ∙ ap (drop 1) p

    choice : {x : rust.Option ℕ} → f ≡ x → ChosenIs s Y kept x
    choice {x} t =
        let i : m ≡ M = c ∙ ap (λ (z : List ℕ). get_or z 0 0) p in
        let j : ChosenAs d key (told_to h n e top) Y M f = subst (λ (z : List ℕ). ChosenAs d key (told_to h n e top) z M f) in-packet
        (subst (λ (z : ℕ). ChosenAs d key (told_to h n e top) v z f) i g) in
        subst (ChosenIs s Y kept) t (j o (listed h packet dec k ps))

    nothing_here : f ≡ None → {a : Stamp} → a ≡ blank_stamp → {r : Outcome} {out : List ℕ} → HeldAs d h (told_to h n e top) a output
        (record { result = r; output = out })
        → record { result = r; memory = d; output = out } ≡ acted_on real d key packet output (some (memory_in o)) (decode packet)
    nothing_here t a w =
        answered (blank_candidate s) (choice t) (length-replicate {A = ℕ} tag_size 0) a
        (unchanged o bs ∙ ap (λ (z : Server). encode_memory (memory_of h.t h.server z)) (sym (blank_raises s server))) w

    chosen_here : {i : ℕ} → f ≡ Some i → {x : List ℕ} → x ≡ slot_of s v i → {a : Stamp} → a ≡ stamp_at_def (padded stamp_size x) → {r : Outcome}
        {m₁ out : List ℕ}
        → HeldAs d h (told_to h n e top) a output (record { result = r; output = out }) → m₁ ≡ raised_bytes d x
        → record { result = r; memory = m₁; output = out } ≡ acted_on real d key packet output (some (memory_in o)) (decode packet)
    unfolding candidate_at
    chosen_here {i} t {x} y {a} b w z =
        let X : List ℕ = slot_of s Y i in
        let same : x ≡ X = y ∙ ap (λ (l : List ℕ). slot_of s l i) in-packet in
        let C = choice t in
        let lengths = candidate-lengths s (candidate_at s X) C.ok in
        let size : length X ≡ candidate_size_def s = ap length C.made ∙ candidate-length s (candidate_at s X) lengths in
        let stamp : a ≡ stamp_at_def X = b ∙ ap (λ (l : List ℕ). stamp_at_def (padded stamp_size l)) same ∙ stamp-value X (omega (arith, size)) in
        answered (candidate_at s X) C.best lengths.tag stamp
        (z ∙ ap (raised_bytes d) same ∙ raised-memory o bs X C.made C.ok) w

-- ---- whatever is told of the server that the packet is to

module _ {d : List ℕ} (bs : Bytes d) (key packet : List ℕ) (ps : Bytes packet) (output : List ℕ) (h : Head) {told : Opened} (o : OpenedAs d told)
    (own : ToServer h told) (dec : decode packet ≡ some (packet_at h packet)) (k : h.kind ≡ 9) (room : packet_room ≤ length output)
    {u v : List ℕ} {m : ℕ} (p : u ≡ drop head_size packet) (q : v ≡ drop 1 u) (c : m ≡ get_or u 0 0) (f : rust.Option ℕ) (g : ChosenAs d key told v m f) where
  pub filter-nothing : f ≡ None → {a : Stamp} → a ≡ blank_stamp → {r : Outcome} {out : List ℕ}
      → HeldAs d h told a output (record { result = r; output = out })
      → record { result = r; memory = d; output = out } ≡ acted_on real d key packet output (some (memory_in o)) (decode packet)
  filter-nothing t {a} b {r} {out} w =
      let answer : Served = record { result = r; memory = d; output = out } in
      to-server h own (λ z. ChosenAs d key z v m f → HeldAs d h z a output (record { result = r; output = out })
      → (o : OpenedAs d z) → answer ≡ acted_on real d key packet output (some (memory_in o)) (decode packet))
      (λ n e top g w o. nothing_here bs key packet ps output h o dec k room p q c f g t b w) g w o

  pub filter-chosen : {i : ℕ} → f ≡ Some i → {x : List ℕ} → x ≡ slot_of (shelf told.t) v i → {a : Stamp} → a ≡ stamp_at_def (padded stamp_size x)
      → {r : Outcome} {m₁ out : List ℕ} → HeldAs d h told a output (record { result = r; output = out }) → m₁ ≡ raised_bytes d x
      → record { result = r; memory = m₁; output = out } ≡ acted_on real d key packet output (some (memory_in o)) (decode packet)
  filter-chosen {i} t {x} y {a} b {r} {m₁} {out} w raised =
      let answer : Served = record { result = r; memory = m₁; output = out } in
      to-server h own (λ z. ChosenAs d key z v m f → x ≡ slot_of (shelf z.t) v i → HeldAs d h z a output (record { result = r; output = out })
      → (o : OpenedAs d z) → answer ≡ acted_on real d key packet output (some (memory_in o)) (decode packet))
      (λ n e top g y w o. chosen_here bs key packet ps output h o dec k room p q c f g t y b w raised) g y w o
