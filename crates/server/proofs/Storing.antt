-- Store: what the history holds for the packet's stamp is found by the stamp's bytes, and a write that is new is kept, where there is room.
-- By the laws of replies and of the memory with one more write. Assumes nothing.
use mathlib.Core.Path.{◌≡◌, refl, sym, ap, ◌∙◌, subst}
use mathlib.Core.Bool.{Bool, true, false}
use mathlib.Core.List.{List, [], ◌∷◌, ◌++◌}
use mathlib.Core.Option.{some}
use Prim.Native.Nat.{ℕ, ◌≤◌, ◌<◌}
use native.Mathlib.Omega.{arith}
use lib.ListN.{length, take, drop}
use lib.Seq.{take_at}
use borrow.Author.Tests.{le-leb, lt-leb}
use Rattle.cluster.specs.Config.{Config, shelf}
use Rattle.cluster.specs.Ranges.{capacity, packet_room}
use Rattle.cluster.specs.declared.Outcome.{Outcome}
use Rattle.protocol.specs.declared.Head.{Head}
use Rattle.format.specs.Format.{Bytes, byte, such, via, seq, run}
use Rattle.protocol.specs.Values.{Write, is_some, stamp_size}
use Rattle.protocol.specs.Packet.{stamp_f, share_f, write_f, code_f, store, store_reply, print_body, head_size, decode}
use Rattle.protocol.specs.Memory.{encode_memory, lookup}
use Rattle.protocol.specs.Server.{memory_of, Acted, Server, on_store_def, act}
use Rattle.format.specs.Reading.{bytes_at}
use Rattle.protocol.specs.Primitives.{real}
use Rattle.protocol.specs.ServerBytes.{Served, server_in, acted_on}
use Rattle.protocol.proofs.Acts.{ServerOk, act-ok}
use Rattle.protocol.proofs.Packets.{stamp-length}
use Rattle.format.proofs.Walks.{many-count}
use Rattle.wire.specs.Places.{body_at, packet_at, write_at_def}
use Rattle.wire.specs.Make.{packet_step}
use Rattle.server.specs.declared.memory.Top.{Top}
use Rattle.server.specs.declared.memory.Opened.{Opened}
use Rattle.std.specs.declared.option.Option as rust
use Rattle.std.specs.Prelude.{Some, None}
use Rattle.std.specs.Option as std
use lib.Dec.{T}
use Rattle.server.specs.Reads.{first_with, FindAs, OpenedAs}
use Rattle.server.specs.Answers.{memory_in, ToServer, reply_head_def, kept_bytes}
use Rattle.server.proofs.Finding.{share_in_def, first-held}
use Rattle.server.proofs.Keeping.{kept_memory}
use Rattle.server.proofs.Replies.{body_of, told_to, to-server, replied_as, unchanged, sent-ok, sent-bytes}
use Rattle.server.proofs.Standing.{server-ok}

-- a write's bytes begin with its stamp's
write-stamp : (s : Config) (w : Write) → (write_f s).Ok w → take stamp_size ((write_f s).print w) ≡ stamp_f.print w.stamp
unfolding write_f via seq
write-stamp s w ok =
    take_at (stamp_f.print w.stamp) ((share_f s).print w.share) stamp_size (stamp-length w.stamp (unfold stamp_f via seq run in ok.0.1.1))

-- ---- the answers

module _ {d : List ℕ} (bs : Bytes d) (packet : List ℕ) (ps : Bytes packet) (output : List ℕ) (h : Head) {n e : ℕ} {top : rust.Option Top} (key : List ℕ)
    (o : OpenedAs d (told_to h n e top))
    (dec : decode packet ≡ some (packet_at h packet)) (k : h.kind ≡ 3) (room : packet_room ≤ length output) where
  abbrev written : Write
  written = write_at_def (shelf h.t) (drop head_size packet)

  abbrev server : Server
  server = server_in (memory_in o)

  the-body : (packet_at h packet).body ≡ store written
  unfolding body_at
  the-body = body_of h packet 3 k

  write-ok : (write_f (shelf h.t)).Ok written
  write-ok = sent-ok h packet dec the-body

  write_bytes : drop head_size packet ≡ (write_f (shelf h.t)).print written
  write_bytes = sent-bytes h packet dec the-body ps

  found-held : {x : List ℕ} → x ≡ drop head_size packet → share_in_def (first_with (bytes_at x 0 stamp_size) o.writes) ≡ lookup written.stamp o.writes
  unfolding bytes_at
  found-held p =
      ap (λ (z : List ℕ). share_in_def (first_with z o.writes)) (ap (take stamp_size) (p ∙ write_bytes) ∙ write-stamp (shelf h.t) written write-ok)
      ∙ first-held written.stamp o.writes

  count : length o.writes ≡ n
  count = many-count n (write_f (shelf h.t)) o.holds.there

  -- the step by what is held, and by the count
  module _ (g : Bool) (q : is_some (lookup written.stamp o.writes) ≡ g) where
    step-held : g ≡ true → act real (shelf h.t) key h.server server (store written) ≡ record { server = server; reply = store_reply 10 }
    unfolding act on_store_def server_in
    step-held t = rw (q ∙ t)

    step_full : g ≡ false → capacity ≤ n → act real (shelf h.t) key h.server server (store written) ≡ record
        { server = server; reply = store_reply 11 }
    unfolding act on_store_def server_in
    step_full t l = rw (q ∙ t, le-leb capacity (length o.writes) (omega (arith, count, l)))

    step_kept : g ≡ false → n < capacity
        → act real (shelf h.t) key h.server server (store written)
        ≡ record { server = record { latest = (memory_in o).latest; history = o.writes ++ written ∷ [] }; reply = store_reply 0 }
    unfolding act on_store_def server_in
    step_kept t l = rw (q ∙ t, lt-leb capacity (length o.writes) (omega (arith, count, l)))

  code_alone : (c : ℕ) → print_body (shelf h.t) (store_reply c) ≡ (c ∷ []) ++ []
  unfolding code_f such byte
  code_alone c = refl

  module _ {x : List ℕ} (p : x ≡ drop head_size packet) (f : rust.Option ℕ) (g : FindAs d (told_to h n e top) x f) where
    is_held : std.is_some f ≡ true → is_some (lookup written.stamp o.writes) ≡ true
    is_held t = go f g t
      where
        go : (r : rust.Option ℕ) → FindAs d (told_to h n e top) x r → std.is_some r ≡ true → is_some (lookup written.stamp o.writes) ≡ true
        go (Some at) g t = ap is_some (sym (found-held p) ∙ ap share_in_def (g o.writes o.holds).first)
        go None g t = absurd (subst T (sym t) tt)

    is_new_lem : std.is_some f ≡ false → is_some (lookup written.stamp o.writes) ≡ false
    is_new_lem t = go f g t
      where
        go : (r : rust.Option ℕ) → FindAs d (told_to h n e top) x r → std.is_some r ≡ false → is_some (lookup written.stamp o.writes) ≡ false
        go (Some at) g t = absurd (subst T t tt)
        go None g t = ap is_some (sym (found-held p) ∙ ap share_in_def (g o.writes o.holds))

    held_here : {r : Outcome} {out : List ℕ} → std.is_some f ≡ true → record { result = r; output = out } ≡ packet_step (reply_head_def h 4)
        (10 ∷ []) [] output
        → record { result = r; memory = d; output = out } ≡ acted_on real d key packet output (some (memory_in o)) (decode packet)
    held_here t w =
        replied_as key packet output h o dec room (store written) the-body _ (step-held true (is_held t) refl) (10 ∷ []) [] (unchanged o bs)
        (code_alone 10) w

    full_here : {r : Outcome} {out : List ℕ} → std.is_some f ≡ false → capacity ≤ n → record { result = r; output = out } ≡ packet_step
        (reply_head_def h 4) (11 ∷ []) [] output
        → record { result = r; memory = d; output = out } ≡ acted_on real d key packet output (some (memory_in o)) (decode packet)
    full_here t l w =
        replied_as key packet output h o dec room (store written) the-body _ (step_full false (is_new_lem t) refl l) (11 ∷ []) [] (unchanged o bs)
        (code_alone 11) w

    kept_here : {r : Outcome} {out : List ℕ} → std.is_some f ≡ false → n < capacity → {m : List ℕ} → m ≡ kept_bytes d (told_to h n e top) x
        → record { result = r; output = out } ≡ packet_step (reply_head_def h 4) (0 ∷ []) [] output
        → record { result = r; memory = m; output = out } ≡ acted_on real d key packet output (some (memory_in o)) (decode packet)
    kept_here t l u w =
        let a = step_kept false (is_new_lem t) refl l in
        let ok = subst (λ (z : Acted). ServerOk (shelf h.t) z.server) a (act-ok real (shelf h.t) key h.server server (server-ok o)
        (store written) write-ok).server in
        replied_as key packet output h o dec room (store written) the-body _ a (0 ∷ []) []
        (u ∙ as-memory ok l x (p ∙ write_bytes)) (code_alone 0) w
      where
        as-memory : ServerOk (shelf h.t) (record { latest = (memory_in o).latest; history = o.writes ++ written ∷ [] }) → n < capacity →
            (y : List ℕ)
            → y ≡ (write_f (shelf h.t)).print written
            → kept_bytes d (told_to h n e top) y ≡ encode_memory (memory_of h.t h.server (record
            { latest = (memory_in o).latest; history = o.writes ++ written ∷ [] }))
        as-memory ok l y q = kept_memory o bs written l ok y q

-- ---- whatever is told of the server that the packet is to

module _ {d : List ℕ} (bs : Bytes d) (packet : List ℕ) (ps : Bytes packet) (output : List ℕ) (h : Head) {told : Opened} (key : List ℕ)
    (o : OpenedAs d told) (own : ToServer h told) (dec : decode packet ≡ some (packet_at h packet)) (k : h.kind ≡ 3)
    (room : packet_room ≤ length output) {x : List ℕ} (p : x ≡ drop head_size packet) (f : rust.Option ℕ) (g : FindAs d told x f) where
  pub answer-held : {r : Outcome} {out : List ℕ} → std.is_some f ≡ true
      → record { result = r; output = out } ≡ packet_step (reply_head_def h 4) (10 ∷ []) [] output
      → record { result = r; memory = d; output = out } ≡ acted_on real d key packet output (some (memory_in o)) (decode packet)
  answer-held {r} {out} t w =
      let answer : Served = record { result = r; memory = d; output = out } in
      to-server h own (λ z. FindAs d z x f → (o : OpenedAs d z) → answer ≡ acted_on real d key packet output (some (memory_in o)) (decode packet))
      (λ n e top g o. held_here bs packet ps output h key o dec k room p f g t w) g o

  pub answer_full : {r : Outcome} {out : List ℕ} → std.is_some f ≡ false → capacity ≤ told.count
      → record { result = r; output = out } ≡ packet_step (reply_head_def h 4) (11 ∷ []) [] output
      → record { result = r; memory = d; output = out } ≡ acted_on real d key packet output (some (memory_in o)) (decode packet)
  answer_full {r} {out} t l w =
      let answer : Served = record { result = r; memory = d; output = out } in
      to-server h own (λ z. FindAs d z x f → capacity ≤ z.count
      → (o : OpenedAs d z) → answer ≡ acted_on real d key packet output (some (memory_in o)) (decode packet))
      (λ n e top g l o. full_here bs packet ps output h key o dec k room p f g t l w) g l o

  pub answer-kept : {r : Outcome} {out : List ℕ} → std.is_some f ≡ false → told.count < capacity → {m : List ℕ} → m ≡ kept_bytes d told x
      → record { result = r; output = out } ≡ packet_step (reply_head_def h 4) (0 ∷ []) [] output
      → record { result = r; memory = m; output = out } ≡ acted_on real d key packet output (some (memory_in o)) (decode packet)
  answer-kept {r} {out} t l {m} u w =
      let answer : Served = record { result = r; memory = m; output = out } in
      to-server h own (λ z. FindAs d z x f → z.count < capacity → m ≡ kept_bytes d z x
      → (o : OpenedAs d z) → answer ≡ acted_on real d key packet output (some (memory_in o)) (decode packet))
      (λ n e top g l u o. kept_here bs packet ps output h key o dec k room p f g t l u w) g l u o
