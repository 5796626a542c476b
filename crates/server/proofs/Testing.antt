-- The test of a candidate: a stored write of its stamp has the nonce digest at its place, the tag of this server is at its place,
-- and the tagged bytes are those of the packet. Assumes nothing.
use mathlib.Core.Path.{◌≡◌, sym, ap, ◌∙◌, subst}
use mathlib.Core.Bool.{Bool, true, false}
use mathlib.Core.List.{List, ◌++◌, append-nil}
use mathlib.Core.Option.{none, some}
use Prim.Native.Nat.{ℕ, ◌+◌, ◌-◌, ◌*◌}
use lib.ListN.{take, drop, get_or}
use lib.Seq.{drop-drop}
use Rattle.cluster.specs.Config.{Config, shelf}
use Rattle.sha256.specs.Sha256.{sha256}
use Rattle.hmac.specs.declared.Prepared.{Prepared}
use Rattle.hmac.specs.Hmac.{tag_size, tag_of}
use Rattle.hmac.specs.PreparedKey.{prepared_of, prepared_tag}
use Rattle.hmac.proofs.Laws.{prepared-tag}
use Rattle.protocol.specs.declared.Stamp.{Stamp}
use Rattle.erasure.specs.Fragments.{fragment_size_def}
use Rattle.format.specs.Format.{value2}
use Rattle.protocol.specs.Values.{Write, same_list, nth, stamp_size, nonce_size, digest_size, digests_size_def, tags_size_def}
use Rattle.protocol.specs.Packet.{stamp_f, candidate_f}
use Rattle.protocol.specs.Memory.{lookup}
use Rattle.protocol.specs.Primitives.{real, candidate_message}
use Rattle.protocol.specs.Server.{has_digest, by_history_def, by_tag, valid}
use Rattle.protocol.specs.View.{share_at, share_of_size, candidate_at}
use Rattle.format.specs.Reading.{bytes_at}
use Rattle.protocol.specs.ServerBytes.{server_in}
use Rattle.protocol.proofs.Equal.{message_printed}
use Rattle.protocol.proofs.Packets.{candidate-lengths}
use Rattle.wire.specs.Places.{write_at_def}
use Rattle.server.specs.declared.memory.Opened.{Opened}
use Rattle.std.specs.declared.option.Option as rust
use Rattle.std.specs.Prelude.{Some, None}
use Rattle.server.specs.Reads.{first_with, FindIs, FindAs, OpenedAs}
use Rattle.server.specs.Answers.{memory_in}
use Rattle.server.specs.Valid.{nonce_hash, HistoryAs, tag_checks, CandidateIn, ValidAs}
use Rattle.server.proofs.Finding.{share_in_def, first-held}
use Rattle.server.proofs.Standing.{candidate-stamp}

-- the nonce digest, past the length, the fragment and the digests
pub digest_at : (s : Config) (d : List ℕ) {v f g : ℕ} {x y z : List ℕ} → v ≡ value2 (get_or d 0 0) (get_or d 1 0) → f ≡ fragment_size_def s.threshold v
    → g ≡ digests_size_def s → x ≡ drop 2 d → y ≡ drop f x → z ≡ bytes_at y g digest_size → z ≡ (share_at s d).nonce_digest_def
unfolding bytes_at share_at share_of_size
digest_at s d {v} {f} {g} {x} {y} {z} a b c p q r =
    let u : f ≡ fragment_size_def s.threshold (value2 (get_or d 0 0) (get_or d 1 0)) = b ∙ ap (fragment_size_def s.threshold) a in
    r ∙ (λ i. take digest_size (drop (c i) ((q ∙ ap (drop f) p) i)))
    ∙ ap (λ (w : List ℕ). take digest_size (drop (digests_size_def s) w)) (drop-drop f 2 d)
    ∙ ap (take digest_size) (drop-drop (digests_size_def s) (2 + f) d)
    ∙ ap (λ (k : ℕ). take digest_size (drop (2 + k + digests_size_def s) d)) u

-- ---- by the history

module _ (d : List ℕ) (told : Opened) (x g : List ℕ) where
  abbrev s : Config
  s = shelf told.t

  found_for : (ws : List Write) (a : Stamp) → bytes_at x 0 stamp_size ≡ stamp_f.print a → share_in_def (first_with (bytes_at x 0 stamp_size) ws) ≡ lookup a ws
  found_for ws a q = ap (λ (z : List ℕ). share_in_def (first_with z ws)) q ∙ first-held a ws

  pub history_none : {f : rust.Option ℕ} → FindAs d told x f → f ≡ None → HistoryAs d told x g false
  history_none find t ws h a q =
      let i : first_with (bytes_at x 0 stamp_size) ws ≡ none = subst (λ (z : rust.Option ℕ). FindIs s d (first_with (bytes_at x 0 stamp_size) ws) z) t (find ws h)
      in
      sym (ap (has_digest g) (sym (found_for ws a q) ∙ ap share_in_def i))

  pub history-found : {f : rust.Option ℕ} → FindAs d told x f → {at : ℕ} → f ≡ Some at → {b c z : List ℕ} {r : Bool} → b ≡ drop at d → c ≡ drop
      stamp_size b → z ≡ (share_at s c).nonce_digest_def → r ≡ same_list z g
      → HistoryAs d told x g r
  unfolding write_at_def
  history-found find {at} t {b} {c} {z} {r} u v w k ws h a q =
      let i = subst (λ (j : rust.Option ℕ). FindIs s d (first_with (bytes_at x 0 stamp_size) ws) j) t (find ws h) in
      let l : lookup a ws ≡ some (share_at s (drop stamp_size (drop at d))) = sym (found_for ws a q) ∙ ap share_in_def i.first in
      k ∙ ap (λ (j : List ℕ). same_list j g) (w ∙ ap (λ (j : List ℕ). (share_at s j).nonce_digest_def) (v ∙ ap (drop stamp_size) u)) ∙ sym (ap (has_digest g) l)

-- ---- by the tag

pub tag-made : (prepared : Prepared) (told : Opened) (x g : List ℕ) {y u v z : List ℕ} {l : ℕ} {r : Bool} → y ≡ bytes_at x 0 stamp_size
    → v ≡ prepared_tag prepared (y ++ g) → l ≡ tags_size_def (shelf told.t) → u ≡ bytes_at x (stamp_size + nonce_size) l
    → z ≡ bytes_at u (tag_size * (told.server - 1)) tag_size → r ≡ same_list z v → r ≡ tag_checks prepared told x g
unfolding tag_checks candidate_at nth bytes_at
tag-made prepared told x g p q k i j w =
    let a = q ∙ ap (λ (o : List ℕ). prepared_tag prepared (o ++ g)) p in
    let c = j ∙ ap (λ (o : List ℕ). take tag_size (drop (tag_size * (told.server - 1)) o))
    (i ∙ ap (λ (o : ℕ). take o (drop (stamp_size + nonce_size) x)) k) in
    w ∙ (λ o. same_list (c o) (a o))

-- ---- both

module _ (d key : List ℕ) (told : Opened) (x : List ℕ) {g : List ℕ} (q : g ≡ nonce_hash x) where
  abbrev t : ℕ
  t = told.t

  abbrev b : ℕ
  b = told.server

  module _ (o : OpenedAs d told) (is : CandidateIn told x) where
    stamp-start : bytes_at x 0 stamp_size ≡ stamp_f.print (candidate_at (shelf t) x).stamp
    unfolding bytes_at
    stamp-start =
        ap (take stamp_size) (is.0 ∙ sym (append-nil ((candidate_f (shelf t)).print (candidate_at (shelf t) x))))
        ∙ candidate-stamp (shelf t) (candidate_at (shelf t) x) (candidate-lengths (shelf t) (candidate_at (shelf t) x) is.1).tag _

    digest_is : g ≡ real.digest (candidate_at (shelf t) x).nonce
    unfolding real candidate_at
    digest_is = q

    history_is : {r : Bool} → HistoryAs d told x g r → r ≡ by_history_def real (shelf t) key b (server_in (memory_in o)) (candidate_at (shelf t) x)
    unfolding by_history_def server_in
    history_is h =
        h o.writes o.holds (candidate_at (shelf t) x).stamp stamp-start ∙ ap
        (λ (z : List ℕ). has_digest z (lookup (candidate_at (shelf t) x).stamp o.writes)) digest_is

    tag_is : tag_checks (prepared_of key) told x g ≡ by_tag real (shelf t) key b (candidate_at (shelf t) x)
    unfolding tag_checks by_tag real
    tag_is =
        let c = candidate_at (shelf t) x in
        let v : g ≡ sha256 c.nonce = unfold real in digest_is in
        let m : bytes_at x 0 stamp_size ++ g ≡ candidate_message c.stamp (sha256 c.nonce) =
        (λ i. stamp-start i ++ v i) ∙ sym (message_printed c.stamp (sha256 c.nonce)) in
        ap (same_list (nth tag_size c.tags b)) (prepared-tag key (bytes_at x 0 stamp_size ++ g) ∙ ap (tag_of key) m)

  pub valid-history : {r : Bool} → HistoryAs d told x g r → r ≡ true → ValidAs d key told x true
  unfolding valid
  valid-history h i o is = rw (sym (history_is o is h) ∙ i)

  pub valid-tag : {r c : Bool} → HistoryAs d told x g r → r ≡ false → {prepared : Prepared} → prepared ≡ prepared_of key
      → c ≡ tag_checks prepared told x g → ValidAs d key told x c
  unfolding valid
  valid-tag h i k j o is = rw (sym (history_is o is h) ∙ i) (j ∙ ap (λ (z : Prepared). tag_checks z told x g) k ∙ tag_is o is)
