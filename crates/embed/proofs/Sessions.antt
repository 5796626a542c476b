-- A client's state in one run of bytes: lending its kept bytes and putting its call back gives the state with the new call and the new kept bytes.
-- The kept bytes are the whole rest of the run, so that the core's test of their length holds. A call that is read and put back has the bytes that it
-- had, so that a refused step leaves its call where it is. Assumes nothing.
use mathlib.Core.Path.{◌≡◌, refl, sym, ap, ◌∙◌}
use mathlib.Core.List.{List, [], ◌∷◌, ◌++◌, append-nil, append_assoc}
use Prim.Native.Nat.{ℕ, ◌+◌, ◌-◌, ◌≤◌}
use native.Mathlib.Omega.{arith}
use borrow.Rule.Slice.PartMut.{put_mid, mid_of, same_len_mid}
use borrow.Author.Tests.{eq-eqb, le-leb}
use lib.ListN.{length, get_or, take, drop, length-drop, drop_of_length-le, take-append-drop}
use lib.Seq.{take_all, take-add, length-take-le, drop_at, drop-drop, get_or-drop}
use Rattle.std.proofs.Common.{Ok, Err}
use Rattle.cluster.specs.Ranges.{key_size, most_servers}
use Rattle.cluster.specs.declared.Refusal.{Refusal}
use Rattle.cluster.specs.Refusals.{refusal_number}
use Rattle.protocol.specs.declared.Call.{Call}
use Rattle.protocol.specs.Values.{nonce_size}
use Rattle.protocol.specs.Primitives.{real}
use Rattle.protocol.specs.View.{kept_size}
use Rattle.format.specs.Format.{Bytes, print2, print4, value2}
use Rattle.format.specs.Reading.{bytes_at, number4_at, put}
use Rattle.format.proofs.Answers.{bytes_drop}
use Rattle.format.proofs.Formats.{print2-value, print4-value}
use Rattle.protocol.specs.ClientBytes.{Begun, begin_write_def, begin_read_def, give_up_def, client_make, client_take}
use Rattle.wire.specs.Make.{placed}
use Rattle.wire.specs.Places.{padded}
use Rattle.wire.proofs.Runs.{padded-whole}
use Rattle.state.specs.State.{kept_place, state_size, numbers, call_at, call_bytes, length_at, tally_at_def, marks_at_def}
use Rattle.state.proofs.Laws.{state-length}
use Rattle.client.specs.Core.{core_write, core_read, core_make, core_take}
use Rattle.client.specs.declared.begin.Stopped.{Stopped}
use Rattle.client.specs.declared.answers.Answered.{Answered}
use Rattle.client.specs.Answers.{begun, stopped, answered}
use Rattle.protocol.specs.Answers.{taken_answer, aborted_answer}
use Rattle.embed.specs.Packing.{packed, packed_told, packed_answer, only_count}
use Rattle.embed.specs.declared.pack.Told.{Told}
use Rattle.embed.specs.Clients.{client_size, kept_of_def, state_with, sized, sized_with, begun_in, stopped_in, write_in_def, read_in_def, give_up_in_def, Posted, made_out, make_in_def, keys_size, keys_in, sized_for, took_in, take_in_def}
use Rattle.embed.proofs.Unpacked.{packed-refused}

-- ---- a call that is read has its bytes

four : (d : List ℕ) → 4 ≤ length d → Bytes d → print4 (number4_at d) ≡ take 4 d
four [] h bs = absurd (omega arith)
four (a ∷ []) h bs = absurd (omega arith)
four (a ∷ b ∷ []) h bs = absurd (omega arith)
four (a ∷ b ∷ e ∷ []) h bs = absurd (omega arith)
four (a ∷ b ∷ e ∷ f ∷ d) h bs = print4-value a b e f (bs 1) (bs 2) (bs 3)

two : (d : List ℕ) → 2 ≤ length d → Bytes d → print2 (value2 (get_or d 0 0) (get_or d 1 0)) ≡ take 2 d
two [] h bs = absurd (omega arith)
two (a ∷ []) h bs = absurd (omega arith)
two (a ∷ b ∷ d) h bs = print2-value a b (bs 1)

pair : (d : List ℕ) → 2 ≤ length d → get_or d 0 0 ∷ get_or d 1 0 ∷ [] ≡ take 2 d
pair [] h = absurd (omega arith)
pair (a ∷ []) h = absurd (omega arith)
pair (a ∷ b ∷ d) h = refl

parts : (d : List ℕ) → take state_size d
    ≡ (take 4 d ++ (take 4 (drop 4 d) ++ (take 4 (drop 8 d) ++ (take 2 (drop 12 d) ++ take 2 (drop 14 d))))) ++ take 13 (drop 16 d)
parts d =
    take-add 16 13 d
    ∙ ap (λ (z : List ℕ). z ++ take 13 (drop 16 d))
    (take-add 4 12 d
    ∙ ap (λ (z : List ℕ). take 4 d ++ z)
    (take-add 4 8 (drop 4 d)
    ∙ ap (λ (z : List ℕ). take 4 (drop 4 d) ++ take 8 z) (drop-drop 4 4 d)
    ∙ ap (λ (z : List ℕ). take 4 (drop 4 d) ++ z)
    (take-add 4 4 (drop 8 d)
    ∙ ap (λ (z : List ℕ). take 4 (drop 8 d) ++ take 4 z) (drop-drop 4 8 d)
    ∙ ap (λ (z : List ℕ). take 4 (drop 8 d) ++ z)
    (take-add 2 2 (drop 12 d) ∙ ap (λ (z : List ℕ). take 2 (drop 12 d) ++ take 2 z) (drop-drop 2 12 d)))))

call_kept : (d : List ℕ) → Bytes d → state_size ≤ length d → call_bytes (call_at d) ≡ take state_size d
unfolding call_bytes numbers call_at length_at tally_at_def marks_at_def
call_kept d bs h =
    let n : print4 (number4_at d) ≡ take 4 d = four d (omega arith) bs in
    let l : print4 (number4_at (drop 4 d)) ≡ take 4 (drop 4 d) = four (drop 4 d) (omega (arith, length-drop 4 d)) (bytes_drop 4 d bs) in
    let g : print4 (number4_at (drop 8 d)) ≡ take 4 (drop 8 d) = four (drop 8 d) (omega (arith, length-drop 8 d)) (bytes_drop 8 d bs) in
    let z : print2 (value2 (get_or d 12 0) (get_or d 13 0)) ≡ take 2 (drop 12 d) =
    sym (λ i. print2 (value2 (get_or-drop 12 d 0 0 i) (get_or-drop 12 d 1 0 i)))
    ∙ two (drop 12 d) (omega (arith, length-drop 12 d)) (bytes_drop 12 d bs) in
    let r : get_or d 14 0 ∷ get_or d 15 0 ∷ [] ≡ take 2 (drop 14 d) =
    sym (λ i. get_or-drop 14 d 0 0 i ∷ get_or-drop 14 d 1 0 i ∷ []) ∙ pair (drop 14 d) (omega (arith, length-drop 14 d)) in
    let m : padded most_servers (drop 16 d) ≡ take 13 (drop 16 d) = padded-whole most_servers (drop 16 d) (omega (arith, length-drop 16 d)) in
    (λ i. (n i ++ (l i ++ (g i ++ (z i ++ r i)))) ++ m i) ∙ sym (parts d)

-- ---- lending the kept bytes

module _ (d : List ℕ) (size : length d ≡ client_size) where
  -- what is lent is the kept bytes
  lent : mid_of kept_place (length d - kept_place) d ≡ kept_of_def d
  unfolding kept_of_def
  lent = take_all (length d - kept_place) (drop kept_place d) (omega (arith, length-drop kept_place d))

  kept-size : length (kept_of_def d) ≡ kept_size
  unfolding kept_of_def
  kept-size = length-drop kept_place d ∙ omega arith

  -- the run with other kept bytes: the small state, the bytes up to the kept ones, and those
  whole : (k : List ℕ) → put_mid kept_place (length d - kept_place) d k ≡ take state_size d ++ (bytes_at d state_size (kept_place - state_size) ++ k)
  unfolding bytes_at
  whole k =
      let nothing : drop (length d - kept_place) (drop kept_place d) ≡ [] = drop_of_length-le (drop kept_place d) {i = length d - kept_place}
      (omega (arith, length-drop kept_place d)) in
      ap (λ (z : List ℕ). take kept_place d ++ (k ++ z)) nothing ∙ ap (λ (z : List ℕ). take kept_place d ++ z) (append-nil k)
      ∙ ap (λ (z : List ℕ). z ++ k) (take-add state_size (kept_place - state_size) d)
      ∙ append_assoc (take state_size d) (take (kept_place - state_size) (drop state_size d)) k

  put_back : (k : List ℕ) (c : Call) → call_bytes c ++ drop state_size (put_mid kept_place (length d - kept_place) d k) ≡ state_with d c k
  unfolding state_with
  put_back k c =
      let front : length (take state_size d) ≡ state_size = length-take-le state_size d (omega (arith, size)) in
      rw (whole k) (ap (λ (z : List ℕ). call_bytes c ++ z) (drop_at (take state_size d) (bytes_at d state_size (kept_place - state_size) ++ k) state_size
      front))

  -- the small state at the start: there is room for it
  put_first : (c : Call) → length c.tally.marks ≡ most_servers → (placed d 0 (call_bytes c)).output ≡ call_bytes c ++ drop state_size d
  unfolding placed put
  put_first c m =
      let n : length (call_bytes c) ≡ state_size = state-length c m in
      let z : 0 + length (call_bytes c) ≡ state_size = omega (arith, n) in
      rw (le-leb (0 + length (call_bytes c)) (length d) (omega (arith, n, size))) (ap (λ (j : ℕ). call_bytes c ++ drop j d) z)

-- the kept bytes are the rest of the run
stays : (d : List ℕ) (c : Call) → call_bytes c ++ drop state_size d ≡ state_with d c (kept_of_def d)
unfolding state_with bytes_at kept_of_def
stays d c =
    let rest : List ℕ = drop state_size d in
    ap (λ (z : List ℕ). call_bytes c ++ z) (sym (take-append-drop (kept_place - state_size) rest) ∙ ap
    (λ (z : List ℕ). take (kept_place - state_size) rest ++ z) (drop-drop (kept_place - state_size) state_size d))

module _ (d : List ℕ) (size : length d ≡ client_size) (c : Call) (is : c ≡ call_at d) where
  abbrev part : List ℕ
  part = mid_of kept_place (length d - kept_place) d

  abbrev run : List ℕ → List ℕ
  run k = put_mid kept_place (length d - kept_place) d k

  -- the run as a refused step leaves it, and with another call
  left : (k : List ℕ) → Bytes d → run k ≡ state_with d c k
  unfolding state_with
  left k bs = whole d size k ∙ rw (is, call_kept d bs (omega (arith, size))) refl

  put-call : (k : List ℕ) (x : Call) → length k ≡ length part → length x.tally.marks ≡ most_servers → (placed (run k) 0 (call_bytes x)).output ≡ state_with d x k
  put-call k x long marks = put_first (run k) (same_len_mid kept_place (length d - kept_place) d k long ∙ size) x marks ∙ put_back d size k x

  -- ---- beginning a call

  core_write_lem : (t client : ℕ) (content nonce : List ℕ) → core_write t client c part content nonce ≡ begin_write_def t client (call_at d) (kept_of_def d) content nonce
  unfolding core_write
  core_write_lem t client content nonce = rw (is, lent d size) (rw (eq-eqb (length (kept_of_def d)) kept_size (kept-size d size)))

  core_read_lem : (t client : ℕ) → core_read t client c part ≡ begin_read_def t client (call_at d) (kept_of_def d)
  unfolding core_read
  core_read_lem t client = rw (is, lent d size) (rw (eq-eqb (length (kept_of_def d)) kept_size (kept-size d size)))

  began : {b : Begun} (x : Call) {k : List ℕ} {r : Told} {after : List ℕ} → begun c (Ok x) k ≡ b → length k ≡ length part → length x.tally.marks ≡ most_servers
      → after ≡ (placed (run k) 0 (call_bytes x)).output → r ≡ only_count 0 → record { answer = packed_told (Ok r); state = after } ≡ begun_in d b
  unfolding begun_in
  began x {k} e long marks p q = rw (← e, p, q, put-call k x long marks) refl

  not-begun : {b : Begun} (why : Refusal) {k : List ℕ} → begun c (Err why) k ≡ b → Bytes d
      → record { answer = packed (refusal_number why) 0 0 0; state = run k } ≡ begun_in d b
  unfolding begun_in
  not-begun why {k} e bs = rw (← e, left k bs) refl

  pub write-began : (t client : ℕ) (content nonce : List ℕ) (x : Call) {k : List ℕ} {r : Told} {after : List ℕ}
      → begun c (Ok x) k ≡ core_write t client c part content nonce → length k ≡ length part → length x.tally.marks ≡ most_servers
      → after ≡ (placed (run k) 0 (call_bytes x)).output → r ≡ only_count 0 → length nonce ≡ nonce_size
      → record { answer = packed_told (Ok r); state = after } ≡ write_in_def d t client content nonce
  unfolding write_in_def sized_with
  write-began t client content nonce x e long marks p q n =
      rw (eq-eqb (length d) client_size size, eq-eqb (length nonce) nonce_size n) (began x (e ∙ core_write_lem t client content nonce) long marks p q)

  pub write-refused : (t client : ℕ) (content nonce : List ℕ) (why : Refusal) {k : List ℕ}
      → begun c (Err why) k ≡ core_write t client c part content nonce → Bytes d → length nonce ≡ nonce_size
      → record { answer = packed (refusal_number why) 0 0 0; state = run k } ≡ write_in_def d t client content nonce
  unfolding write_in_def sized_with
  write-refused t client content nonce why e bs n =
      rw (eq-eqb (length d) client_size size, eq-eqb (length nonce) nonce_size n) (not-begun why (e ∙ core_write_lem t client content nonce) bs)

  pub read-began : (t client : ℕ) (x : Call) {k : List ℕ} {r : Told} {after : List ℕ} → begun c (Ok x) k ≡ core_read t client c part → length k ≡ length part
      → length x.tally.marks ≡ most_servers → after ≡ (placed (run k) 0 (call_bytes x)).output → r ≡ only_count 0
      → record { answer = packed_told (Ok r); state = after } ≡ read_in_def d t client
  unfolding read_in_def sized
  read-began t client x e long marks p q = rw (eq-eqb (length d) client_size size) (began x (e ∙ core_read_lem t client) long marks p q)

  pub read-refused : (t client : ℕ) (why : Refusal) {k : List ℕ} → begun c (Err why) k ≡ core_read t client c part → Bytes d
      → record { answer = packed (refusal_number why) 0 0 0; state = run k } ≡ read_in_def d t client
  unfolding read_in_def sized
  read-refused t client why e bs = rw (eq-eqb (length d) client_size size) (not-begun why (e ∙ core_read_lem t client) bs)

  -- ---- giving up leaves the kept bytes where they are

  pub gave-up : (t client : ℕ) (s : Stopped) (r : Told) {after : List ℕ} → stopped c (Ok s) ≡ give_up_def t client c → length s.call.tally.marks ≡ most_servers
      → after ≡ (placed d 0 (call_bytes s.call)).output → packed_told (Ok r) ≡ packed_answer (aborted_answer s.answer)
      → record { answer = packed_told (Ok r); state = after } ≡ give_up_in_def d t client
  unfolding give_up_in_def sized stopped_in
  gave-up t client s r e marks p q =
      rw (eq-eqb (length d) client_size size, ← is, ← e, p, q, put_first d size s.call marks, stays d s.call) refl

  pub give-up-refused : (t client : ℕ) (why : Refusal) → stopped c (Err why) ≡ give_up_def t client c → Bytes d
      → record { answer = packed (refusal_number why) 0 0 0; state = d } ≡ give_up_in_def d t client
  unfolding give_up_in_def sized stopped_in
  give-up-refused t client why e bs =
      let same : state_with d c (kept_of_def d) ≡ d =
      sym (stays d c) ∙ ap (λ (z : List ℕ). z ++ drop state_size d) (ap call_bytes is ∙ call_kept d bs (omega (arith, size))) ∙ take-append-drop state_size d in
      rw (eq-eqb (length d) client_size size, ← is, ← e, packed-refused (refusal_number why), same) refl

  -- ---- making a packet

  pub core-made : (t client b : ℕ) (o : List ℕ) → core_make t client b c part o ≡ client_make t client b (call_at d) (kept_of_def d) o
  unfolding core_make
  core-made t client b o = rw (is, lent d size) (rw (eq-eqb (length (kept_of_def d)) kept_size (kept-size d size)) refl)

  pub make-done : (t client b : ℕ) (out : List ℕ) {x : Posted} → x ≡ made_out (client_make t client b (call_at d) (kept_of_def d) out)
      → x ≡ make_in_def d t client b out
  unfolding make_in_def sized
  make-done t client b out e = rw (eq-eqb (length d) client_size size) e

  -- ---- taking a packet

  core_take_lem : (t client : ℕ) (writers : List ℕ) (keys : List (List ℕ)) (packet out : List ℕ)
      → core_take t client writers keys c part packet out ≡ client_take real t client writers keys (call_at d) (kept_of_def d) packet out
  unfolding core_take
  core_take_lem t client writers keys packet out = rw (is, lent d size) (rw (eq-eqb (length (kept_of_def d)) kept_size (kept-size d size)))

  pub took : (t client : ℕ) (writers keys packet out : List ℕ) (a : Answered) {k o : List ℕ} (r : Told) {after : List ℕ}
      → answered c (Ok a) k o ≡ core_take t client writers (keys_in keys) c part packet out
      → length k ≡ length part → length a.call.tally.marks ≡ most_servers → after ≡ (placed (run k) 0 (call_bytes a.call)).output
      → packed_told (Ok r) ≡ packed_answer (taken_answer a.answer) → length writers ≡ key_size → length keys ≡ keys_size
      → record { answer = packed_told (Ok r); state = after; output = o } ≡ take_in_def d t client writers keys packet out
  unfolding take_in_def sized_for took_in
  took t client writers keys packet out a {k} r e long marks p q w n =
      rw (
        eq-eqb (length d) client_size size,
        eq-eqb (length writers) key_size w,
        eq-eqb (length keys) keys_size n,
        ← (e ∙ core_take_lem t client writers (keys_in keys) packet out),
        p,
        q,
        put-call k a.call long marks,
      ) refl

  pub take-refused : (t client : ℕ) (writers keys packet out : List ℕ) (why : Refusal) {k o : List ℕ}
      → answered c (Err why) k o ≡ core_take t client writers (keys_in keys) c part packet out
      → Bytes d → length writers ≡ key_size → length keys ≡ keys_size
      → record { answer = packed (refusal_number why) 0 0 0; state = run k; output = o } ≡ take_in_def d t client writers keys packet out
  unfolding take_in_def sized_for took_in
  take-refused t client writers keys packet out why {k} e bs w n =
      rw (
        eq-eqb (length d) client_size size,
        eq-eqb (length writers) key_size w,
        eq-eqb (length keys) keys_size n,
        ← (e ∙ core_take_lem t client writers (keys_in keys) packet out),
        packed-refused (refusal_number why),
        left k bs,
      ) refl
