-- A part of the work area is lent and comes back: the whole then has the new bytes at the part's place. So a client's step on its slot is a put
-- there. The list is what stands before the part, the part, and what stands after it. Assumes nothing.
use mathlib.Core.Path.{◌≡◌, refl, ap, sym, ◌∙◌, subst}
use mathlib.Core.List.{List, ◌++◌, append_assoc}
use Prim.Native.Nat.{ℕ, ◌+◌, ◌≤◌}
use native.Mathlib.Omega.{arith}
use lib.ListN.{length, take, drop, length-drop, take-append-drop}
use lib.Seq.{length-take-le, drop-drop, drop-append-le}
use borrow.Author.Tests.{eq-eqb}
use Rattle.std.specs.Prelude.{Ok, Err}
use Rattle.cluster.specs.Ranges.{top_client, most_servers}
use Rattle.cluster.specs.declared.Refusal.{Refusal}
use Rattle.protocol.specs.declared.Call.{Call}
use Rattle.protocol.specs.View.{kept_size}
use Rattle.format.specs.Reading.{bytes_at, put}
use Rattle.protocol.specs.ClientBytes.{Begun, GaveUp, begin_write_def, begin_read_def, give_up_def}
use Rattle.wire.specs.Make.{placed}
use Rattle.wire.proofs.Put.{placed-wrote}
use Rattle.state.specs.State.{state_size, call_bytes}
use Rattle.state.proofs.Laws.{state-length}
use Rattle.client.specs.declared.begin.Stopped.{Stopped}
use Rattle.client.specs.Answers.{begun, stopped}
use Rattle.client.specs.Core.{core_write, core_read}
use Rattle.drill.specs.Listing.{work_size}
use Rattle.drill.specs.Area.{client_at_def, kept_at, call_in, kept_in, put_call_def, put_client, LeftAs, BeginsAs, StopsAs}

-- ---- a part of a list

pub lent : (w : List ℕ) (a k n : ℕ) → k ≡ n → take k (drop a w) ≡ bytes_at w a n
unfolding bytes_at
lent w a k n e = ap (λ (j : ℕ). take j (drop a w)) e

pub back : (w : List ℕ) (a k : ℕ) (ys : List ℕ) → length ys ≡ k → take a w ++ (ys ++ drop k (drop a w)) ≡ put w a ys
unfolding put
back w a k ys e = rw e (ap (λ (z : List ℕ). take a w ++ (ys ++ z)) (drop-drop k a w))

-- bytes put at the start of the part
pub back_put : (w : List ℕ) (a k : ℕ) (b : List ℕ) → length b ≤ k → a + k ≤ length w
    → take a w ++ (put (take k (drop a w)) 0 b ++ drop k (drop a w)) ≡ put w a b
unfolding put
back_put w a k b h l =
    let P : List ℕ = take k (drop a w) in
    let Q : List ℕ = drop k (drop a w) in
    let lp : length P ≡ k = length-take-le k (drop a w) (omega (arith, length-drop a w)) in
    let z : 0 + length b ≡ length b = omega arith in
    let x : drop (length b) P ++ Q ≡ drop (a + length b) w =
    sym (drop-append-le (length b) P Q (omega arith)) ∙ ap (drop (length b)) (take-append-drop k (drop a w)) ∙ drop-drop (length b) a w in
    ap (λ (y : List ℕ). take a w ++ y) (rw z (append_assoc b (drop (length b) P) Q ∙ ap (λ (y : List ℕ). b ++ y) x))

-- ---- a client's slot

module _ (w : List ℕ) (c : ℕ) (h : (1 ≤ c) × (c ≤ top_client)) (size : length w ≡ work_size) where
  pub kept-fits : kept_at c + kept_size ≤ length w
  unfolding kept_at client_at_def
  kept-fits = omega arith

  pub kept-size : length (kept_in w c) ≡ kept_size
  unfolding kept_in bytes_at
  kept-size = length-take-le kept_size (drop (kept_at c) w) (omega (arith, length-drop (kept_at c) w, kept-fits))

  pub core_write_lem : (t : ℕ) (content nonce : List ℕ) → core_write t c (call_in w c) (kept_in w c) content nonce ≡ begin_write_def t c (call_in w c) (kept_in w c)
      content nonce
  unfolding core_write
  core_write_lem t content nonce = rw (eq-eqb (length (kept_in w c)) kept_size kept-size)

  pub core_read_lem : (t : ℕ) → core_read t c (call_in w c) (kept_in w c) ≡ begin_read_def t c (call_in w c) (kept_in w c)
  unfolding core_read
  core_read_lem t = rw (eq-eqb (length (kept_in w c)) kept_size kept-size)

  -- the part of the area that holds the kept bytes is lent, and comes back
  module _ (k : ℕ) {a : ℕ} (ea : a ≡ kept_at c) (ek : k ≡ kept_size) where
    pub kept_lent : take k (drop a w) ≡ kept_in w c
    unfolding kept_in
    kept_lent = rw ea (lent w (kept_at c) k kept_size ek)

    pub write_lent : (t : ℕ) (content nonce : List ℕ) {x : Call} → x ≡ call_in w c
        → core_write t c x (take k (drop a w)) content nonce ≡ begin_write_def t c (call_in w c) (kept_in w c) content nonce
    write_lent t content nonce ex = rw (ex, kept_lent) (core_write_lem t content nonce)

    pub read_lent : (t : ℕ) {x : Call} → x ≡ call_in w c → core_read t c x (take k (drop a w)) ≡ begin_read_def t c (call_in w c) (kept_in w c)
    read_lent t ex = rw (ex, kept_lent) (core_read_lem t)

    module _ (ks : List ℕ) (l₀ : length ks ≡ length (take k (drop a w))) where
      pub kept-length : length ks ≡ kept_size
      kept-length = l₀ ∙ ap length kept_lent ∙ kept-size

      kept_back : take a w ++ (ks ++ drop k (drop a w)) ≡ put w (kept_at c) ks
      kept_back = rw ea (back w (kept_at c) k ks (kept-length ∙ sym ek))

      -- after a step that is accepted, with the small state put, and after one that is refused
      pub left_ok : {A : Type 0} (u : A) (x : Call) {out : List ℕ} → out ≡ put_call_def (take a w ++ (ks ++ drop k (drop a w))) c x
          → length x.tally.marks ≡ most_servers → LeftAs (Ok u) w c out x ks
      unfolding put_client
      left_ok u x eo m = (eo ∙ ap (λ (z : List ℕ). put_call_def z c x) kept_back, m)

      pub left_err : (A : Type 0) (why : Refusal) (x : Call) → x ≡ call_in w c
          → LeftAs {A = A} (Err why) w c (take a w ++ (ks ++ drop k (drop a w))) x ks
      left_err A why x ex = (kept_back, ex)

      -- a beginning
      pub begins_ok : (b : Begun) (x d : Call) {out : List ℕ} → begun x (Ok d) ks ≡ b → out ≡ put_call_def (take a w ++ (ks ++ drop k (drop a w))) c d
          → length d.tally.marks ≡ most_servers → BeginsAs b w c out (Ok tt)
      begins_ok b x d {out} e eo m =
          subst (λ (z : Begun). BeginsAs z w c out (Ok tt)) e (record { result = refl; area = left_ok (tt {0}) d eo m; size = kept-length })

      pub begins_err : (b : Begun) (x : Call) (why : Refusal) → begun x (Err why) ks ≡ b → x ≡ call_in w c
          → BeginsAs b w c (take a w ++ (ks ++ drop k (drop a w))) (Err why)
      begins_err b x why e ex =
          subst (λ (z : Begun). BeginsAs z w c (take a w ++ (ks ++ drop k (drop a w))) (Err why)) e (record
          { result = refl; area = left_err (Unit {0}) why x ex; size = kept-length })

  pub call_fits : client_at_def c + 64 ≤ length w
  unfolding client_at_def
  call_fits = omega arith

  -- the small state put at the start of the slot lent
  pub put_as : (call : Call) (k : ℕ) {a : ℕ} {ys : List ℕ} → a ≡ client_at_def c → k ≡ 64 → length call.tally.marks ≡ most_servers
      → ys ≡ (placed (take k (drop a w)) 0 (call_bytes call)).output → take a w ++ (ys ++ drop k (drop a w)) ≡ put_call_def w c call
  unfolding put_call_def
  put_as call k {a} {ys} ea ek m e =
      let lb : length (call_bytes call) ≡ state_size = state-length call m in
      let lp : length (take k (drop a w)) ≡ k = length-take-le k (drop a w) (omega (arith, length-drop a w, call_fits)) in
      let p : (placed (take k (drop a w)) 0 (call_bytes call)).output ≡ put (take k (drop a w)) 0 (call_bytes call) =
      (placed-wrote {d = take k (drop a w)} {e = (placed (take k (drop a w)) 0 (call_bytes call)).output} {at = 0}
      {n = (placed (take k (drop a w)) 0 (call_bytes call)).next} {b = call_bytes call} refl (omega arith)).bytes in
      ap (λ (z : List ℕ). take a w ++ (z ++ drop k (drop a w))) (e ∙ p) ∙ back_put w a k (call_bytes call) (omega arith) (omega (arith, call_fits)) ∙
      ap (λ (z : ℕ). put w z (call_bytes call)) ea

pub kept-place : (c : ℕ) {a : ℕ} → a ≡ client_at_def c → a + 64 ≡ kept_at c
unfolding kept_at
kept-place c e = ap (λ (z : ℕ). z + 64) e

-- ---- giving up

module _ (w : List ℕ) (c t : ℕ) (x : Call) (ex : x ≡ call_in w c) where
  pub stops_ok : (s : Stopped) {out : List ℕ} → stopped x (Ok s) ≡ give_up_def t c x → out ≡ put_call_def w c s.call
      → length s.call.tally.marks ≡ most_servers → StopsAs (give_up_def t c (call_in w c)) w c out (Ok s.answer)
  stops_ok s {out} e eo m =
      subst (λ (z : GaveUp). StopsAs z w c out (Ok s.answer)) (e ∙ ap (give_up_def t c) ex) (record { result = refl; area = (eo, m) })

  pub stops_err : (why : Refusal) → stopped x (Err why) ≡ give_up_def t c x → StopsAs (give_up_def t c (call_in w c)) w c w (Err why)
  stops_err why e =
      subst (λ (z : GaveUp). StopsAs z w c w (Err why)) (e ∙ ap (give_up_def t c) ex) (record { result = refl; area = (refl, ex) })
