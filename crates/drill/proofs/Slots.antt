-- A server's step on its memory and a client's taking and making on its slot, each in the part of the work area lent to it.
-- The part that comes back is put at its place. Assumes nothing.
use mathlib.Core.Path.{◌≡◌, refl, ap, sym, ◌∙◌, subst}
use mathlib.Core.List.{List, ◌++◌}
use Prim.Native.Nat.{ℕ, ◌+◌, ◌≤◌}
use native.Mathlib.Omega.{arith}
use lib.ListN.{length, take, drop, length-drop}
use lib.Seq.{length-take-le}
use borrow.Author.Tests.{eq-eqb}
use Rattle.cluster.specs.Ranges.{top_client, most_servers, memory_size}
use Rattle.cluster.specs.declared.Outcome.{Outcome}
use Rattle.protocol.specs.declared.Call.{Call}
use Rattle.protocol.specs.Primitives.{real}
use Rattle.protocol.specs.View.{kept_size}
use Rattle.format.specs.Reading.{bytes_at, put}
use Rattle.protocol.specs.ServerBytes.{Served, Blanked}
use Rattle.protocol.specs.ClientBytes.{Took, client_make, client_take}
use Rattle.std.specs.Prelude.{Ok, Err}
use Rattle.cluster.specs.declared.Refusal.{Refusal}
use Rattle.protocol.specs.declared.Taken.{Taken}
use Rattle.client.specs.declared.answers.Answered.{Answered}
use Rattle.client.specs.Answers.{answered}
use Rattle.client.specs.Core.{core_make, core_take}
use Rattle.drill.specs.Listing.{work_size}
use Rattle.drill.specs.Area.{server_at_def, kept_at, call_in, kept_in, memory_in, put_call_def, put_memory, ServesAs, BlanksAs, TakesAs}
use Rattle.drill.proofs.Lending.{lent, back, kept-size, kept_lent, kept-length, left_ok, left_err}

-- ---- a server's memory

module _ (w : List ℕ) (b : ℕ) (h : (1 ≤ b) × (b ≤ most_servers)) (size : length w ≡ work_size) where
  pub memory-fits : server_at_def b + memory_size ≤ length w
  unfolding server_at_def
  memory-fits = omega arith

  pub memory-size : length (memory_in w b) ≡ memory_size
  unfolding memory_in bytes_at
  memory-size = length-take-le memory_size (drop (server_at_def b) w) (omega (arith, length-drop (server_at_def b) w, memory-fits))

  module _ (k : ℕ) {a : ℕ} (ea : a ≡ server_at_def b) (ek : k ≡ memory_size) where
    lent-memory : take k (drop a w) ≡ memory_in w b
    unfolding memory_in
    lent-memory = rw ea (lent w (server_at_def b) k memory_size ek)

    same_memory : (ys : List ℕ) → length ys ≡ length (take k (drop a w)) → length ys ≡ memory_size
    same_memory ys l = l ∙ ap length lent-memory ∙ memory-size

    memory_back : (ys : List ℕ) → length ys ≡ length (take k (drop a w)) → take a w ++ (ys ++ drop k (drop a w)) ≡ put w (server_at_def b) ys
    memory_back ys l = rw ea (back w (server_at_def b) k ys (same_memory ys l ∙ sym ek))

    pub serves_as : (F : List ℕ → Served) {ys out : List ℕ} {r : Outcome} → length ys ≡ length (take k (drop a w))
        → record { result = r; memory = ys; output = out } ≡ F (take k (drop a w)) → ServesAs (F (memory_in w b)) w b
        (take a w ++ (ys ++ drop k (drop a w))) out r
    unfolding put_memory
    serves_as F {ys} {out} {r} l e =
        let f : record { result = r; memory = ys; output = out } ≡ F (memory_in w b) = e ∙ ap F lent-memory in
        let m : ys ≡ (F (memory_in w b)).memory = ap (λ (z : Served). z.memory) f in
        record {
          result = ap (λ (z : Served). z.result) f;
          area = memory_back ys l ∙ ap (put w (server_at_def b)) m;
          written = ap (λ (z : Served). z.output) f;
          size = sym (ap length m) ∙ same_memory ys l;
        }

    pub blanks_as : (F : List ℕ → Blanked) {ys : List ℕ} {r : Outcome} → length ys ≡ length (take k (drop a w))
        → record { result = r; memory = ys } ≡ F (take k (drop a w)) → BlanksAs (F (memory_in w b)) w b (take a w ++ (ys ++ drop k (drop a w)))
    unfolding put_memory
    blanks_as F {ys} {r} l e =
        let f : record { result = r; memory = ys } ≡ F (memory_in w b) = e ∙ ap F lent-memory in
        let m : ys ≡ (F (memory_in w b)).memory = ap (λ (z : Blanked). z.memory) f in
        record { area = memory_back ys l ∙ ap (put w (server_at_def b)) m; size = sym (ap length m) ∙ same_memory ys l }

-- ---- a client's slot

module _ (w : List ℕ) (c : ℕ) (h : (1 ≤ c) × (c ≤ top_client)) (size : length w ≡ work_size) where
  pub core_make_lem : (t b : ℕ) (x : Call) (output : List ℕ) → core_make t c b x (kept_in w c) output ≡ client_make t c b x (kept_in w c) output
  unfolding core_make
  core_make_lem t b x output = rw (eq-eqb (length (kept_in w c)) kept_size (kept-size w c h size))

  pub core_take_lem : (t : ℕ) (writers : List ℕ) (keys : List (List ℕ)) (reply output : List ℕ)
      → core_take t c writers keys (call_in w c) (kept_in w c) reply output ≡ client_take real t c writers keys (call_in w c) (kept_in w c) reply output
  unfolding core_take
  core_take_lem t writers keys reply output = rw (eq-eqb (length (kept_in w c)) kept_size (kept-size w c h size))

  module _ (k : ℕ) {a : ℕ} (ea : a ≡ kept_at c) (ek : k ≡ kept_size) where
    pub take_lent : (t : ℕ) (writers : List ℕ) (keys : List (List ℕ)) (reply output : List ℕ) {x : Call} → x ≡ call_in w c
        → core_take t c writers keys x (take k (drop a w)) reply output ≡ client_take real t c writers keys (call_in w c) (kept_in w c) reply output
    take_lent t writers keys reply output ex =
        rw (ex, kept_lent w c h size k ea ek) (core_take_lem t writers keys reply output)

    module _ (ks : List ℕ) (l₀ : length ks ≡ length (take k (drop a w))) (d : Took) (x : Call) {o : List ℕ} where
      pub takes_ok : (s : Answered) {out : List ℕ} → answered x (Ok s) ks o ≡ d → out ≡ put_call_def (take a w ++ (ks ++ drop k (drop a w))) c s.call
          → length s.call.tally.marks ≡ most_servers → TakesAs d w c out o (Ok s.answer)
      takes_ok s {out} e eo m =
          subst (λ (z : Took). TakesAs z w c out o (Ok s.answer)) e (record {
            result = refl;
            area = left_ok w c h size k ea ek ks l₀ s.answer s.call eo m;
            written = refl;
            size = kept-length w c h size k ea ek ks l₀;
          })

      pub takes_err : (why : Refusal) → answered x (Err why) ks o ≡ d → x ≡ call_in w c
          → TakesAs d w c (take a w ++ (ks ++ drop k (drop a w))) o (Err why)
      takes_err why e ex =
          subst (λ (z : Took). TakesAs z w c (take a w ++ (ks ++ drop k (drop a w))) o (Err why)) e (record {
            result = refl;
            area = left_err w c h size k ea ek ks l₀ Taken why x ex;
            written = refl;
            size = kept-length w c h size k ea ek ks l₀;
          })
