-- A visit in the work area: the packet made of the client's slot, the server's step on its memory and the client's on its slot, one after the other.
-- Each is the definition's step, since the area holds what the parties hold. Assumes nothing.
use mathlib.Core.Path.{◌≡◌, refl, ap, sym, ◌∙◌, subst}
use mathlib.Core.Bool.{true}
use mathlib.Core.List.{List, []}
use Prim.Native.Nat.{ℕ, zero, suc, ◌+◌, ◌≤◌, ◌<◌}
use native.Mathlib.Omega.{arith}
use native.Mathlib.Numerals.{add-one}
use lib.ListN.{length, take, get_or, replicate, length-map}
use Rattle.std.proofs.lemmas.List.{ext_get_or}
use Rattle.cluster.specs.Config.{up_to, shelf}
use Rattle.cluster.specs.Ranges.{within, top_client, most_servers, key_size, packet_room, content_room, top_faults}
use Rattle.std.specs.Prelude.{Result, Ok, Err}
use Rattle.std.specs.Result.{result_unwrap_or}
use Rattle.cluster.specs.Refusals.{outcome_told}
use Rattle.cluster.specs.declared.Outcome.{Outcome}
use Rattle.cluster.specs.declared.Refusal.{Refusal}
use Rattle.cluster.proofs.Legal.{up_to-length, up_to_at}
use Rattle.cluster.proofs.Tests.{within_in}
use Rattle.erasure.proofs.Lists.{get_d_map}
use Rattle.protocol.specs.declared.Taken.{Taken}
use Rattle.protocol.specs.Primitives.{real}
use Rattle.format.specs.Reading.{bytes_at}
use Rattle.protocol.specs.ServerBytes.{Served, server_take}
use Rattle.protocol.specs.ClientBytes.{Filled, Took, key_of, client_make, client_take}
use Rattle.protocol.specs.Answers.{taken_told}
use Rattle.runs.specs.Runs.{Shelf, Machines, Done, make, serve, take-reply, result_by, do_bytes, set_machine}
use Rattle.client.proofs.StampBytes.{key_at}
use Rattle.drill.specs.declared.shown.Shown.{Shown}
use Rattle.drill.specs.Steps.{drill_shelf, lent_to, visited, shown}
use Rattle.drill.specs.Area.{call_in, kept_in, memory_in, Stands, take_in_def, ServesAs, TakesAs}
use Rattle.drill.specs.Moves.{DoneIn}
use Rattle.drill.proofs.Standing.{left_stands}
use Rattle.drill.proofs.Memories.{server_put, few-servers}

-- ---- server b's key is bytes of b

pub key_of_lem : (t b : ℕ) → (1 ≤ b) × (b ≤ most_servers) → key_of (drill_shelf t).keys b ≡ replicate key_size b
unfolding drill_shelf
key_of_lem t zero h = absurd (omega arith)
key_of_lem t (suc i) h =
    key_at _ i ∙ get_d_map (replicate key_size) (up_to most_servers) i 0 [] (omega (arith, up_to-length most_servers))
    ∙ ap (replicate key_size) (up_to_at most_servers i (omega arith) ∙ add-one i)

-- the keys, place by place
pub keys_are : (t : ℕ) (ks : List (List ℕ)) → length ks ≡ most_servers → ((i : ℕ) → i < most_servers → get_or ks i [] ≡ replicate key_size (i + 1))
    → ks ≡ (drill_shelf t).keys
unfolding drill_shelf
keys_are t ks l h =
    ext_get_or [] ks _ (l ∙ sym (simp (length-map, up_to-length)))
    (λ i k. h i (omega arith) ∙ sym (get_d_map (replicate key_size) (up_to most_servers) i 0 [] (omega (arith, up_to-length most_servers))
    ∙ ap (replicate key_size) (up_to_at most_servers i (omega arith))))

pub inside : (lo hi x : ℕ) → (lo ≤ x) × (x ≤ hi) → within lo hi x ≡ true
inside lo hi x h = within_in lo hi x h.0 h.1

-- ---- the visit

make-stays : (s : Shelf) (m : Machines) (c b : ℕ) (o : List ℕ) → (do_bytes real s m (make c b o)).machines ≡ m
unfolding do_bytes
make-stays s m c b o = refl

part_take : (d : List ℕ) (n : ℕ) → bytes_at d 0 n ≡ take n d
unfolding bytes_at
part_take d n = refl

-- what a refused step sends has no bytes
pub counted : (told : Result ℕ Refusal) → result_unwrap_or told 0 ≡ (outcome_told told).count
counted (Ok n) = refl
counted (Err why) = refl

module _ (t c b : ℕ) (w : List ℕ) (ht : t ≤ top_faults) (hc : (1 ≤ c) × (c ≤ top_client)) (hb : (1 ≤ b) × (b ≤ (shelf t).servers)) where
  module _ (m : Machines) (st : Stands t w m) where
    own : within 1 top_client c ≡ true
    own = inside 1 top_client c hc

    same-made : client_make t c b (call_in w c) (kept_in w c) (replicate packet_room 0) ≡ client_make t c b (m.client c).call (m.client c).kept
        (replicate packet_room 0)
    same-made = rw (st.calls c own, st.kept c own)

    pub made-sent : {r : Outcome} {p : List ℕ} → record { result = r; output = p } ≡ client_make t c b (call_in w c) (kept_in w c)
        (replicate packet_room 0)
        → bytes_at p 0 r.count ≡ (do_bytes real (drill_shelf t) m (make c b (replicate packet_room 0))).sent
    unfolding do_bytes bytes_at drill_shelf
    made-sent {r} {p} e = part_take p r.count ∙ ap (λ (z : Filled). take z.result.count z.output) (e ∙ same-made)

    module _ {q : List ℕ} {r : Outcome} {w₁ : List ℕ} (sent : List ℕ)
        (e : ServesAs (server_take real (memory_in w b) (replicate key_size b) sent (replicate packet_room 0)) w b w₁ q r) where
      served : Served
      served = server_take real (m.memory b) (key_of (drill_shelf t).keys b) sent (replicate packet_room 0)

      same-served : server_take real (memory_in w b) (replicate key_size b) sent (replicate packet_room 0) ≡ served
      unfolding served
      same-served = rw (st.memory b (inside 1 (shelf t).servers b hb), key_of_lem t b (few-servers t b ht hb))

      pub serve-stands : Stands t w₁ (do_bytes real (drill_shelf t) m (serve b sent (replicate packet_room 0))).machines
      unfolding do_bytes served
      serve-stands =
          let f : ServesAs served w b w₁ q r = subst (λ (z : Served). ServesAs z w b w₁ q r) same-served e in
          rw f.area (server_put t w m ht st b (inside 1 (shelf t).servers b hb) served.memory f.size)

      pub serve-sent : bytes_at q 0 r.count ≡ (do_bytes real (drill_shelf t) m (serve b sent (replicate packet_room 0))).sent
      unfolding do_bytes served
      serve-sent =
          let f : ServesAs served w b w₁ q r = subst (λ (z : Served). ServesAs z w b w₁ q r) same-served e in
          part_take q r.count ∙ rw (f.result, f.written)

    module _ {o : List ℕ} {w₁ : List ℕ} {a : Result Taken Refusal} (reply : List ℕ)
        (e : TakesAs (take_in_def t w c reply (replicate content_room 0)) w c w₁ o a) where
      took : Took
      took =
          let l = lent_to (drill_shelf t) c in
          client_take real t c l.writers l.keys (m.client c).call (m.client c).kept reply (replicate content_room 0)

      same-took : take_in_def t w c reply (replicate content_room 0) ≡ took
      unfolding took
      same-took = rw (st.calls c own, st.kept c own)

      pub take-stands : Stands t w₁ (do_bytes real (drill_shelf t) m (take-reply c (lent_to (drill_shelf t) c) reply (replicate content_room 0))).machines
      unfolding do_bytes set_machine took drill_shelf
      take-stands =
          let f : TakesAs took w c w₁ o a = subst (λ (z : Took). TakesAs z w c w₁ o a) same-took e in
          left_stands t w m ht st c hc took.call a took.kept f.area f.size

      pub take-shows : result_by (taken_told a) o
          ≡ (do_bytes real (drill_shelf t) m (take-reply c (lent_to (drill_shelf t) c) reply (replicate content_room 0))).result
      unfolding do_bytes set_machine took drill_shelf
      take-shows =
          let f : TakesAs took w c w₁ o a = subst (λ (z : Took). TakesAs z w c w₁ o a) same-took e in
          rw (f.result, f.written)

module _ (t c b : ℕ) (w : List ℕ) (ht : t ≤ top_faults) (hc : (1 ≤ c) × (c ≤ top_client)) (hb : (1 ≤ b) × (b ≤ (shelf t).servers)) where
  visit_goes : {r₁ r₂ : Outcome} {p q o w₁ w₂ p' q' : List ℕ} {a : Result Taken Refusal} → record { result = r₁; output = p } ≡ client_make t c b (call_in w c)
      (kept_in w c) (replicate packet_room 0)
      → p' ≡ bytes_at p 0 r₁.count
      → ServesAs (server_take real (memory_in w b) (replicate key_size b) p' (replicate packet_room 0)) w b w₁ q r₂
      → q' ≡ bytes_at q 0 r₂.count
      → TakesAs (take_in_def t w₁ c q' (replicate content_room 0)) w₁ c w₂ o a
      → (m : Machines) → Stands t w m → (Stands t w₂ (visited (drill_shelf t) m c b).machines)
      × (result_by (taken_told a) o ≡ (visited (drill_shelf t) m c b).result)
  unfolding visited
  visit_goes {r₁} {r₂} {p} {q} {o} {w₁} {w₂} {p'} {q'} {a} e₁ ep e₂ eq e₃ m st =
      let s = drill_shelf t in
      let d₁ : Done = do_bytes real s m (make c b (replicate packet_room 0)) in
      let s₁ : p' ≡ d₁.sent = ep ∙ made-sent t c b w ht hc hb m st e₁ in
      let f₂ : ServesAs (server_take real (memory_in w b) (replicate key_size b) d₁.sent (replicate packet_room 0)) w b w₁ q r₂ =
      subst (λ (z : List ℕ). ServesAs (server_take real (memory_in w b) (replicate key_size b) z (replicate packet_room 0)) w b w₁ q r₂) s₁ e₂ in
      let d₂ : Done = do_bytes real s m (serve b d₁.sent (replicate packet_room 0)) in
      let st₂ : Stands t w₁ d₂.machines = serve-stands t c b w ht hc hb m st d₁.sent f₂ in
      let s₂ : q' ≡ d₂.sent = eq ∙ serve-sent t c b w ht hc hb m st d₁.sent f₂ in
      let f₃ : TakesAs (take_in_def t w₁ c d₂.sent (replicate content_room 0)) w₁ c w₂ o a =
      subst (λ (z : List ℕ). TakesAs (take_in_def t w₁ c z (replicate content_room 0)) w₁ c w₂ o a) s₂ e₃ in
      let k : d₁.machines ≡ m = make-stays s m c b (replicate packet_room 0) in
      rw k (take-stands t c b w₁ ht hc hb d₂.machines st₂ d₂.sent f₃, take-shows t c b w₁ ht hc hb d₂.machines st₂ d₂.sent f₃)

  pub visit-done : {r₁ r₂ : Outcome} {p q o w₁ w₂ p' q' : List ℕ} {a : Result Taken Refusal} {x : Shown}
      → record { result = r₁; output = p } ≡ client_make t c b (call_in w c) (kept_in w c) (replicate packet_room 0)
      → p' ≡ bytes_at p 0 r₁.count
      → ServesAs (server_take real (memory_in w b) (replicate key_size b) p' (replicate packet_room 0)) w b w₁ q r₂
      → q' ≡ bytes_at q 0 r₂.count
      → TakesAs (take_in_def t w₁ c q' (replicate content_room 0)) w₁ c w₂ o a
      → x ≡ shown (result_by (taken_told a) o) → DoneIn t (λ m. visited (drill_shelf t) m c b) w w₂ x
  visit-done e₁ ep e₂ eq e₃ ex =
      record { stands = λ m st. (visit_goes e₁ ep e₂ eq e₃ m st).0; shows = λ m st. ex ∙ ap shown (visit_goes e₁ ep e₂ eq e₃ m st).1 }
