-- A run through the exported functions is a run of the theorem: at every moment the states are those of the machines, and every step gives the same
-- result and sends the same bytes. So the account by the exported functions IS the account by bytes, and what is claimed of that holds of it
-- (crate firmware: page 41). By induction over the steps. Assumes nothing.
use mathlib.Core.Path.{◌≡◌, refl, sym, ap, ◌∙◌, subst}
use mathlib.Core.Bool.{Bool, true, false, cond}
use mathlib.Core.List.{List, [], ◌∷◌}
use Prim.Native.Nat.{ℕ, ◌≤◌}
use lib.ListN.{length, replicate, length-replicate}
use borrow.Author.Tests.{eq-eqb}
use Rattle.cluster.specs.Config.{Config, shelf}
use Rattle.cluster.specs.Ranges.{within, top_faults, memory_size}
use Rattle.cluster.proofs.Tests.{within_in}
use Rattle.protocol.specs.Memory.{decode_memory, encode_memory, blank_memory}
use Rattle.protocol.specs.Primitives.{real}
use Rattle.protocol.specs.Rules.{ByServer}
use Rattle.protocol.specs.Server.{blank_server}
use Rattle.protocol.specs.ServerBytes.{blank_refusal, blank_step}
use Rattle.protocol.specs.View.{view, kept_size}
use Rattle.protocol.specs.ClientBytes.{key_of, fresh}
use Rattle.runs.specs.Runs.{Shelf, config_of, sent_of, Machines, new_call_def, do_bytes, now_bytes, StepOn, steps, Account, server_or, by_bytes_def}
use Rattle.format.proofs.Places.{drop-zeros}
use Rattle.runs.proofs.ValueRuns.{World, After, do_values, now_values, by_values}
use Rattle.protocol.proofs.Primitive.{real-lengths}
use Rattle.runs.proofs.RunLift.{AllFed, run_matches, run-agrees}
use Rattle.runs.proofs.Accounts.{accounts}
use Rattle.state.specs.State.{kept_place, call_at, tally_at_def, marks_at_def, length_at}
use Rattle.wire.specs.Places.{padded}
use Rattle.embed.specs.Clients.{client_size, kept_of_def}
use Rattle.embed.specs.Exports.{KeysSized, do_export, now_export, by_exports}
use Rattle.embed.proofs.Stands.{Stands, Same}
use Rattle.embed.proofs.Exported.{passed_step, passed-fed, passed-values, step_same}

-- ---- at first

zero-call : call_at (replicate client_size 0) ≡ new_call_def
unfolding call_at tally_at_def marks_at_def length_at padded fresh
zero-call = refl

zero-kept : kept_of_def (replicate client_size 0) ≡ replicate kept_size 0
unfolding kept_of_def
zero-kept = drop-zeros kept_place client_size

module _ (sh : Shelf) (tr : (1 ≤ sh.t) × (sh.t ≤ top_faults)) (keyed : KeysSized sh) where
  abbrev s : Config
  s = config_of sh

  abbrev keys : ByServer (List ℕ)
  keys = key_of sh.keys

  abbrev zeros : ℕ → List ℕ
  zeros c = replicate kept_size 0

  zeros-size : (c : ℕ) → length (zeros c) ≡ kept_size
  zeros-size c = length-replicate {A = ℕ} kept_size 0

  blank-made : (d : List ℕ) (b : ℕ) → length d ≡ memory_size → within 1 s.servers b ≡ true
      → (blank_step d sh.t b).memory ≡ encode_memory (blank_memory sh.t b)
  unfolding blank_step blank_refusal
  blank-made d b l h = rw (eq-eqb (length d) memory_size l, within_in 1 top_faults sh.t tr.0 tr.1, h) refl

  -- ---- a run with the keys as they are passed

  abbrev passed_on : StepOn sh → StepOn sh
  passed_on x = record { step = passed_step sh tr keyed x.step; fed = passed-fed sh tr keyed x.step x.fed }

  abbrev passed_all : List (StepOn sh) → List (StepOn sh)
  passed_all [] = []
  passed_all (x ∷ xs) = passed_on x ∷ passed_all xs

  all-fed : (l : List (StepOn sh)) → AllFed real real-lengths sh tr (steps l)
  unfolding AllFed
  all-fed [] = tt
  all-fed (x ∷ xs) = (x.fed, all-fed xs)

  abbrev machines : List (StepOn sh) → Machines
  machines xs = now_bytes real sh zeros (steps (passed_all xs))

  abbrev world : List (StepOn sh) → World
  world xs = now_values real s sh.writers keys (steps xs)

  world_same : (xs : List (StepOn sh)) → world (passed_all xs) ≡ world xs
  unfolding now_values
  world_same [] = refl
  world_same (x ∷ xs) =
      ap (λ (v : World). (do_values real s sh.writers keys v (passed_step sh tr keyed x.step)).world) (world_same xs)
      ∙ ap (λ (a : After). a.world) (passed-values sh tr keyed (world xs) x.step)

  -- ---- the states at every moment, and every step

  steps-same : (x : StepOn sh) (xs : List (StepOn sh)) → Stands sh (now_export sh (steps xs)) (machines xs)
      → Same sh (do_export sh (now_export sh (steps xs)) x.step) (do_bytes real sh (machines xs) (passed_step sh tr keyed x.step))
  steps-same x xs st =
      let y : StepOn sh = passed_on x in
      let ys : List (StepOn sh) = passed_all xs in
      step_same sh tr keyed (now_export sh (steps xs)) (machines xs) (world ys) st
      (run_matches real real-lengths sh tr zeros zeros-size (steps ys) (all-fed ys))
      x.step x.fed (run-agrees real real-lengths sh tr zeros zeros-size y.step (steps ys) y.fed (all-fed ys))

  pub now-stands : (xs : List (StepOn sh)) → Stands sh (now_export sh (steps xs)) (machines xs)
  unfolding now_export now_bytes
  now-stands [] =
      record {
        size = λ c. length-replicate {A = ℕ} client_size 0;
        call = λ c. zero-call;
        kept = λ c. zero-kept;
        memory = λ b h. blank-made (replicate memory_size 0) b (length-replicate {A = ℕ} memory_size 0) h;
      }
  now-stands (x ∷ xs) = (steps-same x xs (now-stands xs)).stands

  same : (x : StepOn sh) (xs : List (StepOn sh))
      → Same sh (do_export sh (now_export sh (steps xs)) x.step) (do_bytes real sh (machines xs) (passed_step sh tr keyed x.step))
  same x xs = steps-same x xs (now-stands xs)

  -- ---- one account

  abbrev on_bytes : Account (StepOn sh)
  on_bytes = by_bytes_def real sh zeros

  abbrev on_values_def : Account (StepOn sh)
  on_values_def = by_values real s sh.writers keys

  bytes-values : on_bytes ≡ on_values_def
  bytes-values = accounts real real-lengths sh tr zeros zeros-size

  -- the steps on values are the same whichever way the keys are passed
  done-same : (x : StepOn sh) (xs : List (StepOn sh)) → do_values real s sh.writers keys (world (passed_all xs)) (passed_step sh tr keyed x.step) ≡
      do_values real s sh.writers keys (world xs) x.step
  done-same x xs =
      ap (λ (v : World). do_values real s sh.writers keys v (passed_step sh tr keyed x.step)) (world_same xs)
      ∙ passed-values sh tr keyed (world xs) x.step

  result-same : (x : StepOn sh) (xs : List (StepOn sh)) → (by_exports sh).result x xs ≡ on_values_def.result x xs
  unfolding by_exports by_values by_bytes_def
  result-same x xs =
      (same x xs).result ∙ ap (λ (A : Account (StepOn sh)). A.result (passed_on x) (passed_all xs)) (unfold by_bytes_def by_values in bytes-values)
      ∙ ap (λ (a : After). a.result) (done-same x xs)

  sent-same : (x : StepOn sh) (xs : List (StepOn sh)) → (by_exports sh).sent x xs ≡ on_values_def.sent x xs
  unfolding by_exports by_values by_bytes_def
  sent-same x xs =
      (same x xs).sent ∙ ap (λ (A : Account (StepOn sh)). A.sent (passed_on x) (passed_all xs)) (unfold by_bytes_def by_values in bytes-values)
      ∙ ap (λ (a : After). sent_of a.sent) (done-same x xs)

  client-same : (xs : List (StepOn sh)) (c : ℕ) → (by_exports sh).client xs c ≡ on_values_def.client xs c
  unfolding by_exports by_values by_bytes_def
  client-same xs c =
      let st = now-stands xs in
      (λ i. view s (st.call c i) (st.kept c i))
      ∙ ap (λ (A : Account (StepOn sh)). A.client (passed_all xs) c) (unfold by_bytes_def by_values in bytes-values)
      ∙ ap (λ (v : World). v.client c) (world_same xs)

  server-same : (xs : List (StepOn sh)) (b : ℕ) → (by_exports sh).server xs b ≡ on_values_def.server xs b
  unfolding by_exports by_values by_bytes_def
  server-same xs b =
      go (within 1 (shelf sh.t).servers b) refl
      ∙ ap (λ (A : Account (StepOn sh)). A.server (passed_all xs) b) (unfold by_bytes_def by_values in bytes-values)
      ∙ ap (λ (v : World). cond (within 1 s.servers b) (v.server b) (blank_server s)) (world_same xs)
    where
      go : (q : Bool) → within 1 (shelf sh.t).servers b ≡ q
          → cond q (server_or (shelf sh.t) (decode_memory ((now_export sh (steps xs)).memory b))) (blank_server (shelf sh.t))
          ≡ cond q (server_or (shelf sh.t) (decode_memory ((machines xs).memory b))) (blank_server (shelf sh.t))
      go true h = ap (λ (m : List ℕ). server_or (shelf sh.t) (decode_memory m)) ((now-stands xs).memory b h)
      go false h = refl

  -- the exported functions and values give one account
  exports-values : by_exports sh ≡ on_values_def
  exports-values =
      λ i.
      record {
        result = λ x xs. result-same x xs i;
        sent = λ x xs. sent-same x xs i;
        client = λ xs c. client-same xs c i;
        server = λ xs b. server-same xs b i;
      }

  module _ (first : ℕ → List ℕ) (sized : (c : ℕ) → length (first c) ≡ kept_size) where
    -- and so do the operations on bytes, whatever the kept bytes are at first
    pub exported : by_exports sh ≡ by_bytes_def real sh first
    exported = exports-values ∙ sym (accounts real real-lengths sh tr first sized)

    -- whatever is claimed of the account by bytes holds of the account by the exported functions
    pub claimed_of_exports : (C : Account (StepOn sh) → Type 0) → C (by_bytes_def real sh first) → C (by_exports sh)
    claimed_of_exports C h = subst C (sym exported) h
