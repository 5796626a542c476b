-- With typed steps the account of a run by bytes IS its account by values: one path, so that a claim goes over by one `subst`.
-- Two functions are equal where they are at every argument, two records where their fields are. Nothing is assumed but the primitives' lengths.
use mathlib.Core.Path.{◌≡◌, refl, sym, ap, subst}
use mathlib.Core.Bool.{Bool, true, false, cond}
use mathlib.Core.List.{List, [], ◌∷◌}
use Prim.Native.Nat.{ℕ, ◌≤◌}
use lib.ListN.{length}
use borrow.Author.Tests.{leb-true}
use Rattle.cluster.specs.Config.{Config, shelf}
use Rattle.cluster.specs.Ranges.{within, top_faults}
use Rattle.cluster.proofs.Tests.{and_both}
use Rattle.protocol.specs.Memory.{decode_memory}
use Rattle.protocol.specs.Primitives.{Primitives, Lengths}
use Rattle.protocol.specs.Server.{Server, blank_server}
use Rattle.protocol.specs.ServerBytes.{server_in}
use Rattle.protocol.specs.ClientBytes.{key_of}
use Rattle.runs.specs.Runs.{Shelf, config_of, StepOn, steps, Account, server_or, by_bytes_def, do_bytes, now_bytes}
use Rattle.protocol.specs.View.{kept_size}
use Rattle.runs.proofs.ValueRuns.{by_values, do_values, now_values}
use Rattle.protocol.proofs.ServerLift.{Holds, holds_decodes}
use Rattle.runs.proofs.RunLift.{Matches, Agrees, AllFed, run_matches, run-agrees}

module _ (P : Primitives) (law : Lengths P) (sh : Shelf) (tr : (1 ≤ sh.t) × (sh.t ≤ top_faults)) (first : ℕ → List ℕ)
    (sized : (c : ℕ) → length (first c) ≡ kept_size) where
  abbrev s : Config
  s = config_of sh

  pub steps-fed : (l : List (StepOn sh)) → AllFed P law sh tr (steps l)
  unfolding AllFed
  steps-fed [] = tt
  steps-fed (x ∷ xs) = (x.fed, steps-fed xs)

  server-same : (b : ℕ) (v : Server) (memory : List ℕ) → Holds sh.t b v memory → server_or s (decode_memory memory) ≡ v
  unfolding server_in
  server-same b v memory h = ap (server_or s) (holds_decodes h)

  match : (xs : List (StepOn sh)) → Matches P law sh tr (now_bytes P sh first (steps xs)) (now_values P s sh.writers (key_of sh.keys) (steps xs))
  match xs = run_matches P law sh tr first sized (steps xs) (steps-fed xs)

  agree : (x : StepOn sh) (xs : List (StepOn sh))
      → Agrees P law sh tr (do_values P s sh.writers (key_of sh.keys) (now_values P s sh.writers (key_of sh.keys) (steps xs)) x.step)
      (do_bytes P sh (now_bytes P sh first (steps xs)) x.step)
  agree x xs = run-agrees P law sh tr first sized x.step (steps xs) x.fed (steps-fed xs)

  server_at_lem : (xs : List (StepOn sh)) (b : ℕ)
      → cond (within 1 s.servers b) (server_or s (decode_memory ((now_bytes P sh first (steps xs)).memory b))) (blank_server s)
      ≡ cond (within 1 s.servers b) ((now_values P s sh.writers (key_of sh.keys) (steps xs)).server b) (blank_server s)
  server_at_lem xs b = go (within 1 (shelf sh.t).servers b) refl
    where
      go : (q : Bool) → within 1 (shelf sh.t).servers b ≡ q
          → cond q (server_or (shelf sh.t) (decode_memory ((now_bytes P sh first (steps xs)).memory b))) (blank_server (shelf sh.t))
          ≡ cond q ((now_values P (shelf sh.t) sh.writers (key_of sh.keys) (steps xs)).server b) (blank_server (shelf sh.t))
      go false e = refl
      go true e =
          let (lo, hi) = and_both _ _ e in
          server-same b _ ((now_bytes P sh first (steps xs)).memory b) ((match xs).memory b (leb-true 1 b lo) (leb-true b (shelf sh.t).servers hi))

  -- bytes and values give one account
  pub accounts : by_bytes_def P sh first ≡ by_values P s sh.writers (key_of sh.keys)
  unfolding by_bytes_def by_values
  accounts =
      λ i.
      record {
        result = λ x xs. (agree x xs).result i;
        sent = λ x xs. (agree x xs).sent i;
        client = λ xs c. ((match xs).client c).seen i;
        server = λ xs b. server_at_lem xs b i;
      }

  -- whatever is claimed of the account by values holds of the account by bytes
  pub claimed : (C : Account (StepOn sh) → Type 0) → C (by_values P s sh.writers (key_of sh.keys)) → C (by_bytes_def P sh first)
  claimed C h = subst C (sym accounts) h
