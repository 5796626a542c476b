-- The setting of the whole proof: a system with its laws, runs that meet the premises, who is correct at a moment, and the ways into a moment.
-- The files after this one know who is correct and what a moment holds by the names and laws here, so that a change of either is made here.
-- Assumes nothing.
use mathlib.Core.Path.{◌≡◌, refl}
use mathlib.Core.Bool.{Bool, true, not}
use mathlib.Core.List.{List, ◌∷◌}
use mathlib.Core.Option.{Option}
use Prim.Native.Nat.{ℕ, ◌≤◌}
use Rattle.cluster.specs.Config.{Legal}
use Rattle.protocol.specs.declared.Stamp.{Stamp}
use Rattle.protocol.specs.Values.{Write}
use Rattle.protocol.specs.Packet.{Packet}
use Rattle.protocol.specs.Rules.{ByServer, count_to}
use Rattle.protocol.specs.Server.{Server}
use Rattle.protocol.specs.Client.{Client, Hand, Result}
use Rattle.atomicity.specs.Lists.{Always}
use Rattle.atomicity.specs.Steps.{StepIn, System}
use Rattle.atomicity.specs.Premises.{Correct, Parties, correct_at, Premise, Begins, Shows}
use Rattle.atomicity.proofs.Model.{Run, Laws, account}
use Rattle.atomicity.proofs.Model.{client_at_def, server_at_def, result_at, sent_at, hand_at, calls_at, last_at, replied_at, latest_at, history_at}

pub record Setup : Type 0 where
  pub s : System
  pub legal : Legal s.config
  pub laws : Laws s
  pub correct : Correct
  pub parties : Parties s.config correct

module _ (K : Setup) where
  abbrev pub Steps : Type 0
  Steps = Run K.s

  abbrev pub StepOf : Type 0
  StepOf = StepIn K.s

  abbrev pub Meets : StepOf → Steps → Type 0
  Meets x xs = Premise K.s (account K.s) K.correct x xs

  abbrev pub Fair : Steps → Type 0
  Fair xs = Always Meets xs

  abbrev pub Begin : ℕ → List ℕ → StepOf → Steps → Type 0
  Begin c n x xs = Begins K.s (account K.s) c n x xs

  abbrev pub Show : ℕ → List ℕ → StepOf → Steps → Type 0
  Show c n x xs = Shows K.s (account K.s) c n x xs

  -- ---- who is correct at a moment

  -- Who is correct does not change within a phase, so that all that a call has heard in one phase can be counted together. There is one phase
  unfoldable pub phase : Steps → ℕ
  phase xs = 0

  abbrev pub Same : Steps → Steps → Type 0
  Same ys xs = phase ys ≡ phase xs

  unfoldable pub right : Steps → ℕ → Bool
  right xs j = correct_at K.s (account K.s) K.correct xs j

  pub right_range : (xs : Steps) (j : ℕ) → right xs j ≡ true → (1 ≤ j) × (j ≤ K.s.config.servers)
  unfolding right
  right_range xs j e = K.parties.servers j e

  pub few-liars : (xs : Steps) → count_to K.s.config.servers (λ j. not (right xs j)) ≤ K.s.config.t
  unfolding right
  few-liars xs = K.parties.liars

  pub same_right : (ys xs : Steps) → Same ys xs → (j : ℕ) → right ys j ≡ right xs j
  unfolding right
  same_right ys xs e j = refl

  -- no step ends the phase
  pub same_step : (x : StepOf) (xs : Steps) → Same xs (x ∷ xs)
  unfolding phase
  same_step x xs = refl

  pub right_step : (x : StepOf) (xs : Steps) (j : ℕ) → right xs j ≡ right (x ∷ xs) j
  right_step x xs j = same_right xs (x ∷ xs) (same_step x xs) j

  -- ---- the ways into a moment, of this system's runs

  abbrev pub srv : Steps → ℕ → Server
  srv = server_at_def K.s

  abbrev pub lat : Steps → ℕ → Stamp
  lat = latest_at K.s

  abbrev pub hist : Steps → ℕ → List Write
  hist = history_at K.s

  abbrev pub cli : Steps → ℕ → Client
  cli = client_at_def K.s

  abbrev pub hand : Steps → ℕ → Hand
  hand = hand_at K.s

  abbrev pub calls : Steps → ℕ → ℕ
  calls = calls_at K.s

  abbrev pub last_of : Steps → ℕ → ℕ
  last_of = last_at K.s

  abbrev pub replied : Steps → ℕ → ByServer Bool
  replied = replied_at K.s

  abbrev pub result : StepOf → Steps → Result
  result = result_at K.s

  abbrev pub sent : StepOf → Steps → Option Packet
  sent = sent_at K.s
