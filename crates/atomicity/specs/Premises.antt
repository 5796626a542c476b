-- The premises of demand 3, each with the words that it renders. Whose step it is is asked of every step; all else of accepted steps only.
use Rattle.std.specs.Prelude.{◌≡◌, Bool, true, false, not, List, ◌++◌, ℕ, zero, suc, ◌≤◌}
use Rattle.std.proofs.Math.Option.{some}
use Rattle.cluster.specs.Config.{Config}
use Rattle.cluster.specs.Ranges.{top_writer, top_client}
use Rattle.protocol.specs.Values.{Candidate}
use Rattle.protocol.specs.Packet.{Packet, kind_of, decode, complete}
use Rattle.protocol.specs.Rules.{count_to}
use Rattle.runs.specs.Runs.{Step, write, read, make, take-reply, give-up, serve, Account}
use Rattle.atomicity.specs.Lists.{Ever, All, In}
use Rattle.atomicity.specs.Steps.{System, StepIn, bytes_in, packet_in, makes, serves, ok, tags_made, tags_checked, digested, all_digested, nonces_got}

-- ---- who is correct: document 01's right clients and honest boxes

pub record Correct : Type 0 where
  pub client : ℕ → Bool
  pub server : ℕ → Bool

-- "at most t boxes lie, any of clients 9 to 16 do as they please"
pub record Parties (s : Config) (correct : Correct) : Type 0 where
  pub writers : (c : ℕ) → 1 ≤ c → c ≤ top_writer → correct.client c ≡ true
  pub clients : (c : ℕ) → correct.client c ≡ true → (1 ≤ c) × (c ≤ top_client)
  pub servers : (b : ℕ) → correct.server b ≡ true → (1 ≤ b) × (b ≤ s.servers)
  pub liars : count_to s.servers (λ b. not (correct.server b)) ≤ s.t

abbrev pub odd : ℕ → Bool
odd zero = false
odd (suc n) = not (odd n)

module _ (s : System) (A : Account (StepIn s)) where
  -- such a step sent these bytes
  abbrev pub Sent : (Step → Bool) → List ℕ → List (StepIn s) → Type 0
  Sent who p xs = Ever (λ y ys. (who y.step ≡ true) × (A.sent y ys ≡ p)) xs

  -- client c begins a write with nonce n; "A call begins when accepted"
  unfoldable pub Begins : ℕ → List ℕ → StepIn s → List (StepIn s) → Type 0
  Begins c n x xs = (r : List ℕ) × (x.step ≡ write c r n) × (ok s A x xs ≡ true)

  -- "a writer shows its nonce by making kind 5"
  unfoldable pub Shows : ℕ → List ℕ → StepIn s → List (StepIn s) → Type 0
  Shows c n x xs =
      (d : Candidate) × (p : Packet) × (makes c x.step ≡ true) × (decode (A.sent x xs) ≡ some p) × (p.body ≡ complete d) × (d.nonce ≡ n)

  -- a server has got a candidate with nonce n
  abbrev pub Got : List ℕ → List (StepIn s) → Type 0
  Got n xs = Ever (λ y ys. In n (nonces_got s A y ys)) xs

  -- "No two writes get one nonce"; and nobody has shown it before its write begins
  unfoldable pub FreshNonce : StepIn s → List (StepIn s) → Type 0
  FreshNonce x xs = (c : ℕ) (n : List ℕ) → Begins c n x xs → ((d : ℕ) → Ever (Begins d n) xs → ⊥) × (Got n xs → ⊥)

  -- "nobody .. shows a nonce before its writer does"; "others by a nonblank candidate that a step gets"
  unfoldable pub NoEarlyNonce : StepIn s → List (StepIn s) → Type 0
  NoEarlyNonce x xs = All (λ n. (c : ℕ) → Ever (Begins c n) xs → Ever (Shows c n) xs) (nonces_got s A x xs)

  -- "nobody forges a tag": "A forged tag checks in a step though no right writer had made it with that key over those bytes"
  unfoldable pub NoForgery : StepIn s → List (StepIn s) → Type 0
  NoForgery x xs = All (λ kb. Ever (λ y ys. In kb (tags_made s A y ys)) xs) (tags_checked s A x xs)

  -- "nobody .. meets two inputs with one digest": "The two inputs differ and steps digest both"
  unfoldable pub NoCollision : StepIn s → List (StepIn s) → Type 0
  NoCollision x xs = All (λ u. All (λ v. s.P.digest u ≡ s.P.digest v → u ≡ v) (digested s A x xs ++ all_digested s A xs)) (digested s A x xs)

module _ (s : System) (A : Account (StepIn s)) (correct : Correct) where
  -- which servers are correct after the steps xs; here the same throughout
  abbrev pub correct_at : List (StepIn s) → ℕ → Bool
  correct_at xs b = correct.server b

  -- "a right client begins a write or read, makes or takes a packet or gives up; an honest box takes a packet"; "all others keep to these steps
  -- or stop for good"
  abbrev pub PartyOf : List (StepIn s) → Step → Type 0
  PartyOf xs (write c r n) = correct.client c ≡ true
  PartyOf xs (read c) = correct.client c ≡ true
  PartyOf xs (make c b o) = correct.client c ≡ true
  PartyOf xs (take-reply c lent p o) = correct.client c ≡ true
  PartyOf xs (give-up c) = correct.client c ≡ true
  PartyOf xs (serve b p o) = correct_at xs b ≡ true

  -- "none bears a right party's number falsely": "A packet of odd kind is its client's, of even kind its box's; a right party's was made by it
  -- in an earlier step"
  unfoldable pub Authentic : StepIn s → List (StepIn s) → Type 0
  Authentic x xs =
      (p : Packet) → packet_in x.step ≡ some p → ok s A x xs ≡ true
      → (odd (kind_of p.body) ≡ true → correct.client p.head.client ≡ true → Sent s A (makes p.head.client) (bytes_in x.step) xs)
      × (odd (kind_of p.body) ≡ false → correct_at xs p.head.server ≡ true → Sent s A (serves p.head.server) (bytes_in x.step) xs)

  pub record Premise (x : StepIn s) (xs : List (StepIn s)) : Type 0 where
    pub party : PartyOf xs x.step
    pub authentic : Authentic x xs
    pub fresh : FreshNonce s A x xs
    pub unforged : NoForgery s A x xs
    pub uncollided : NoCollision s A x xs
    pub unshown : NoEarlyNonce s A x xs
