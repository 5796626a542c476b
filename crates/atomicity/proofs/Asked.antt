-- How many different requests a call makes, read off an account of a run by the packets sent: at most one for each of its rounds and each server, and
-- just that many if each round goes to all servers. So a finished write then makes 3 * S, a read 2 * S, a repaired read 3 * S. A request is told by
-- its kind and its server: made again within the call it is the same packet, and packets of another kind or server are others.
-- Assumes the laws of packets (Laws), which the real functions have.
use mathlib.Core.Path.{◌≡◌, refl, sym, ap, ◌∙◌, subst}
use mathlib.Core.Bool.{true, false, ◌||◌}
use mathlib.Core.List.{List, [], ◌∷◌, ◌++◌}
use mathlib.Core.Option.{Option, none, some}
use mathlib.Core.Logic.{◌⊎◌, inl, inr}
use Prim.Native.Nat.{ℕ, suc, ◌*◌, ◌≤◌}
use native.Mathlib.Nat.{le_refl}
use native.Mathlib.Omega.{arith}
use lib.Dec.{eqb}
use lib.ListN.{length}
use borrow.Author.Tests.{eqb-true}
use Rattle.protocol.specs.Packet.{Body, Packet, kind_of, decode}
use Rattle.protocol.specs.Client.{Client, Hand, idle, clocking, storing, completing, collecting, filtering, repairing, awaits, is_idle, request, made}
use Rattle.runs.specs.Runs.{Lent, take-reply, Account, sent_of}
use Rattle.format.proofs.Answers.{at-cond}
use Rattle.atomicity.specs.Lists.{Always, In}
use Rattle.atomicity.specs.Steps.{StepIn, System, makes}
use Rattle.atomicity.specs.Traffic.{with_round, went_through, is_ask, asks, asked, requests, EachAsked}
use Rattle.atomicity.proofs.Util.{clash, and_left, and_right, or_cases, left_in}
use Rattle.atomicity.proofs.PerRound.{most-rounds, all-rounds}
use Rattle.atomicity.proofs.Model.{Run, Laws, account, client_at_def, hand_at, calls_at, sent_at}
use Rattle.atomicity.proofs.Serving.{Making, making}
use Rattle.atomicity.proofs.Positions.{pos, stage-awaits, Before, before_one, before-trans}
use Rattle.atomicity.proofs.Heard.{request-kind}
use Rattle.atomicity.proofs.Through.{trail, rounds_by, finishes, gone, ByRounds}

-- one packet is the request of one round to one server
pub ask_apart : (k b k' b' : ℕ) (o : Option Packet) → is_ask k b o ≡ true → is_ask k' b' o ≡ true → (k ≡ k') × (b ≡ b')
ask_apart k b k' b' none e f = clash e refl
ask_apart k b k' b' (some p) e f =
    let j : ℕ = suc (kind_of p.body) in
    let i : ℕ = p.head.server in (
      sym (eqb-true j k (and_left (eqb j k) (eqb i b) e)) ∙ eqb-true j k' (and_left (eqb j k') (eqb i b') f),
      sym (eqb-true i b (and_right (eqb j k) (eqb i b) e)) ∙ eqb-true i b' (and_right (eqb j k') (eqb i b') f),
    )

module _ (s : System) (A : Account (StepIn s)) where
  pub requests-most : (c : ℕ) (l : List (StepIn s)) → requests s A c l ≤ length (went_through s A c l) * s.config.servers
  requests-most c l = most-rounds s.config.servers (asked s A c l) (went_through s A c l)

  -- a finished call, each of whose rounds went to all servers
  pub requests_of_lem : ByRounds s A → (c : ℕ) (x : StepIn s) (xs : List (StepIn s)) (lent : Lent) (reply output : List ℕ)
      → x.step ≡ take-reply c lent reply output → finishes (A.result x xs) ≡ true → EachAsked s A c (x ∷ xs)
      → requests s A c (x ∷ xs) ≡ length (rounds_by (A.result x xs) (awaits (A.client xs c).hand)) * s.config.servers
  unfolding ByRounds
  requests_of_lem h c x xs lent reply output e f g =
      all-rounds s.config.servers (asked s A c (x ∷ xs)) (went_through s A c (x ∷ xs)) g
      ∙ ap (λ (ks : List ℕ). length ks * s.config.servers) (h c x xs lent reply output e f)

-- ---- no other request is made

trail_in : (h : Hand) → is_idle h ≡ false → In (awaits h) (trail h)
unfolding awaits is_idle In
trail_in idle e = clash refl e
trail_in (clocking r n k) e = inl refl
trail_in (storing d g) e = inr (inl refl)
trail_in (completing d) e = inr (inr (inl refl))
trail_in (collecting g) e = inl refl
trail_in (filtering cs g) e = inr (inl refl)
trail_in (repairing d r) e = inr (inr (inl refl))

-- a round stays among those of the call
with-round_in : (k was is : ℕ) (rounds : List ℕ) → In k rounds → In k (with_round true was is rounds)
with-round_in k was is rounds i =
    at-cond (eqb is 0 || eqb was is) rounds (rounds ++ (is ∷ [])) (In k) (λ e. i) (λ e. left_in k rounds (is ∷ []) i)

made-server : (t c : ℕ) (cl : Client) (b : ℕ) → (made t c cl b).head.server ≡ b
unfolding made
made-server t c cl b = refl

made-body : (t c : ℕ) (cl : Client) (b : ℕ) → (made t c cl b).body ≡ request cl.hand b
unfolding made
made-body t c cl b = refl

-- the same request of the same call is the same packet
made-same : (t c : ℕ) (cl cl' : Client) (b : ℕ) → request cl.hand b ≡ request cl'.hand b → cl.calls ≡ cl'.calls
    → made t c cl b ≡ made t c cl' b
unfolding made
made-same t c cl cl' b e f = λ i. record { head = record { kind = kind_of (e i); client = c; server = b; t = t; call = f i }; body = e i }

module _ (s : System) (laws : Laws s) (c : ℕ) where
  -- what a request tells: the client's hand, and one of the servers
  pub record Ask (k b : ℕ) (x : StepIn s) (xs : Run s) : Type 0 where
    pub sent : sent_at s x xs ≡ some (made s.config.t c (client_at_def s xs c) b)
    pub busy : is_idle (hand_at s xs c) ≡ false
    pub round : awaits (hand_at s xs c) ≡ k
    pub low : 1 ≤ b
    pub high : b ≤ s.config.servers

  pub ask : (k b : ℕ) (x : StepIn s) (xs : Run s) → asks s (account s) c k b x xs ≡ true → Ask k b x xs
  ask k b x xs e = go (decode (sent_of (sent_at s x xs))) refl (and_right (makes c x.step) _ e)
    where
      go : (o : Option Packet) → decode (sent_of (sent_at s x xs)) ≡ o → is_ask k b o ≡ true → Ask k b x xs
      go none d q = clash q refl
      go (some p) d q =
          let z : sent_at s x xs ≡ some p = laws.reads x xs p d in
          let m : Making s c (client_at_def s xs c) p = making s c x xs p (and_left _ _ e) z in
          let cl : Client = client_at_def s xs c in
          let mine : eqb p.head.server b ≡ true = and_right (eqb (suc (kind_of p.body)) k) _ q in
          let to : m.to ≡ b =
          sym (made-server s.config.t c cl m.to) ∙ ap (λ (r : Packet). r.head.server) (sym m.is) ∙ eqb-true _ _ mine in
          let body : p.body ≡ request cl.hand m.to = ap (λ (r : Packet). r.body) m.is ∙ made-body s.config.t c cl m.to in
          record {
            sent = z ∙ ap some m.is ∙ ap (λ (j : ℕ). some (made s.config.t c (client_at_def s xs c) j)) to;
            busy = m.busy;
            round = sym (request-kind cl.hand m.to m.busy) ∙ ap (λ (y : Body). suc (kind_of y)) (sym body) ∙ eqb-true _ _ (and_left _ _ q);
            low = subst (λ (j : ℕ). 1 ≤ j) to m.low;
            high = subst (λ (j : ℕ). j ≤ s.config.servers) to m.high;
          }

  abbrev Within : Run s → ℕ → ℕ → Type 0
  Within xs k b = In k (went_through s (account s) c xs) × ((1 ≤ b) × (b ≤ s.config.servers))

  -- every request of the call is of one of its rounds, to one of the servers
  pub asked-within : (xs : Run s) (k b : ℕ) → asked s (account s) c xs k b ≡ true → Within xs k b
  unfolding asked went_through
  asked-within [] k b e = clash e refl
  asked-within (x ∷ xs) k b e =
      let same = eqb (calls_at s xs c) (calls_at s (x ∷ xs) c) in
      go (and_left same _ e) (or_cases (asks s (account s) c k b x xs) _ (and_right same _ e)) (asked-within xs k b)
    where
      grown : eqb (calls_at s xs c) (calls_at s (x ∷ xs) c) ≡ true → In k (went_through s (account s) c xs)
          → In k (with_round (eqb (calls_at s xs c) (calls_at s (x ∷ xs) c)) (awaits (hand_at s xs c)) (awaits (hand_at s (x ∷ xs) c))
          (went_through s (account s) c xs))
      grown q i = rw q (with-round_in k (awaits (hand_at s xs c)) (awaits (hand_at s (x ∷ xs) c)) (went_through s (account s) c xs) i)

      go : eqb (calls_at s xs c) (calls_at s (x ∷ xs) c) ≡ true → (asks s (account s) c k b x xs ≡ true) ⊎ (asked s (account s) c xs k b ≡ true)
          → (asked s (account s) c xs k b ≡ true → Within xs k b)
          → In k (with_round (eqb (calls_at s xs c) (calls_at s (x ∷ xs) c)) (awaits (hand_at s xs c)) (awaits (hand_at s (x ∷ xs) c))
          (went_through s (account s) c xs)) × ((1 ≤ b) × (b ≤ s.config.servers))
      go q (inr h) f = let z = f h in (grown q z.0, z.1)
      go q (inl h) f =
          let a : Ask k b x xs = ask k b x xs h in
          let i : In k (trail (hand_at s xs c)) = subst (λ (j : ℕ). In j (trail (hand_at s xs c))) a.round (trail_in (hand_at s xs c) a.busy) in
          (grown q (subst (In k) (sym (gone s c xs a.busy)) i), (a.low, a.high))

  -- what holds of all moments that are before zs holds of each step before zs
  each : (P : StepIn s → Run s → Type 0) (zs xs : Run s) → Before s c xs zs → ((y : StepIn s) (ys : Run s) → Before s c ys zs → P y ys) → Always P xs
  unfolding Always
  each P zs [] b f = tt
  each P zs (x ∷ xs) b f = let a = before-trans s c xs (x ∷ xs) zs (before_one s c x xs) b in (f x xs a, each P zs xs a f)

  before_self : (xs : Run s) → Before s c xs xs
  before_self xs = record { low = le_refl _; round = λ e. (refl, refl, λ b. refl, refl) }

  same_pos : (k b : ℕ) (x y : StepIn s) (xs ys : Run s) → Ask k b y ys → Ask k b x xs → calls_at s ys c ≡ calls_at s xs c
      → pos (client_at_def s ys c) ≡ pos (client_at_def s xs c)
  unfolding pos
  same_pos k b x y xs ys v w n =
      omega (arith, n, stage-awaits (hand_at s ys c) v.busy, stage-awaits (hand_at s xs c) w.busy, v.round, w.round)

  -- within the call, the kind and the server tell the packet
  pub same-packet : (k b : ℕ) (x : StepIn s) (xs : Run s) → asks s (account s) c k b x xs ≡ true
      → Always (λ y ys. asks s (account s) c k b y ys ≡ true → calls_at s ys c ≡ calls_at s xs c → sent_of (sent_at s y ys) ≡ sent_of (sent_at s x xs))
      xs
  same-packet k b x xs e = each _ xs xs (before_self xs) (λ y ys h f n. go y ys h (ask k b y ys f) (ask k b x xs e) n)
    where
      go : (y : StepIn s) (ys : Run s) → Before s c ys xs → Ask k b y ys → Ask k b x xs → calls_at s ys c ≡ calls_at s xs c
          → sent_of (sent_at s y ys) ≡ sent_of (sent_at s x xs)
      go y ys h v w n =
          let r = h.round (same_pos k b x y xs ys v w n) in
          ap sent_of (v.sent ∙ ap some (made-same s.config.t c (client_at_def s ys c) (client_at_def s xs c) b (r.2 b) n) ∙ sym w.sent)
