-- The rounds that a call went through, read off an account of a run: a finished write clock, store and complete; a finished read collect and filter,
-- and repair where it was repaired. A call enters its rounds one after the other, and its hand tells in which it is.
-- Assumes nothing; it holds of every list of steps, whoever lies.
use mathlib.Core.Path.{◌≡◌, refl, sym, ap, ◌∙◌, subst}
use mathlib.Core.Bool.{Bool, true, false, cond, ◌||◌}
use mathlib.Core.List.{List, [], ◌∷◌, ◌++◌}
use mathlib.Core.Option.{Option, none, some}
use Prim.Native.Nat.{ℕ, suc}
use native.Mathlib.Omega.{arith}
use lib.Dec.{eqb}
use borrow.Author.Tests.{eq-eqb, ne_eqb}
use Rattle.protocol.specs.Values.{Candidate, Held, same_list}
use Rattle.protocol.specs.Packet.{Body}
use Rattle.protocol.specs.Rules.{ByServer, nobody, leader, tags_in}
use Rattle.protocol.specs.Client.{Client, Hand, Turn, Result, refused, more, written, gave, gave_blank, aborted, accepted, idle, clocking, storing, completing}
use Rattle.protocol.specs.Client.{collecting, filtering, repairing, awaits, is_idle, onto, begun, prepared, update, judge, found, code_in}
use Rattle.runs.specs.Runs.{Lent, take-reply, Account}
use Rattle.runs.proofs.ValueRuns.{now_values}
use Rattle.atomicity.specs.Steps.{StepIn, System}
use Rattle.atomicity.specs.Traffic.{with_round, went_through}
use Rattle.atomicity.proofs.Util.{cond_both, clash}
use Rattle.atomicity.proofs.Model.{Run, account, client_at_def, hand_at, calls_at, result_at, updated, turn}
use Rattle.atomicity.proofs.Moves.{acting, MovedAt, kept, wbegan, rbegan, quit, took, moved}
use Rattle.atomicity.proofs.Rounds.{Next, stays, clock_on, clock-ends, store-ends, collect_on, collect-ends, filter_on, filter-ends, over}
use Rattle.atomicity.proofs.Rounds.{turn_turned}

-- ---- rounds, by the kinds that they await

-- clock, store, complete; collect, filter; and repair
abbrev pub write_rounds : List ℕ
write_rounds = 2 ∷ 4 ∷ 6 ∷ []

abbrev pub read_rounds : List ℕ
read_rounds = 8 ∷ 10 ∷ []

abbrev pub repaired_rounds : List ℕ
repaired_rounds = 8 ∷ 10 ∷ 12 ∷ []

-- what a finished call went through, by its result and the kind of the reply that gave it: a read was repaired if it is repair's
abbrev pub rounds_by : Result → ℕ → List ℕ
rounds_by (written k) kind = write_rounds
rounds_by (gave k r) kind = cond (eqb kind 12) repaired_rounds read_rounds
rounds_by gave_blank kind = read_rounds
rounds_by (refused n) kind = []
rounds_by more kind = []
rounds_by (aborted b) kind = []

-- a call ends with this result
abbrev pub finishes : Result → Bool
finishes (written k) = true
finishes (gave k r) = true
finishes gave_blank = true
finishes (refused n) = false
finishes more = false
finishes (aborted b) = false

-- ---- the hand tells the rounds

abbrev pub trail : Hand → List ℕ
trail idle = []
trail (clocking r n k) = 2 ∷ []
trail (storing d g) = 2 ∷ 4 ∷ []
trail (completing d) = write_rounds
trail (collecting g) = 8 ∷ []
trail (filtering cs g) = read_rounds
trail (repairing d r) = repaired_rounds

-- a call in hand has gone through these
abbrev Gone : List ℕ → Hand → Type 0
Gone rounds h = is_idle h ≡ false → rounds ≡ trail h

pub stay : (n a : ℕ) (rounds : List ℕ) → with_round (eqb n n) a a rounds ≡ rounds
stay n a rounds = rw (eq-eqb n n refl, eq-eqb a a refl) (go (eqb a 0))
  where
    go : (b : Bool) → cond (b || true) rounds (rounds ++ (a ∷ [])) ≡ rounds
    go true = refl
    go false = refl

next_gone : (s : System) (c : ℕ) (h : Hand) (l : ℕ) (h' : Hand) (l' : ℕ) → Next s c h l h' l' → (rounds : List ℕ) → Gone rounds h →
    Gone (with_round true (awaits h) (awaits h') rounds) h'
unfolding awaits is_idle prepared
next_gone s c h l h' l' (stays a _) rounds g i =
    unfold awaits in stay 0 (awaits a) rounds ∙ g i
next_gone s c h l h' l' (clock_on r n k k' _ _) rounds g i = g refl
next_gone s c h l h' l' (clock-ends r n k k' _ _) rounds g i = ap (λ (y : List ℕ). y ++ (4 ∷ [])) (g refl)
next_gone s c h l h' l' (store-ends d g' _) rounds g i = ap (λ (y : List ℕ). y ++ (6 ∷ [])) (g refl)
next_gone s c h l h' l' (collect_on g0 g1 _) rounds g i = g refl
next_gone s c h l h' l' (collect-ends g0 cs _) rounds g i = ap (λ (y : List ℕ). y ++ (10 ∷ [])) (g refl)
next_gone s c h l h' l' (filter_on cs g0 g1 _) rounds g i = g refl
next_gone s c h l h' l' (filter-ends cs g0 d r _) rounds g i = ap (λ (y : List ℕ). y ++ (12 ∷ [])) (g refl)
next_gone s c h l h' l' (over _ _) rounds g i = clash refl i

module _ (s : System) (c : ℕ) where
  abbrev went : Run s → List ℕ
  went xs = went_through s (account s) c xs

  -- the rounds after a step that leaves the client cl'
  abbrev GoneTo : Client → List ℕ → Client → Type 0
  GoneTo cl rounds cl' = Gone (with_round (eqb cl.calls cl'.calls) (awaits cl.hand) (awaits cl'.hand) rounds) cl'.hand

  begun_gone : (cl : Client) (h : Hand) (rounds : List ℕ) → trail h ≡ awaits h ∷ [] → GoneTo cl rounds (begun cl h)
  unfolding begun
  begun_gone cl h rounds e i =
      rw (ne_eqb cl.calls (suc cl.calls) (λ q. omega (arith, q))) (sym e)

  same_gone : (cl cl' : Client) (rounds : List ℕ) → cl'.calls ≡ cl.calls
      → Gone (with_round true (awaits cl.hand) (awaits cl'.hand) rounds) cl'.hand → GoneTo cl rounds cl'
  same_gone cl cl' rounds e g i =
      ap (λ (b : Bool). with_round b (awaits cl.hand) (awaits cl'.hand) rounds) (eq-eqb cl.calls cl'.calls (sym e)) ∙ g i

  write_gone : (cl : Client) (r n : List ℕ) (k : ℕ) (rounds : List ℕ) → GoneTo cl rounds (begun cl (clocking r n k))
  write_gone cl r n k rounds = begun_gone cl (clocking r n k) rounds (unfold awaits in refl)

  read_gone : (cl : Client) (g : ByServer Candidate) (rounds : List ℕ) → GoneTo cl rounds (begun cl (collecting g))
  read_gone cl g rounds = begun_gone cl (collecting g) rounds (unfold awaits in refl)

  quit_gone : (cl : Client) (rounds : List ℕ) → GoneTo cl rounds (onto cl nobody idle)
  unfolding onto is_idle awaits
  quit_gone cl rounds i = clash refl i

  start_gone : Gone [] (hand_at s [] c)
  unfolding is_idle awaits now_values
  start_gone i = clash refl i

  -- at every moment a call in hand has gone through the rounds that its hand tells
  pub gone : (xs : Run s) → Gone (went xs) (hand_at s xs c)
  unfolding went_through
  gone [] = start_gone
  gone (x ∷ xs) = go (moved s c x xs) (gone xs)
    where
      cl : Client
      cl = client_at_def s xs c

      go : MovedAt s c x xs → Gone (went xs) cl.hand → GoneTo cl (went xs) (client_at_def s (x ∷ xs) c)
      go (kept e _) h = subst (GoneTo cl (went xs)) (sym e) (λ i. stay cl.calls (awaits cl.hand) (went xs) ∙ h i)
      go (wbegan r n a b d l e) h = subst (GoneTo cl (went xs)) (sym e) (write_gone cl r n _ (went xs))
      go (rbegan a b d e) h = subst (GoneTo cl (went xs)) (sym e) (read_gone cl _ (went xs))
      go (quit a b d e) h = subst (GoneTo cl (went xs)) (sym e) (quit_gone cl (went xs))
      go (took p lent b o a d f e r) h =
          let t = turn_turned s c cl p in
          subst (GoneTo cl (went xs)) (sym e)
          (same_gone cl (turn s c cl p).client (went xs) t.calls (next_gone s c cl.hand cl.last _ _ t.next (went xs) h))

-- ---- the end

-- a turn that gives a result leaves no call in hand, and the rounds were those of the result
pub record Ending (h : Hand) (u : Turn) : Type 0 where
  pub over : u.client.hand ≡ idle
  pub rounds : trail h ≡ rounds_by u.result (awaits h)

module _ (s : System) (c : ℕ) (cl : Client) where
  abbrev EndsAs : Hand → Turn → Type 0
  EndsAs h u = finishes u.result ≡ true → Ending h u

  found-ends : (cs : List Candidate) (g g' : ByServer Held) (m : ByServer Bool) (d : Candidate) (b : ℕ) →
      EndsAs (filtering cs g) (found s.P s.config c s.writers s.keys cl m g' d b)
  unfolding found onto awaits
  found-ends cs g g' m d b = cond_both (EndsAs (filtering cs g)) (same_list (tags_in s.P s.config d (g' b).share) d.tags) _ _
      (λ e. record { over = refl; rounds = refl }) (λ e. clash e refl)

  judge-ends : (cs : List Candidate) (g g' : ByServer Held) (m : ByServer Bool) (ls : List Candidate) (o : Option Candidate) →
      EndsAs (filtering cs g) (judge s.P s.config c s.writers s.keys cl m cs g' ls o)
  unfolding judge onto
  judge-ends cs g g' m [] o = λ e. record { over = refl; rounds = refl }
  judge-ends cs g g' m (l ∷ ls) none = λ e. clash e refl
  judge-ends cs g g' m (l ∷ ls) (some d) = found-ends cs g g' m d (leader s.P s.config m g' d s.config.servers)

  ends : (b : ℕ) (x : Body) (m : ByServer Bool) (full : Bool) (h : Hand) → EndsAs h (updated s c cl b x m full h)
  unfolding update onto awaits
  ends b x m full idle = λ e. clash e refl
  ends b x m full (clocking r n k) = cond_both (EndsAs (clocking r n k)) full _ _ (λ e. clash e refl) (λ e. clash e refl)
  ends b x m full (storing d h) = cond_both (EndsAs (storing d h)) (eqb (code_in x) 11) _ _ (λ e. clash e refl)
      (cond_both (EndsAs (storing d h)) full _ _ (λ e. clash e refl) (λ e. clash e refl))
  ends b x m full (completing d) = cond_both (EndsAs (completing d)) full _ _ (λ e. record { over = refl; rounds = refl }) (λ e. clash e refl)
  ends b x m full (collecting g) = cond_both (EndsAs (collecting g)) full _ _ (λ e. clash e refl) (λ e. clash e refl)
  ends b x m full (filtering cs g) = cond_both (EndsAs (filtering cs g)) full _ _ (judge-ends cs g _ m _ _) (λ e. clash e refl)
  ends b x m full (repairing d r) = cond_both (EndsAs (repairing d r)) full _ _ (λ e. record { over = refl; rounds = refl }) (λ e. clash e refl)

-- a result that ends a call was accepted
finishes-done : (r : Result) → finishes r ≡ true → accepted r ≡ true
finishes-done (refused n) e = clash e refl
finishes-done more e = refl
finishes-done (written k) e = refl
finishes-done (gave k r) e = refl
finishes-done gave_blank e = refl
finishes-done (aborted b) e = refl

-- of an account of runs: whenever a reply ends a call, the call went through the rounds of its result
unfoldable pub ByRounds : (s : System) → Account (StepIn s) → Type 0
ByRounds s A =
    (c : ℕ) (x : StepIn s) (xs : List (StepIn s)) (lent : Lent) (reply output : List ℕ) → x.step ≡ take-reply c lent reply output
    → finishes (A.result x xs) ≡ true → went_through s A c (x ∷ xs) ≡ rounds_by (A.result x xs) (awaits (A.client xs c).hand)

module _ (s : System) (c : ℕ) (x : StepIn s) (xs : Run s) where
  over-same : (cl' : Client) → cl'.calls ≡ calls_at s xs c → cl'.hand ≡ idle → (rounds : List ℕ)
      → with_round (eqb (calls_at s xs c) cl'.calls) (awaits (hand_at s xs c)) (awaits cl'.hand) rounds ≡ rounds
  unfolding awaits
  over-same cl' e h rounds = rw (e, h, eq-eqb (calls_at s xs c) (calls_at s xs c) refl)

  -- no call is in hand then, and the rounds are those of the result
  pub record CallOver : Type 0 where
    pub idles : hand_at s (x ∷ xs) c ≡ idle
    pub rounds : went_through s (account s) c (x ∷ xs) ≡ rounds_by (result_at s x xs) (awaits (hand_at s xs c))

  pub call-over : (lent : Lent) (reply output : List ℕ) → x.step ≡ take-reply c lent reply output → finishes (result_at s x xs) ≡ true → CallOver
  unfolding went_through
  call-over lent reply output e f = go (moved s c x xs)
    where
      R : Result
      R = result_at s x xs

      cl : Client
      cl = client_at_def s xs c

      ends-not : (r : Result) → R ≡ r → finishes r ≡ false → ⊥
      ends-not r q z = clash (subst (λ (y : Result). finishes y ≡ true) q f) z

      go : MovedAt s c x xs → CallOver
      go (kept q k) =
          absurd (clash (finishes-done R f) (k (ap (acting c) e ∙ eq-eqb c c refl)))
      go (wbegan r n a b d l q) = absurd (ends-not more b refl)
      go (rbegan a b d q) = absurd (ends-not more b refl)
      go (quit a b d q) = absurd (ends-not _ b refl)
      go (took p _ _ _ _ _ fits q r) =
          let u : Turn = turn s c cl p in
          let z : Ending cl.hand u = ends s c cl _ _ _ _ cl.hand (subst (λ (y : Result). finishes y ≡ true) r f) in
          let n : (client_at_def s (x ∷ xs) c).calls ≡ cl.calls = ap (λ (y : Client). y.calls) q ∙ (turn_turned s c cl p).calls in
          let h : hand_at s (x ∷ xs) c ≡ idle = ap (λ (y : Client). y.hand) q ∙ z.over in
          record {
            idles = h;
            rounds = over-same (client_at_def s (x ∷ xs) c) n h (went_through s (account s) c xs) ∙ gone s c xs fits.busy ∙ z.rounds
                ∙ ap (λ (y : Result). rounds_by y (awaits cl.hand)) (sym r);
          }

pub by-rounds : (s : System) → ByRounds s (account s)
unfolding ByRounds
by-rounds s c x xs lent reply output e f = (call-over s c x xs lent reply output e f).rounds
