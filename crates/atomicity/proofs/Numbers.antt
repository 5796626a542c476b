-- Numbers stay small: a stamp's number is at most the number of marks, since each new one is one above a number that a mark has.
-- Assumes nothing.
use mathlib.Core.Path.{◌≡◌, refl, sym, ap, subst}
use mathlib.Core.Bool.{Bool, true, false, cond, ◌&&◌}
use mathlib.Core.List.{List, [], ◌∷◌, ◌++◌}
use mathlib.Core.Option.{Option, none, some}
use mathlib.Core.Logic.{inl, inr}
use Prim.Native.Nat.{ℕ, ◌+◌, ◌≤◌}
use native.Mathlib.Omega.{arith}
use lib.Dec.{ltb, eqb}
use lib.ListN.{length, length-append}
use Rattle.cluster.specs.Config.{up_to}
use Rattle.protocol.specs.declared.Stamp.{Stamp}
use Rattle.protocol.specs.Values.{Candidate, Held, same_list}
use Rattle.protocol.specs.Packet.{Body, Packet}
use Rattle.protocol.specs.Primitives.{stamp_message_def, candidate_message}
use Rattle.protocol.specs.Rules.{ByServer, leader, tags_in}
use Rattle.protocol.specs.Client.{Client, Hand, Turn, Result, idle, clocking, storing, completing, collecting, filtering, repairing, awaits, accepted}
use Rattle.protocol.specs.Client.{update, judge, found, onto, begun, prepared, candidate_made, higher, checks, stamp_in, code_in}
use Rattle.runs.specs.Runs.{Step}
use Rattle.runs.proofs.ValueRuns.{now_values}
use Rattle.format.proofs.Answers.{at-cond}
use Rattle.atomicity.specs.Lists.{Ever, Always, In}
use Rattle.atomicity.specs.Steps.{Stamped, of_packet, stamped_from, stamped_by, stamped_at, tags_with, tags_made, client_checks, checked_by}
use Rattle.atomicity.specs.Steps.{tags_checked}
use Rattle.atomicity.specs.Premises.{NoForgery}
use Rattle.atomicity.proofs.Util.{cond_both, left_in, right_in, in_flat, map_in, all_in}
use Rattle.atomicity.proofs.Model.{account, marks, updated}
use Rattle.atomicity.proofs.Setup.{Setup, Steps, StepOf, Fair, hand, last_of, cli, result}
use Rattle.atomicity.proofs.Moves.{kept, wbegan, rbegan, quit, took, moved, MovedAt}
use Rattle.atomicity.proofs.Rounds.{turn_turned}
use Rattle.atomicity.proofs.Rising.{Clocked, clocked-map, capped}
use Rattle.atomicity.proofs.Story.{past}

abbrev pub Low : ℕ → Hand → Type 0
Low n = Clocked (λ k. k ≤ n)

module _ (K : Setup) where
  -- the highest number that clock has so far
  abbrev high_so_far : Hand → ℕ
  high_so_far idle = 0
  high_so_far (clocking r n h) = h
  high_so_far (storing d g) = 0
  high_so_far (completing d) = 0
  high_so_far (collecting g) = 0
  high_so_far (filtering cs g) = 0
  high_so_far (repairing d r) = 0

  -- a number that clock takes over: it is above the highest so far, and its stamp's tag checks
  abbrev pub Rises : ℕ → Stamp → Bool
  Rises m a = ltb m a.number && checks K.s.P K.s.writers a

  pub higher-low : (N m : ℕ) (a : Stamp) → m ≤ N → (Rises m a ≡ true → a.number ≤ N) → higher K.s.P K.s.writers m a ≤ N
  unfolding higher
  higher-low N m a l f = at-cond (Rises m a) a.number m (λ (v : ℕ). v ≤ N) f (λ e. l)

  -- the client after a reply, with M marks then
  abbrev LowTurn : ℕ → ℕ → Hand → Turn → Type 0
  LowTurn c N h u = (u.client.last ≤ N + length (stamped_from c h u.client.hand))
      × Low (N + length (stamped_from c h u.client.hand)) u.client.hand

  found-low : (c N : ℕ) (cs : List Candidate) (g g' : ByServer Held) (m : ByServer Bool) (cl : Client) (d : Candidate) (b : ℕ) → cl.last ≤ N →
      LowTurn c N (filtering cs g) (found K.s.P K.s.config c K.s.writers K.s.keys cl m g' d b)
  unfolding found onto Clocked stamped_from
  found-low c N cs g g' m cl d b l =
      cond_both (LowTurn c N (filtering cs g)) (same_list (tags_in K.s.P K.s.config d (g' b).share) d.tags) _ _ (omega arith, tt)
      (omega arith, tt)

  judge-low : (c N : ℕ) (cs : List Candidate) (g g' : ByServer Held) (m : ByServer Bool) (cl : Client) (ls : List Candidate) (o : Option Candidate) →
      cl.last ≤ N →
      LowTurn c N (filtering cs g) (judge K.s.P K.s.config c K.s.writers K.s.keys cl m cs g' ls o)
  unfolding judge onto Clocked stamped_from
  judge-low c N cs g g' m cl [] o l = (omega arith, tt)
  judge-low c N cs g g' m cl (x ∷ ls) none l = (omega arith, tt)
  judge-low c N cs g g' m cl (x ∷ ls) (some d) l = found-low c N cs g g' m cl d (leader K.s.P K.s.config m g' d K.s.config.servers) l

  update-low : (c N : ℕ) (cl : Client) (b : ℕ) (y : Body) (m : ByServer Bool) (full : Bool) (h : Hand) → cl.hand ≡ h → cl.last ≤ N → Low N h →
      (awaits h ≡ 2 → Rises (high_so_far h) (stamp_in y) ≡ true → (stamp_in y).number ≤ N) →
      LowTurn c N h (updated K.s c cl b y m full h)
  unfolding update onto Clocked stamped_from awaits prepared candidate_made
  update-low c N cl b y m full idle e l lo f = (omega arith, subst (Low (N + 0)) (sym e) tt)
  update-low c N cl b y m true (clocking r n k) e l lo f = (omega (arith, higher-low N k (stamp_in y) lo (f refl)), tt)
  update-low c N cl b y m false (clocking r n k) e l lo f = (omega arith, omega (arith, higher-low N k (stamp_in y) lo (f refl)))
  update-low c N cl b y m full (storing d g) e l lo f =
      cond_both (LowTurn c N (storing d g)) (eqb (code_in y) 11) _ _ (omega arith, subst (Low (N + 0)) (sym e) tt)
      (cond_both (LowTurn c N (storing d g)) full _ _ (omega arith, tt) (omega arith, tt))
  update-low c N cl b y m true (completing d) e l lo f = (omega arith, tt)
  update-low c N cl b y m false (completing d) e l lo f = (omega arith, tt)
  update-low c N cl b y m true (collecting g) e l lo f = (omega arith, tt)
  update-low c N cl b y m false (collecting g) e l lo f = (omega arith, tt)
  update-low c N cl b y m true (filtering cs g) e l lo f = judge-low c N cs g _ m cl _ _ l
  update-low c N cl b y m false (filtering cs g) e l lo f = (omega arith, tt)
  update-low c N cl b y m true (repairing d r) e l lo f = (omega arith, tt)
  update-low c N cl b y m false (repairing d r) e l lo f = (omega arith, tt)

  -- a stamp tag that was made is a mark's
  tag_in : (k : List ℕ) (a b : ℕ) (m : Stamped) → In {A = List ℕ × List ℕ} (k, stamp_message_def a b) (tags_with K.s m) → m.stamp.number ≡ a
  unfolding tags_with In
  tag_in k a b m (inl e) = sym (K.laws.stamp_inj a b m.stamp.number m.stamp.writer (ap (λ (x : List ℕ × List ℕ). x.1) e)).0
  tag_in k a b m (inr i) = let r =
      map_in (λ (i : ℕ). (K.s.keys i, candidate_message m.stamp (K.s.P.digest m.nonce))) (up_to K.s.config.servers) _ i in
      absurd (K.laws.apart m.stamp m.nonce a b (sym (ap (λ (x : List ℕ × List ℕ). x.1) r.2)))

  made_num : (k : List ℕ) (a b : ℕ) (xs : Steps K) →
      Ever (λ y ys. In {A = List ℕ × List ℕ} (k, stamp_message_def a b) (tags_made K.s (account K.s) y ys)) xs → (m : Stamped)
      × In m (marks K.s xs) × (m.stamp.number ≡ a)
  unfolding Ever marks
  made_num k a b [] h = absurd h
  made_num k a b (x ∷ xs) (inl h) = let r = in_flat (tags_with K.s) (stamped_at K.s (account K.s) x xs) _ h in
      (r.0, left_in r.0 (stamped_at K.s (account K.s) x xs) (marks K.s xs) r.1, tag_in k a b r.0 r.2)
  made_num k a b (x ∷ xs) (inr h) = let r = made_num k a b xs h in
      (r.0, right_in r.0 (stamped_at K.s (account K.s) x xs) (marks K.s xs) r.1, r.2)

  abbrev kb : Body → List ℕ × List ℕ
  kb y = (K.s.writers, stamp_message_def (stamp_in y).number (stamp_in y).writer)

  clock_in : (h : Hand) (y : Body) → awaits h ≡ 2 → Rises (high_so_far h) (stamp_in y) ≡ true → In (kb y) (client_checks K.s h y)
  unfolding client_checks awaits In
  clock_in (clocking r n h) y k e = subst (λ (b : Bool). In (kb y) (cond b (kb y ∷ []) [])) (sym e) (inl refl)
  clock_in idle y k e = absurd (omega (arith, k))
  clock_in (storing d g) y k e = absurd (omega (arith, k))
  clock_in (completing d) y k e = absurd (omega (arith, k))
  clock_in (collecting g) y k e = absurd (omega (arith, k))
  clock_in (filtering cs g) y k e = absurd (omega (arith, k))
  clock_in (repairing d r) y k e = absurd (omega (arith, k))

  unfoldable pub Small : Steps K → Type 0
  Small xs = (c : ℕ) → (last_of K xs c ≤ length (marks K.s xs)) × Low (length (marks K.s xs)) (hand K xs c)

  pub mark-small : (xs : Steps K) → Small xs → (m : Stamped) → In m (marks K.s xs) → m.stamp.number ≤ length (marks K.s xs)
  unfolding Small
  mark-small xs h m i = omega (arith, (h m.client).0, capped K.s xs m i)

  small_step : (x : StepOf K) (xs : Steps K) → Fair K (x ∷ xs) → Small xs → Small (x ∷ xs)
  unfolding Small marks begun onto Clocked Always NoForgery checked_by stamped_by
  small_step x xs fair h c = go (moved K.s c x xs)
    where
      cl' : Client
      cl' = cli K (x ∷ xs) c

      N : ℕ
      N = length (marks K.s xs)

      M : ℕ
      M = length (stamped_at K.s (account K.s) x xs ++ marks K.s xs)

      Goal : ℕ → Client → Type 0
      Goal n z = (z.last ≤ n) × Low n z.hand

      up : N ≤ M
      up = omega (arith, length-append (stamped_at K.s (account K.s) x xs) (marks K.s xs))

      go : MovedAt K.s c x xs → Goal M cl'
      go (kept e _) = subst (Goal M) (sym e) (omega (arith, up, (h c).0), clocked-map _ _ (λ k l. omega (arith, up, l)) (hand K xs c) (h c).1)
      go (wbegan r n s a i l e) = subst (Goal M) (sym e) (omega (arith, up, (h c).0), omega (arith, up, (h c).0))
      go (rbegan s a i e) = subst (Goal M) (sym e) (omega (arith, up, (h c).0), tt)
      go (quit s a i e) = subst (Goal M) (sym e) (omega (arith, up, (h c).0), tt)
      go (took p lent b o s rd fit e v) =
          let u = update-low c N (cli K xs c) p.head.server p.body _ _ (hand K xs c) refl (h c).0 (h c).1
          checked in
          let q : M ≡ N + length (stamped_from c (hand K xs c) cl'.hand) =
          omega (arith, length-append (stamped_at K.s (account K.s) x xs) (marks K.s xs), ap length at_take) in
          subst (λ (m : ℕ). Goal m cl') (sym q) (subst (λ (y : Client). Goal (N + length (stamped_from c (hand K xs c) y.hand)) y) (sym e) u)
        where
          at_take : stamped_at K.s (account K.s) x xs ≡ stamped_from c (hand K xs c) cl'.hand
          at_take = ap (stamped_by (cli K xs) (cli K (x ∷ xs))) s

          fine : accepted (result K x xs) ≡ true
          fine = subst (λ (z : Result). accepted z ≡ true) (sym v) (turn_turned K.s c (cli K xs c) p).fine

          checked : awaits (hand K xs c) ≡ 2 → Rises (high_so_far (hand K xs c)) (stamp_in p.body) ≡ true → (stamp_in p.body).number ≤ N
          checked k t =
              let i : In (kb p.body) (tags_checked K.s (account K.s) x xs) =
              subst (λ (z : Bool). In (kb p.body) (cond z (checked_by K.s (cli K xs) ((account K.s).server xs) x.step) [])) (sym fine)
              (subst (λ (y : Step). In (kb p.body) (checked_by K.s (cli K xs) ((account K.s).server xs) y)) (sym s)
              (subst (λ (q : Option Packet). In (kb p.body) (of_packet (λ z. client_checks K.s (hand K xs c) z.body) q)) (sym rd)
              (clock_in (hand K xs c) p.body k t))) in
              let m = made_num K.s.writers (stamp_in p.body).number (stamp_in p.body).writer xs
              (all_in (λ z. Ever (λ y ys. In z (tags_made K.s (account K.s) y ys)) xs) (tags_checked K.s (account K.s) x xs)
              fair.0.unforged _ i) in
              omega (arith, m.2, mark-small xs h m.0 m.1)

  pub small : (xs : Steps K) → Fair K xs → Small xs
  unfolding now_values Small marks Clocked
  small [] fair = λ c. (omega arith, tt)
  small (x ∷ xs) fair = small_step x xs fair (small xs (past K x xs fair))
