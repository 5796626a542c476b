-- A filter round that has not ended: what each correct server did when it replied, and that the round is undecided.
-- Assumes nothing.
use mathlib.Core.Path.{◌≡◌, refl, sym, ap, ◌∙◌, subst}
use mathlib.Core.Bool.{Bool, true, false}
use mathlib.Core.List.{List, [], ◌∷◌}
use mathlib.Core.Option.{Option, none, some}
use mathlib.Core.Logic.{inr}
use Prim.Native.Nat.{ℕ, ◌≤◌, ◌<◌}
use native.Mathlib.Omega.{arith}
use lib.Dec.{eqb}
use borrow.Author.Tests.{leb-false, eqb-true}
use Rattle.protocol.specs.Values.{Candidate, Held, is_blank_def, same_list, blank_candidate}
use Rattle.protocol.specs.Packet.{Body, Packet, filter}
use Rattle.protocol.specs.Memory.{lookup}
use Rattle.protocol.specs.Rules.{ByServer, upd, count_to, choice, leader, tags_in}
use Rattle.protocol.specs.Server.{act}
use Rattle.protocol.specs.Client.{Client, Hand, Turn, Result, idle, clocking, storing, completing, collecting, filtering, repairing, is_full_def, accepted}
use Rattle.protocol.specs.Client.{update, judge, found, onto, begun, prepared, code_in, candidate_in, held_in_def}
use Rattle.runs.proofs.ValueRuns.{now_values}
use Rattle.atomicity.specs.Lists.{Ever, In}
use Rattle.atomicity.specs.Steps.{packet_in}
use Rattle.atomicity.specs.Premises.{odd}
use Rattle.atomicity.proofs.Util.{cond_both, bool_case, upd_here, upd_else, ever-map}
use Rattle.atomicity.proofs.Model.{best_of, updated}
use Rattle.atomicity.proofs.Setup.{Setup, Steps, StepOf, Fair, hand, hist, srv, replied, right, Same, same_step, right_step, cli}
use Rattle.atomicity.proofs.Moves.{kept, wbegan, rbegan, quit, took, moved, MovedAt}
use Rattle.atomicity.proofs.Rounds.{turn_turned}
use Rattle.atomicity.proofs.Sources.{made_by}
use Rattle.atomicity.proofs.Genuine.{Judging}
use Rattle.atomicity.proofs.Heard.{Heard, heard}
use Rattle.atomicity.proofs.Quorums.{S, Q}
use Rattle.atomicity.proofs.Telling.{at_step}
use Rattle.atomicity.proofs.Gathered.{gather-blank}
use Rattle.atomicity.proofs.Choosing.{Live}
use Rattle.atomicity.proofs.Results.{none_short, unmarked}
use Rattle.atomicity.proofs.Invariant.{awaits_even}
use Rattle.atomicity.proofs.Story.{past, meets}

module _ (K : Setup) where
  abbrev pub best : List Candidate → ℕ → Steps K → Candidate
  best cs j ys = best_of K.s j (srv K ys j) (blank_candidate K.s.config) cs

  -- server j's step on the filter list cs gave h
  pub record Sat (xs : Steps K) (cs : List Candidate) (j : ℕ) (h : Held) (y : StepOf K) (ys : Steps K) : Type 0 where
    pub ask : Packet
    pub asked : ask.body ≡ filter cs
    pub judging : Judging K y ys j ask
    pub old : Fair K ys
    pub stamp_is : h.stamp ≡ (best cs j ys).stamp
    pub share_is : h.share ≡ lookup (best cs j ys).stamp (hist K ys j)
    -- seen from xs, in the same phase
    pub phase : Same K ys xs

  sat-up : (x : StepOf K) (xs : Steps K) (cs : List Candidate) (j : ℕ) (h : Held) → Ever (Sat xs cs j h) xs → Ever (Sat (x ∷ xs) cs j h) (x ∷ xs)
  unfolding Ever
  sat-up x xs cs j h e = inr (ever-map (Sat xs cs j h) (Sat (x ∷ xs) cs j h) (λ y ys t. record {
    ask = t.ask;
    asked = t.asked;
    judging = t.judging;
    old = t.old;
    stamp_is = t.stamp_is;
    share_is = t.share_is;
    phase = t.phase ∙ same_step K x xs;
  }) xs e)

  abbrev Told : Steps K → List Candidate → ByServer Held → ByServer Bool → Type 0
  Told xs cs g m = (j : ℕ) → right K xs j ≡ true → m j ≡ true → Ever (Sat xs cs j (g j)) xs

  pub record Waits (xs : Steps K) (cs : List Candidate) (g : ByServer Held) (m : ByServer Bool) : Type 0 where
    pub listed : (d : Candidate) → In d cs → is_blank_def d.stamp ≡ false
    pub undecided : Q K ≤ count_to (S K) m → (choice K.s.P K.s.config m g cs ≡ none) × (Live K m g cs ≡ [] → ⊥)
    pub told : Told xs cs g m

  unfoldable pub Wait : Steps K → ByServer Bool → Hand → Type 0
  Wait xs m idle = Unit {0}
  Wait xs m (clocking r n k) = Unit {0}
  Wait xs m (storing d g) = Unit {0}
  Wait xs m (completing d) = Unit {0}
  Wait xs m (collecting g) = Unit {0}
  Wait xs m (filtering cs g) = Waits xs cs g m
  Wait xs m (repairing d r) = Unit {0}

  wait-up : (x : StepOf K) (xs : Steps K) (m : ByServer Bool) (h : Hand) → Wait xs m h → Wait (x ∷ xs) m h
  unfolding Wait Ever
  wait-up x xs m idle w = tt
  wait-up x xs m (clocking r n k) w = tt
  wait-up x xs m (storing d g) w = tt
  wait-up x xs m (completing d) w = tt
  wait-up x xs m (collecting g) w = tt
  wait-up x xs m (filtering cs g) w =
      record {
        listed = w.listed;
        undecided = w.undecided;
        told = λ j h i. sat-up x xs cs j (g j) (w.told j (right_step K x xs j ∙ h) i);
      }
  wait-up x xs m (repairing d r) w = tt

  abbrev WaitTurn : StepOf K → Steps K → Turn → Type 0
  WaitTurn x xs u = Wait (x ∷ xs) u.client.marks u.client.hand

  found_wait : (x : StepOf K) (xs : Steps K) (c : ℕ) (g : ByServer Held) (m : ByServer Bool) (cl : Client) (d : Candidate) (b : ℕ) →
      WaitTurn x xs (found K.s.P K.s.config c K.s.writers K.s.keys cl m g d b)
  unfolding found onto Wait
  found_wait x xs c g m cl d b = cond_both (WaitTurn x xs) (same_list (tags_in K.s.P K.s.config d (g b).share) d.tags) _ _ tt tt

  judge_wait : (x : StepOf K) (xs : Steps K) (c : ℕ) (cs : List Candidate) (g : ByServer Held) (m : ByServer Bool) (cl : Client) (ls : List Candidate)
      (o : Option Candidate) → ((d : Candidate) → In d cs → is_blank_def d.stamp ≡ false) →
      Live K m g cs ≡ ls → choice K.s.P K.s.config m g cs ≡ o → Told (x ∷ xs) cs g m →
      WaitTurn x xs (judge K.s.P K.s.config c K.s.writers K.s.keys cl m cs g ls o)
  unfolding judge onto Wait
  judge_wait x xs c cs g m cl [] o w lq cq t = tt
  judge_wait x xs c cs g m cl (l ∷ ls) none w lq cq t =
      record {
        listed = w;
        undecided =
            λ q. (cq, λ z. (let k : ◌≡◌ {A = List Candidate} [] (l ∷ ls) = sym z ∙ lq in (let y : ◌≡◌ {A = ℕ} 0 1 = cc in omega arith)));
        told = t;
      }
  judge_wait x xs c cs g m cl (l ∷ ls) (some d) w lq cq t = found_wait x xs c g m cl d (leader K.s.P K.s.config m g d K.s.config.servers)

  sat_at : (c j : ℕ) (xs : Steps K) (cs : List Candidate) (g : ByServer Held) (y : Body) → hand K xs c ≡ filtering cs g → Ever (Heard K c j xs y) xs →
      Ever (Sat xs cs j (held_in_def y)) xs
  unfolding act
  sat_at c j xs cs g y e ev = ever-map (Heard K c j xs y) (Sat xs cs j (held_in_def y)) (λ z zs t. let a = at_step K c j xs y (filtering cs g) e z zs t in
      record {
        ask = a.ask;
        asked = a.asked;
        judging = a.judging;
        old = a.old;
        stamp_is = ap (λ (b : Body). (held_in_def b).stamp) a.says;
        share_is = ap (λ (b : Body). (held_in_def b).share) a.says;
        phase = t.phase;
      }) xs ev

  update_wait : (x : StepOf K) (xs : Steps K) (c : ℕ) (cl : Client) (b : ℕ) (y : Body) (full : Bool) →
      (full ≡ false → count_to (S K) (upd cl.marks b true) < Q K) → (h : Hand) → cl.hand ≡ h → hand K xs c ≡ h → Wait xs cl.marks h →
      (right K (x ∷ xs) b ≡ true → Ever (Heard K c b xs y) xs) → WaitTurn x xs (updated K.s c cl b y (upd cl.marks b true) full h)
  unfolding update onto Wait Ever prepared
  update_wait x xs c cl b y full short idle e hq w ev = subst (Wait (x ∷ xs) cl.marks) (sym e) tt
  update_wait x xs c cl b y true short (clocking r n k) e hq w ev = tt
  update_wait x xs c cl b y false short (clocking r n k) e hq w ev = tt
  update_wait x xs c cl b y full short (storing d g) e hq w ev =
      cond_both (WaitTurn x xs) (eqb (code_in y) 11) _ _ (subst (Wait (x ∷ xs) cl.marks) (sym e) tt) (cond_both (WaitTurn x xs) full _ _ tt tt)
  update_wait x xs c cl b y true short (completing d) e hq w ev = tt
  update_wait x xs c cl b y false short (completing d) e hq w ev = tt
  update_wait x xs c cl b y true short (collecting g) e hq w ev =
      record {
        listed = λ d i. gather-blank (upd g b (candidate_in K.s.config y)) (S K) d i;
        undecided = λ l. absurd (omega (arith, l, none_short K));
        told = λ j h i. unmarked K j i;
      }
  update_wait x xs c cl b y false short (collecting g) e hq w ev = tt
  update_wait x xs c cl b y full short (filtering cs g) e hq w ev = go full short
    where
      m' : ByServer Bool
      m' = upd cl.marks b true

      g' : ByServer Held
      g' = upd g b (held_in_def y)

      told : Told (x ∷ xs) cs g' m'
      told j h i = bool_case (eqb j b)
          (λ t. let z = eqb-true j b t in subst (λ (k : ℕ). right K (x ∷ xs) k ≡ true → Ever (Sat (x ∷ xs) cs k (g' k)) (x ∷ xs)) (sym z)
          (λ k. sat-up x xs cs b (g' b) (subst (λ (v : Held). Ever (Sat xs cs b v) xs) (sym (upd_here g b (held_in_def y)))
          (sat_at c b xs cs g y hq (ev k)))) h)
          (λ t. sat-up x xs cs j (g' j) (subst (λ (v : Held). Ever (Sat xs cs j v) xs) (sym (upd_else g b (held_in_def y) j t))
          (w.told j (right_step K x xs j ∙ h) (sym (upd_else cl.marks b true j t) ∙ i))))

      go : (full : Bool) → (full ≡ false → count_to (S K) m' < Q K) → WaitTurn x xs (updated K.s c cl b y m' full (filtering cs g))
      go true short = judge_wait x xs c cs g' m' cl (Live K m' g' cs) (choice K.s.P K.s.config m' g' cs) w.listed refl refl told
      go false short = record { listed = w.listed; undecided = λ l. absurd (omega (arith, l, short refl)); told = told }
  update_wait x xs c cl b y true short (repairing d r) e hq w ev = tt
  update_wait x xs c cl b y false short (repairing d r) e hq w ev = tt

  pub waiting : (xs : Steps K) → Fair K xs → (c : ℕ) → K.correct.client c ≡ true → Wait xs (replied K xs c) (hand K xs c)
  unfolding now_values Wait begun onto past is_full_def
  waiting [] fair c good = tt
  waiting (x ∷ xs) fair c good = go (moved K.s c x xs) (waiting xs (past K x xs fair) c good)
    where
      cl' : Client
      cl' = cli K (x ∷ xs) c

      At : Client → Type 0
      At z = Wait (x ∷ xs) z.marks z.hand

      go : MovedAt K.s c x xs → Wait xs (replied K xs c) (hand K xs c) → At cl'
      go (kept e _) h = subst At (sym e) (wait-up x xs (replied K xs c) (hand K xs c) h)
      go (wbegan r n s a i l e) h = subst At (sym e) tt
      go (rbegan s a i e) h = subst At (sym e) tt
      go (quit s a i e) h = subst At (sym e) tt
      go (took p lent b o s rd fit e v) h =
          subst At (sym e) (update_wait x xs c (cli K xs c) p.head.server p.body _
          (λ q. leb-false (Q K) (count_to (S K) (upd (replied K xs c) p.head.server true)) q) (hand K xs c) refl refl h
          (λ k. heard K c xs (past K x xs fair) p good fit.mine fit.call fit.busy fit.kind
          ((made_by K x xs (meets K x xs fair) p (ap packet_in s ∙ rd)
          (subst (λ (z : Result). accepted z ≡ true) (sym v) (turn_turned K.s c (cli K xs c) p).fine)).1
          (ap odd fit.kind ∙ awaits_even K (hand K xs c)) (right_step K x xs p.head.server ∙ k))))
