-- A call that is not in hand is over or was given up: a hand goes idle only by a result that ends the call, or by giving up.
-- Assumes nothing.
use mathlib.Core.Path.{◌≡◌, refl, sym, ap, ◌∙◌, subst}
use mathlib.Core.Bool.{Bool, true, false, ◌||◌}
use mathlib.Core.List.{List, [], ◌∷◌, map}
use mathlib.Core.Option.{Option, none, some}
use mathlib.Core.Logic.{◌⊎◌, inl, inr}
use Prim.Native.Nat.{ℕ, suc}
use lib.Dec.{eqb}
use lib.ListN.{length}
use borrow.Author.Tests.{eq-eqb}
use Rattle.protocol.specs.Values.{Candidate, Held, same_list, blank_stamp, is_some}
use Rattle.protocol.specs.Packet.{Body}
use Rattle.protocol.specs.Rules.{ByServer, leader, tags_in}
use Rattle.protocol.specs.Client.{Client, Hand, Turn, Result, refused, more, written, gave, gave_blank, aborted, idle, clocking, storing, completing}
use Rattle.protocol.specs.Client.{collecting, filtering, repairing, awaits, is_idle, accepted}
use Rattle.protocol.specs.Client.{update, judge, found, onto, begun, prepared, code_in, in_complete}
use Rattle.runs.specs.Runs.{Step, write, read, make, take-reply, give-up, serve}
use Rattle.atomicity.specs.Lists.{In}
use Rattle.atomicity.specs.Steps.{System}
use Rattle.atomicity.specs.Claim.{Logged, follow}
use Rattle.atomicity.proofs.Util.{cond_both, clash, no_some, or_right, split_in, map_in}
use Rattle.atomicity.proofs.Model.{updated}
use Rattle.atomicity.proofs.Setup.{Setup, Steps, StepOf, Fair, hand, calls, cli, result}
use Rattle.atomicity.proofs.Moves.{kept, wbegan, rbegan, quit, took, moved, acting, MovedAt}
use Rattle.atomicity.proofs.Rounds.{turn_turned}
use Rattle.atomicity.proofs.Calls.{CallOk}
use Rattle.atomicity.proofs.Shape.{effect, touched, mover, touched_case, entered, refused-view}
use Rattle.atomicity.proofs.Logs.{Signed, begin_signed, new_signed, new_write, new_read}
use Rattle.atomicity.proofs.Story.{past, step_signed, story}

-- over, or given up
abbrev pub Out : Logged → Type 0
Out a = (is_some a.over || a.gave_up) ≡ true

abbrev Closed : Logged → ℕ → Bool → Turn → Type 0
Closed a t b u = is_idle u.client.hand ≡ true → Out (follow u.result b t a)

follow_keeps : (v : Result) (b : Bool) (t : ℕ) (a : Logged) → ((follow v b t a).client ≡ a.client) × ((follow v b t a).number ≡ a.number)
follow_keeps (refused k) b t a = (refl, refl)
follow_keeps more b t a = (refl, refl)
follow_keeps (written k) b t a = (refl, refl)
follow_keeps (gave k r) b t a = (refl, refl)
follow_keeps gave_blank b t a = (refl, refl)
follow_keeps (aborted f) b t a = (refl, refl)

module _ (s : System) (c : ℕ) (a : Logged) (t : ℕ) (f : Bool) where
  found_closed : (g : ByServer Held) (m : ByServer Bool) (cl : Client) (d : Candidate) (b : ℕ) →
      Closed a t f (found s.P s.config c s.writers s.keys cl m g d b)
  unfolding found onto is_idle awaits
  found_closed g m cl d b = cond_both (Closed a t f) (same_list (tags_in s.P s.config d (g b).share) d.tags) _ _ (λ e. refl)
      (λ e. clash e refl)

  judge_closed : (cs : List Candidate) (g : ByServer Held) (m : ByServer Bool) (cl : Client) (ls : List Candidate) (o : Option Candidate) →
      Closed a t f (judge s.P s.config c s.writers s.keys cl m cs g ls o)
  unfolding judge onto is_idle awaits
  judge_closed cs g m cl [] o = λ e. refl
  judge_closed cs g m cl (l ∷ ls) none = λ e. clash e refl
  judge_closed cs g m cl (l ∷ ls) (some d) = found_closed g m cl d (leader s.P s.config m g d s.config.servers)

  update_closed : (cl : Client) (b : ℕ) (y : Body) (m : ByServer Bool) (full : Bool) (h : Hand) → is_idle cl.hand ≡ false → is_idle h ≡ false →
      Closed a t f (updated s c cl b y m full h)
  unfolding update onto is_idle awaits prepared
  update_closed cl b y m full idle v w = clash refl w
  update_closed cl b y m true (clocking r n k) v w = λ e. clash e refl
  update_closed cl b y m false (clocking r n k) v w = λ e. clash e refl
  update_closed cl b y m full (storing d g) v w =
      cond_both (Closed a t f) (eqb (code_in y) 11) _ _ (λ e. clash e v) (cond_both (Closed a t f) full _ _ (λ e. clash e refl) (λ e. clash e refl))
  update_closed cl b y m true (completing d) v w = λ e. refl
  update_closed cl b y m false (completing d) v w = λ e. clash e refl
  update_closed cl b y m true (collecting g) v w = λ e. clash e refl
  update_closed cl b y m false (collecting g) v w = λ e. clash e refl
  update_closed cl b y m true (filtering cs g) v w = judge_closed cs _ m cl _ _
  update_closed cl b y m false (filtering cs g) v w = λ e. clash e refl
  update_closed cl b y m true (repairing d r) v w = λ e. refl
  update_closed cl b y m false (repairing d r) v w = λ e. clash e refl

module _ (K : Setup) where
  unfoldable pub Settled : Steps K → Logged → Type 0
  Settled xs a = (a.number ≡ calls K xs a.client → is_idle (hand K xs a.client) ≡ true) → Out a

  -- a call that the step leaves as it is
  same-call : (x : StepOf K) (xs : Steps K) (a : Logged) → Settled xs a →
      (mover x.step ≡ some a.client → a.number ≡ calls K xs a.client → ⊥) → Settled (x ∷ xs) a
  unfolding Settled
  same-call x xs a h f hyp = go (moved K.s a.client x xs)
    where
      go : MovedAt K.s a.client x xs →
          Out a
      go (kept e _) = h (λ n. subst (λ (z : Client). is_idle z.hand ≡ true) e (hyp (n ∙ sym (ap (λ (z : Client). z.calls) e))))
      go (wbegan r n s b i m e) = h (λ n. i)
      go (rbegan s b i e) = h (λ n. i)
      go (quit s b i e) = h (λ n. absurd (f (ap mover s) n))
      go (took p lent b o s rd fit e v) = h (λ n. absurd (f (ap mover s) n))

  -- the client's own call, at its own take or give-up
  own_settled : (x : StepOf K) (xs : Steps K) (a : Logged) → Settled xs a → a.number ≡ calls K xs a.client →
      mover x.step ≡ some a.client → acting a.client x.step ≡ true → Settled (x ∷ xs) (effect K x xs a.client a)
  unfolding Settled
  own_settled x xs a h n m act hyp = go (moved K.s a.client x xs) (back (follow_keeps (result K x xs) _ (length xs) a) hyp)
    where
      cl' : Client
      cl' = cli K (x ∷ xs) a.client

      T : Logged
      T = effect K x xs a.client a

      back : (T.client ≡ a.client) × (T.number ≡ a.number) →
          (T.number ≡ calls K (x ∷ xs) T.client →
          is_idle (hand K (x ∷ xs) T.client) ≡ true) →
          a.number ≡ cl'.calls → is_idle cl'.hand ≡ true
      back k f q = subst (λ (i : ℕ). is_idle (hand K (x ∷ xs) i) ≡ true) k.0
          (f (k.1 ∙ q ∙ ap (calls K (x ∷ xs)) (sym k.0)))

      go : MovedAt K.s a.client x xs → (a.number ≡ cl'.calls → is_idle cl'.hand ≡ true) → Out T
      go (kept e f) i = let r = refused-view (result K x xs) (f act) in
          subst (λ (y : Result). Out (follow y (in_complete cl'.hand) (length xs) a)) (sym r.1)
          (h (λ k. subst (λ (z : Client). is_idle z.hand ≡ true) e (i (k ∙ sym (ap (λ (z : Client). z.calls) e)))))
      go (wbegan r n' s b d l e) i = absurd (no_some (sym (ap mover s) ∙ m))
      go (rbegan s b d e) i = absurd (no_some (sym (ap mover s) ∙ m))
      go (quit s v d e) i = subst (λ (y : Result). Out (follow y (in_complete cl'.hand) (length xs) a)) (sym v)
          (or_right (is_some a.over) true refl)
      go (took p lent b o s rd fit e v) i =
          let t = turn_turned K.s a.client (cli K xs a.client) p in
          let idle-now = i (n ∙ sym t.calls ∙ sym (ap (λ (z : Client). z.calls) e)) in
          subst (λ (y : Result). Out (follow y (in_complete cl'.hand) (length xs) a)) (sym v)
          (update_closed K.s a.client a (length xs) (in_complete cl'.hand) (cli K xs a.client) p.head.server p.body _ _
          (hand K xs a.client) fit.busy fit.busy (subst (λ (z : Client). is_idle z.hand ≡ true) e idle-now))

  step_settled : (x : StepOf K) (xs : Steps K) (a : Logged) → Settled xs a → (st : Step) → x.step ≡ st → Settled (x ∷ xs) (touched K x xs st a)
  step_settled x xs a h = touched_case K (Settled (x ∷ xs)) x xs a (λ k act n. own_settled x xs a h n k act) (λ f. same-call x xs a h f)

  -- ---- a new call

  begin_settled : {ys : Steps K} (a : Logged) (b : Bool) (f : b ≡ true → CallOk K ys a blank_stamp) → (b ≡ true → Settled ys a) → (g : Signed K ys) →
      In g (begin_signed K a b f) → Settled ys g.call
  unfolding begin_signed In
  begin_settled {ys} a true f h g (inl e) = subst (λ (z : Signed K ys). Settled ys z.call) (sym e) (h refl)
  begin_settled a true f h g (inr k) = absurd k
  begin_settled a false f h g k = absurd k

  -- the hand of a client that has just begun is not idle
  begun_settled : (x : StepOf K) (xs : Steps K) (c : ℕ) (w : Option (List ℕ)) → acting c x.step ≡ true → accepted (result K x xs) ≡ true →
      (mover x.step ≡ some c → ⊥) →
      Settled (x ∷ xs) (entered c (suc (calls K xs c)) w (length xs))
  unfolding Settled entered begun is_idle awaits
  begun_settled x xs c w act acc f hyp = go (moved K.s c x xs)
    where
      cl' : Client
      cl' = cli K (x ∷ xs) c

      go : MovedAt K.s c x xs → Out (entered c (suc (calls K xs c)) w (length xs))
      go (kept e k) = clash acc (k act)
      go (wbegan r n s b i m e) = clash (subst (λ (z : Client). is_idle z.hand ≡ true) e (hyp (sym (ap (λ (z : Client). z.calls) e)))) refl
      go (rbegan s b i e) = clash (subst (λ (z : Client). is_idle z.hand ≡ true) e (hyp (sym (ap (λ (z : Client). z.calls) e)))) refl
      go (quit s b i e) = absurd (f (ap mover s))
      go (took p lent b o s rd fit e v) = absurd (f (ap mover s))

  new_settled : (x : StepOf K) (xs : Steps K) (st : Step) (e : x.step ≡ st) (g : Signed K (x ∷ xs)) → In g (new_signed K x xs st e) →
      Settled (x ∷ xs) g.call
  unfolding new_signed In
  new_settled x xs (write c r n) e g i = begin_settled _ (accepted (result K x xs)) (new_write K x xs c r n e)
      (λ acc. begun_settled x xs c (some r) (ap (acting c) e ∙ eq-eqb c c refl) acc
      (λ k. no_some (sym (ap mover e) ∙ k))) g i
  new_settled x xs (read c) e g i = begin_settled _ (accepted (result K x xs)) (new_read K x xs c e)
      (λ acc. begun_settled x xs c none (ap (acting c) e ∙ eq-eqb c c refl) acc
      (λ k. no_some (sym (ap mover e) ∙ k))) g i
  new_settled x xs (make c b o) e g i = absurd i
  new_settled x xs (take-reply c lent b o) e g i = absurd i
  new_settled x xs (give-up c) e g i = absurd i
  new_settled x xs (serve b p o) e g i = absurd i

  pub all_settled : (xs : Steps K) (fair : Fair K xs) (g : Signed K xs) → In g (story K xs fair) → Settled xs g.call
  unfolding story In step_signed
  all_settled [] fair g i = absurd i
  all_settled (x ∷ xs) fair g i =
      go (split_in g (new_signed K x xs x.step refl) (map (step_signed K x xs fair) (story K xs (past K x xs fair))) i)
      (λ h k. all_settled xs (past K x xs fair) h k)
    where
      go : In g (new_signed K x xs x.step refl) ⊎ In g (map (step_signed K x xs fair) (story K xs (past K x xs fair))) →
          ((h : Signed K xs) → In h (story K xs (past K x xs fair)) → Settled xs h.call) → Settled (x ∷ xs) g.call
      go (inl k) f = new_settled x xs x.step refl g k
      go (inr k) f = let r = map_in (step_signed K x xs fair) (story K xs (past K x xs fair)) g k in
          subst (λ (z : Signed K (x ∷ xs)). Settled (x ∷ xs) z.call) (sym r.2) (step_settled x xs r.0.call (f r.0 r.1) x.step refl)
