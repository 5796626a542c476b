-- The log with stamps: a step begins a known call or carries every known call on, by what its result does to the call of its client.
-- Assumes nothing.
use mathlib.Core.Path.{◌≡◌, refl, sym, ap, ◌∙◌, subst}
use mathlib.Core.Bool.{Bool, true, false, cond}
use mathlib.Core.List.{List, [], ◌∷◌, map}
use mathlib.Core.Option.{none, some}
use mathlib.Core.Logic.{inl}
use Prim.Native.Nat.{ℕ, suc}
use native.Mathlib.Omega.{arith}
use lib.ListN.{length}
use borrow.Author.Tests.{eq-eqb}
use Rattle.protocol.specs.declared.Stamp.{Stamp}
use Rattle.protocol.specs.Values.{blank_stamp}
use Rattle.protocol.specs.Packet.{Packet, decode}
use Rattle.protocol.specs.Client.{Client, Hand, Result, idle, clocking, storing, completing, collecting, filtering, repairing, onto, awaits, is_idle}
use Rattle.protocol.specs.Client.{accepted, in_complete}
use Rattle.runs.specs.Runs.{Lent, Step, write, read, make, take-reply, give-up, serve}
use Rattle.atomicity.specs.Lists.{Ever, Always, In}
use Rattle.atomicity.specs.Steps.{Stamped, stamped_from, stamped_by, stamped_at}
use Rattle.atomicity.specs.Premises.{PartyOf}
use Rattle.atomicity.specs.Claim.{Logged, follow, leave}
use Rattle.atomicity.proofs.Util.{clash, no_some}
use Rattle.atomicity.proofs.Model.{account, turn}
use Rattle.atomicity.proofs.Setup.{Setup, Steps, StepOf, Fair, hand, calls, cli, result}
use Rattle.atomicity.proofs.Moves.{Fits, kept, wbegan, rbegan, quit, took, moved, acting, MovedAt}
use Rattle.atomicity.proofs.Rounds.{turn_turned}
use Rattle.atomicity.proofs.Positions.{since, from}
use Rattle.atomicity.proofs.Invariant.{Hands, hands_all, outcome}
use Rattle.atomicity.proofs.Results.{Outcome}
use Rattle.atomicity.proofs.Calls.{Cur, CallOk, Keeps, keeps-refl, carry}
use Rattle.atomicity.proofs.Replies.{call_follows}
use Rattle.atomicity.proofs.Following.{Follows}
use Rattle.atomicity.proofs.Shape.{begun_at, effect, entered, news, refused-view, touched, mover, touched_case}

module _ (K : Setup) where
  -- a known call
  pub record Signed (xs : Steps K) : Type 0 where
    pub call : Logged
    pub stamp : Stamp
    pub ok : CallOk K xs call stamp

  pub new_write : (x : StepOf K) (xs : Steps K) (c : ℕ) (r n : List ℕ) → x.step ≡ write c r n → accepted (result K x xs) ≡ true →
      CallOk K (x ∷ xs) (entered c (suc (calls K xs c)) (some r) (length xs)) blank_stamp
  unfolding Cur entered
  new_write x xs c r n st acc = go (moved K.s c x xs)
    where
      go : MovedAt K.s c x xs →
          CallOk K (x ∷ xs) (entered c (suc (calls K xs c)) (some r) (length xs)) blank_stamp
      go (kept e f) = clash acc (f (ap (acting c) st ∙ eq-eqb c c refl))
      go (wbegan r' n' s b d l e) = let z : r' ≡ r = write_inj (sym s ∙ st) in begun_at K x xs c _ (some r) e (λ o. (o, ap some (sym z)))
        where
          write_inj : write c r' n' ≡ write c r n → r' ≡ r
          write_inj e = cc
      go (rbegan s b d e) = absurd (let z : ◌≡◌ {A = ℕ} 0 1 = cc in omega arith)
      go (quit s b d e) = absurd (let z : ◌≡◌ {A = ℕ} 0 1 = cc in omega arith)
      go (took p lent b o s rd fit e f) = absurd (let z : ◌≡◌ {A = ℕ} 0 1 = cc in omega arith)

  pub new_read : (x : StepOf K) (xs : Steps K) (c : ℕ) → x.step ≡ read c → accepted (result K x xs) ≡ true →
      CallOk K (x ∷ xs) (entered c (suc (calls K xs c)) none (length xs)) blank_stamp
  unfolding Cur entered
  new_read x xs c st acc = go (moved K.s c x xs)
    where
      go : MovedAt K.s c x xs →
          CallOk K (x ∷ xs) (entered c (suc (calls K xs c)) none (length xs)) blank_stamp
      go (kept e f) = clash acc (f (ap (acting c) st ∙ eq-eqb c c refl))
      go (wbegan r' n' s b d l e) = absurd (let z : ◌≡◌ {A = ℕ} 0 1 = cc in omega arith)
      go (rbegan s b d e) = begun_at K x xs c _ none e (λ o. (o, refl))
      go (quit s b d e) = absurd (let z : ◌≡◌ {A = ℕ} 0 1 = cc in omega arith)
      go (took p lent b o s rd fit e f) = absurd (let z : ◌≡◌ {A = ℕ} 0 1 = cc in omega arith)

  -- the call that begins, if it is accepted
  unfoldable pub begin_signed : {xs : Steps K} (a : Logged) (b : Bool) → (b ≡ true → CallOk K xs a blank_stamp) → List (Signed xs)
  begin_signed a true f = record { call = a; stamp = blank_stamp; ok = f refl } ∷ []
  begin_signed a false f = []

  unfoldable pub new_signed : (x : StepOf K) (xs : Steps K) (st : Step) → x.step ≡ st → List (Signed (x ∷ xs))
  new_signed x xs (write c r n) e = begin_signed (entered c (suc (calls K xs c)) (some r) (length xs)) (accepted (result K x xs))
      (new_write x xs c r n e)
  new_signed x xs (read c) e = begin_signed (entered c (suc (calls K xs c)) none (length xs)) (accepted (result K x xs)) (new_read x xs c e)
  new_signed x xs (make c b o) e = []
  new_signed x xs (take-reply c lent b o) e = []
  new_signed x xs (give-up c) e = []
  new_signed x xs (serve b p o) e = []

  begin-call : {xs : Steps K} (a : Logged) (b : Bool) (f : b ≡ true → CallOk K xs a blank_stamp) →
      map (λ (g : Signed xs). g.call) (begin_signed a b f) ≡ cond b (a ∷ []) []
  unfolding begin_signed
  begin-call a true f = refl
  begin-call a false f = refl

  pub new-calls : (x : StepOf K) (xs : Steps K) (st : Step) (e : x.step ≡ st) →
      map (λ (g : Signed (x ∷ xs)). g.call) (new_signed x xs st e) ≡ news K x xs st
  unfolding new_signed news
  new-calls x xs (write c r n) e = begin-call _ (accepted (result K x xs)) (new_write x xs c r n e)
  new-calls x xs (read c) e = begin-call _ (accepted (result K x xs)) (new_read x xs c e)
  new-calls x xs (make c b o) e = refl
  new-calls x xs (take-reply c lent b o) e = refl
  new-calls x xs (give-up c) e = refl
  new-calls x xs (serve b p o) e = refl

  -- ---- a call that takes a reply, or is given up

  leave_cur : (ys : Steps K) (a : Logged) (σ : Stamp) (h : Hand) → is_idle h ≡ false → Cur K ys a σ h → a.over ≡ none
  unfolding Cur is_idle awaits
  leave_cur ys a σ idle e c = clash refl e
  leave_cur ys a σ (clocking r n k) e c = c.0.going
  leave_cur ys a σ (storing d g) e c = c.0.going
  leave_cur ys a σ (completing d) e c = c.1
  leave_cur ys a σ (collecting g) e c = c.0.going
  leave_cur ys a σ (filtering cs g) e c = c.0.going
  leave_cur ys a σ (repairing d r) e c = c.0.going

  leave-ok : (ys : Steps K) (a : Logged) (σ : Stamp) → a.over ≡ none → hand K ys a.client ≡ idle → CallOk K ys a σ → CallOk K ys (leave a) σ
  unfolding Cur
  leave-ok ys a σ o i h = record {
    base = record {
      begun-lt = h.base.begun-lt;
      number-le = h.base.number-le;
      ended = h.base.ended;
      write = h.base.write;
      read = λ e p q. absurd (no_some (sym o ∙ q));
      reaches = h.base.reaches;
      reach-lt = h.base.reach-lt;
      leaves = λ q. o;
    };
    current = λ n. subst (Cur K ys (leave a) σ) (sym i) tt;
  }

  abbrev Goal : StepOf K → Steps K → Logged → Stamp → Logged → Type 0
  Goal x xs a σ b = (τ : Stamp) × CallOk K (x ∷ xs) b τ × Keeps K a σ b τ

  -- the call that takes the reply
  taken-call : (x : StepOf K) (xs : Steps K) → Fair K (x ∷ xs) → (a : Logged) (σ : Stamp) → CallOk K xs a σ → a.number ≡ calls K xs a.client →
      (p : Packet) (lent : Lent) (b o : List ℕ) →
      x.step ≡ take-reply a.client lent b o → decode b ≡ some p → Fits K.s a.client (cli K xs a.client) p →
      cli K (x ∷ xs) a.client ≡ (turn K.s a.client (cli K xs a.client) p).client →
      result K x xs ≡ (turn K.s a.client (cli K xs a.client) p).result →
      Goal x xs a σ (effect K x xs a.client a)
  unfolding Always Outcome Hands Ever Follows stamped_by
  taken-call x xs fair a σ h n p lent b o st rd fit e v =
      let c = a.client in
      let cl = cli K xs c in
      let t = turn_turned K.s c cl p in
      let hs = hands_all K xs fair.1 in
      let good : K.correct.client c ≡ true = subst (λ (y : Step). PartyOf K.s (account K.s) K.correct xs y) st fair.0.party in
      let fine : accepted (result K x xs) ≡ true = subst (λ (z : Result). accepted z ≡ true) (sym v) t.fine in
      let same : calls K xs c ≡ calls K (x ∷ xs) c = sym (ap (λ (z : Client). z.calls) e ∙ t.calls) in
      let u = outcome K x xs fair hs.0 hs.1 c good p lent b o st rd fit fine in
      let r = call_follows K x xs a σ same h.base (from K.s c xs) cl p.head.server p.body _ _ cl.hand refl fit.busy (hs.0 c good)
      (h.current n)
      (record {
        result = u.1;
        marked =
            λ m q i. inl (
              here m (subst (λ (z : Client). In m (stamped_from c cl.hand z.hand)) (sym e) i),
              ap (λ (d : ℕ). length (since K.s d xs)) q,
            );
      }) in
      subst (λ (z : Client). (τ : Stamp) × CallOk K (x ∷ xs) (follow (result K x xs) (in_complete z.hand) (length xs) a) τ
      × Keeps K a σ (follow (result K x xs) (in_complete z.hand) (length xs) a) τ) (sym e)
      (subst (λ (y : Result). (τ : Stamp) × CallOk K (x ∷ xs) (follow y (in_complete (turn K.s c cl p).client.hand) (length xs) a) τ
      × Keeps K a σ (follow y (in_complete (turn K.s c cl p).client.hand) (length xs) a) τ) (sym v)
      (r.0, record { base = r.1; current = λ k. at-hand r.3 e r.2 }, r.3))
    where
      here : (m : Stamped) → In m (stamped_from a.client (hand K xs a.client)
          (hand K (x ∷ xs) a.client)) → In m (stamped_at K.s (account K.s) x xs)
      here m i = subst (λ (y : Step). In m (stamped_by (cli K xs) (cli K (x ∷ xs)) y)) (sym st) i

      at-hand : {d : Logged} {τ : Stamp} {cl : Client} → Keeps K a σ d τ → cli K (x ∷ xs) a.client ≡ cl →
          Cur K (x ∷ xs) d τ cl.hand → Cur K (x ∷ xs) d τ (hand K (x ∷ xs) d.client)
      at-hand {d} {τ} {cl} k e c = subst (λ (i : ℕ). Cur K (x ∷ xs) d τ (hand K (x ∷ xs) i))
          (sym k.client) (subst (λ (y : Client). Cur K (x ∷ xs) d τ y.hand) (sym e) c)

  -- the client's own call, at its own take or give-up
  own-call : (x : StepOf K) (xs : Steps K) → Fair K (x ∷ xs) → (a : Logged) (σ : Stamp) → CallOk K xs a σ → a.number ≡ calls K xs a.client →
      mover x.step ≡ some a.client → acting a.client x.step ≡ true →
      Goal x xs a σ (effect K x xs a.client a)
  unfolding onto
  own-call x xs fair a σ h n m act = go (moved K.s a.client x xs)
    where
      cl' : Client
      cl' = cli K (x ∷ xs) a.client

      go : MovedAt K.s a.client x xs → Goal x xs a σ (effect K x xs a.client a)
      go (kept e f) = let no = f act in let r = refused-view (result K x xs) no in
          subst (λ (y : Result). Goal x xs a σ (follow y (in_complete (hand K (x ∷ xs) a.client)) (length xs) a)) (sym r.1)
          (σ, carry K x xs a σ h (λ p lent b o s rd acc q. clash acc no), keeps-refl K a σ)
      go (wbegan r n' s b d l e) = absurd (no_some (sym (ap mover s) ∙ m))
      go (rbegan s b d e) = absurd (no_some (sym (ap mover s) ∙ m))
      go (quit s v d e) =
          let k = carry K x xs a σ h (λ p lent b o s' rd acc q. (let z : ◌≡◌ {A = ℕ} 0 1 = cc in omega arith)) in
          subst (λ (y : Result). Goal x xs a σ (follow y (in_complete (hand K (x ∷ xs) a.client)) (length xs) a)) (sym v) (
            σ,
            leave-ok (x ∷ xs) a σ (leave_cur xs a σ (hand K xs a.client) d (h.current n)) (ap (λ (z : Client). z.hand) e) k,
            record { client = refl; number = refl; begun = refl; wrote = refl; reached = λ e. (refl, refl) },
          )
      go (took p lent b o s rd fit e v) = taken-call x xs fair a σ h n p lent b o s rd fit e v

  pub step_call : (x : StepOf K) (xs : Steps K) → Fair K (x ∷ xs) → (a : Logged) (σ : Stamp) → CallOk K xs a σ → (st : Step) → x.step ≡ st →
      Goal x xs a σ (touched K x xs st a)
  step_call x xs fair a σ h = touched_case K (Goal x xs a σ) x xs a (λ k act n. own-call x xs fair a σ h n k act)
      (λ f. (σ, carry K x xs a σ h (λ p lent b o s rd acc n. f (ap mover s) n), keeps-refl K a σ))
