-- Calls that are among the known ones: the call in hand; and that of a write whose nonce was shown, which has reached its complete round.
-- Assumes nothing.
use mathlib.Core.Path.{◌≡◌, refl, sym, ap, ◌∙◌, subst}
use mathlib.Core.Bool.{Bool, true, false}
use mathlib.Core.List.{List, [], ◌∷◌, ◌++◌, map}
use mathlib.Core.Option.{some}
use mathlib.Core.Logic.{◌⊎◌, inl, inr}
use Prim.Native.Nat.{ℕ, suc, ◌<◌, ◌≤◌}
use native.Mathlib.Omega.{arith}
use lib.ListN.{length}
use Rattle.protocol.specs.Values.{Candidate, blank_stamp, is_some}
use Rattle.protocol.specs.Client.{Client, Hand, Result, begun, onto, awaits, is_idle, accepted}
use Rattle.runs.specs.Runs.{Step, write, read, make, take-reply, give-up, serve}
use Rattle.runs.proofs.ValueRuns.{now_values}
use Rattle.atomicity.specs.Lists.{Ever, In}
use Rattle.atomicity.specs.Steps.{Stamped}
use Rattle.atomicity.specs.Claim.{Logged}
use Rattle.atomicity.proofs.Util.{clash, is_some_lem}
use Rattle.atomicity.proofs.Model.{marks}
use Rattle.atomicity.proofs.Setup.{Setup, Steps, StepOf, Fair, Show, hand, calls, cli, result}
use Rattle.atomicity.proofs.Moves.{kept, wbegan, rbegan, quit, took, moved, MovedAt}
use Rattle.atomicity.proofs.Rounds.{turn_turned}
use Rattle.atomicity.proofs.Marks.{marks-up}
use Rattle.atomicity.proofs.Rising.{by-stamp}
use Rattle.atomicity.proofs.Begun.{Known, known}
use Rattle.atomicity.proofs.Invariant.{show-hand}
use Rattle.atomicity.proofs.Calls.{mark_at, Cur, CallOk, ShownBy}
use Rattle.atomicity.proofs.Shape.{entered}
use Rattle.atomicity.proofs.Logs.{Signed, begin_signed, new_signed, new_write, new_read}
use Rattle.atomicity.proofs.Story.{past, step_signed, step_keeps, story, story-next}

module _ (K : Setup) where
  -- ---- the call in hand

  pub record Has (xs : Steps K) (fair : Fair K xs) (c : ℕ) : Type 0 where
    pub known : Signed K xs
    pub among : In known (story K xs fair)
    pub client : known.call.client ≡ c
    pub number : known.call.number ≡ calls K xs c

  begin_has : {ys : Steps K} (a : Logged) (b : Bool) (f : b ≡ true → CallOk K ys a blank_stamp) (l : List (Signed K ys)) → b ≡ true → (g : Signed K ys)
      × In g (begin_signed K a b f ++ l) × (g.call ≡ a)
  unfolding begin_signed In
  begin_has a true f l e = (record { call = a; stamp = blank_stamp; ok = f refl }, inl refl, refl)
  begin_has a false f l e = clash e refl

  new_has : (x : StepOf K) (xs : Steps K) (c : ℕ) (st : Step) (e : x.step ≡ st) (l : List (Signed K (x ∷ xs))) → accepted (result K x xs) ≡ true →
      ((r n : List ℕ) × (st ≡ write c r n)) ⊎ (st ≡ read c) →
      (g : Signed K (x ∷ xs)) × In g (new_signed K x xs st e ++ l) × (g.call.client ≡ c) × (g.call.number ≡ suc (calls K xs c))
  unfolding new_signed entered
  new_has x xs c (write d r n) e l acc s = let g = begin_has _ (accepted (result K x xs)) (new_write K x xs d r n e) l acc in
      let q : d ≡ c = same s in
      (g.0, g.1, ap (λ (a : Logged). a.client) g.2 ∙ q, ap (λ (a : Logged). a.number) g.2 ∙ ap (λ (i : ℕ). suc (calls K xs i)) q)
    where
      same : ((r' n' : List ℕ) × (write d r n ≡ write c r' n')) ⊎ (write d r n ≡ read c) → d ≡ c
      same (inl z) = let y = z.2 in cc
      same (inr z) = absurd (let y : ◌≡◌ {A = ℕ} 0 1 = cc in omega arith)
  new_has x xs c (read d) e l acc s = let g = begin_has _ (accepted (result K x xs)) (new_read K x xs d e) l acc in let q : d ≡ c = same s in
      (g.0, g.1, ap (λ (a : Logged). a.client) g.2 ∙ q, ap (λ (a : Logged). a.number) g.2 ∙ ap (λ (i : ℕ). suc (calls K xs i)) q)
    where
      same : ((r' n' : List ℕ) × (read d ≡ write c r' n')) ⊎ (read d ≡ read c) → d ≡ c
      same (inl z) = absurd (let y = z.2 in let w : ◌≡◌ {A = ℕ} 0 1 = cc in omega arith)
      same (inr z) = cc
  new_has x xs c (make d b o) e l acc (inl z) = absurd (let y = z.2 in let w : ◌≡◌ {A = ℕ} 0 1 = cc in omega arith)
  new_has x xs c (make d b o) e l acc (inr z) = absurd (let w : ◌≡◌ {A = ℕ} 0 1 = cc in omega arith)
  new_has x xs c (take-reply d lent b o) e l acc (inl z) = absurd (let y = z.2 in let w : ◌≡◌ {A = ℕ} 0 1 = cc in omega arith)
  new_has x xs c (take-reply d lent b o) e l acc (inr z) = absurd (let w : ◌≡◌ {A = ℕ} 0 1 = cc in omega arith)
  new_has x xs c (give-up d) e l acc (inl z) = absurd (let y = z.2 in let w : ◌≡◌ {A = ℕ} 0 1 = cc in omega arith)
  new_has x xs c (give-up d) e l acc (inr z) = absurd (let w : ◌≡◌ {A = ℕ} 0 1 = cc in omega arith)
  new_has x xs c (serve b p o) e l acc (inl z) = absurd (let y = z.2 in let w : ◌≡◌ {A = ℕ} 0 1 = cc in omega arith)
  new_has x xs c (serve b p o) e l acc (inr z) = absurd (let w : ◌≡◌ {A = ℕ} 0 1 = cc in omega arith)

  pub has-call : (xs : Steps K) (fair : Fair K xs) (c : ℕ) → is_idle (hand K xs c) ≡ false → Has xs fair c
  unfolding now_values story is_idle awaits begun onto
  has-call [] fair c b = clash refl b
  has-call (x ∷ xs) fair c b = go (moved K.s c x xs) (λ k. has-call xs (past K x xs fair) c k)
    where
      cl' : Client
      cl' = cli K (x ∷ xs) c

      on : calls K xs c ≡ cl'.calls → Has xs (past K x xs fair) c → Has (x ∷ xs) fair c
      on q h = let k = step_keeps K x xs fair h.known in
          record {
            known = step_signed K x xs fair h.known;
            among = story-next K x xs fair h.known h.among;
            client = k.client ∙ h.client;
            number = k.number ∙ h.number ∙ q;
          }

      began : cl'.calls ≡ suc (calls K xs c) → accepted (result K x xs) ≡ true → ((r n : List ℕ) × (x.step ≡ write c r n)) ⊎ (x.step ≡ read c) →
          Has (x ∷ xs) fair c
      began q acc s = let g = new_has x xs c x.step refl (map (step_signed K x xs fair) (story K xs (past K x xs fair))) acc s in
          record { known = g.0; among = g.1; client = g.2; number = g.3 ∙ sym q }

      go : MovedAt K.s c x xs → (is_idle (hand K xs c) ≡ false → Has xs (past K x xs fair) c) → Has (x ∷ xs) fair c
      go (kept e _) f = on (sym (ap (λ (z : Client). z.calls) e)) (f (subst (λ (z : Client). is_idle z.hand ≡ false) e b))
      go (wbegan r n s a i l e) f = began (ap (λ (z : Client). z.calls) e) (subst (λ (v : Result). accepted v ≡ true) (sym a) refl) (inl (r, n, s))
      go (rbegan s a i e) f = began (ap (λ (z : Client). z.calls) e) (subst (λ (v : Result). accepted v ≡ true) (sym a) refl) (inr s)
      go (quit s a i e) f = clash refl (subst (λ (z : Client). is_idle z.hand ≡ false) e b)
      go (took p lent b' o s rd fit e v) f = on (sym (ap (λ (z : Client). z.calls) e ∙ (turn_turned K.s c (cli K xs c) p).calls)) (f fit.busy)

  -- ---- a write that was shown

  -- t: its complete round had begun when fewer steps were done
  pub record Counts (xs : Steps K) (fair : Fair K xs) (n : List ℕ) (t : ℕ) : Type 0 where
    pub known : Signed K xs
    pub among : In known (story K xs fair)
    pub when : ℕ
    pub reached : known.call.reached ≡ some when
    pub early : when < t
    pub write : Stamped
    pub made : In write (marks K.s xs)
    pub nonce_is : write.nonce ≡ n
    pub stamp_is : write.stamp ≡ known.stamp
    pub wrote : known.call.wrote ≡ some write.content

  counts_up : (x : StepOf K) (xs : Steps K) (fair : Fair K (x ∷ xs)) (n : List ℕ) (t u : ℕ) → t ≤ u →
      Counts xs (past K x xs fair) n t → Counts (x ∷ xs) fair n u
  counts_up x xs fair n t u l h = let k = step_keeps K x xs fair h.known in let r = k.reached (ap is_some h.reached) in
      record {
        known = step_signed K x xs fair h.known;
        among = story-next K x xs fair h.known h.among;
        when = h.when;
        reached = r.0 ∙ h.reached;
        early = omega (arith, h.early, l);
        write = h.write;
        made = marks-up K.s h.write x xs h.made;
        nonce_is = h.nonce_is;
        stamp_is = h.stamp_is ∙ sym r.1;
        wrote = k.wrote ∙ h.wrote;
      }

  pub shown-call : (xs : Steps K) (fair : Fair K xs) (c : ℕ) (n : List ℕ) → Ever (Show K c n) xs → Counts xs fair n (length xs)
  unfolding Ever Cur Known is_idle awaits
  shown-call [] fair c n h = absurd h
  shown-call (x ∷ xs) fair c n (inl h) = counts_up x xs fair n (length xs) (suc (length xs)) (omega arith)
      (let v = show-hand K c n x xs h in
      let a = has-call xs (past K x xs fair) c (subst (λ (z : Hand). is_idle z ≡ false) (sym v.1) refl) in
      let g = a.known in
      let cur = subst (Cur K xs g.call g.stamp) (ap (hand K xs) a.client ∙ v.1)
      (g.ok.current (a.number ∙ ap (calls K xs) (sym a.client))) in
      let W = cur.0.own in
      let at = is_some_lem g.call.reached cur.3 in
      let f = subst (Known K.s xs c) v.1 (known K.s xs c) in
      let made = mark_at K W.write g.call.begun xs W.since-when in
      let q : W.write.stamp ≡ f.0.stamp = W.stamp_is ∙ sym cur.0.hand_is ∙ ap (λ (z : Candidate). z.stamp) f.3 in
      let e : W.write ≡ f.0 = by-stamp K.s xs W.write f.0 made f.1 q in
      record {
        known = g;
        among = a.among;
        when = at.0;
        reached = at.1;
        early = g.ok.base.reach-lt at.0 at.1;
        write = W.write;
        made = made;
        nonce_is = ap (λ (m : Stamped). m.nonce) e ∙ sym (ap (λ (z : Candidate). z.nonce) f.3) ∙ v.2;
        stamp_is = W.stamp_is;
        wrote = cur.0.content_is ∙ ap some (sym W.content_is);
      })
  shown-call (x ∷ xs) fair c n (inr h) =
      counts_up x xs fair n (length xs) (suc (length xs)) (omega arith) (shown-call xs (past K x xs fair) c n h)

  -- shown when a step was done that e steps came before
  pub shown_then : (xs : Steps K) (fair : Fair K xs) (m : Stamped) (e : ℕ) → ShownBy K e m xs → Counts xs fair m.nonce (suc e)
  unfolding Ever
  shown_then [] fair m e h = absurd h
  shown_then (x ∷ xs) fair m e (inl h) =
      subst (λ (t : ℕ). Counts (x ∷ xs) fair m.nonce (suc t)) h.0 (shown-call (x ∷ xs) fair m.client m.nonce h.1)
  shown_then (x ∷ xs) fair m e (inr h) = counts_up x xs fair m.nonce (suc e) (suc e) (omega arith) (shown_then xs (past K x xs fair) m e h)
