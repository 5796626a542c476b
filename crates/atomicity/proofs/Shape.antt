-- The shape of the log: a step changes the calls of its client that it touches and adds the one that it begins.
-- Assumes nothing.
use mathlib.Core.Path.{◌≡◌, refl, sym, ap, ◌∙◌, subst}
use mathlib.Core.Bool.{Bool, true, false, cond, ◌&&◌}
use mathlib.Core.List.{List, [], ◌∷◌, ◌++◌, map}
use mathlib.Core.Option.{Option, none, some, some-injective}
use Prim.Native.Nat.{ℕ, suc}
use native.Mathlib.Omega.{arith}
use lib.Dec.{eqb}
use lib.ListN.{length}
use borrow.Author.Tests.{eqb-true, eq-eqb}
use Rattle.protocol.specs.Values.{blank_stamp}
use Rattle.protocol.specs.Client.{Client, Hand, Result, refused, more, written, gave, gave_blank, aborted, begun, accepted, in_complete}
use Rattle.runs.specs.Runs.{Step, write, read, make, take-reply, give-up, serve}
use Rattle.format.proofs.Answers.{at-cond}
use Rattle.atomicity.specs.Claim.{Logged, change, follow, note, log}
use Rattle.atomicity.proofs.Util.{clash, no_some, and_left, and_right, and_intro}
use Rattle.atomicity.proofs.Model.{account}
use Rattle.atomicity.proofs.Setup.{Setup, Steps, StepOf, hand, calls, cli, result}
use Rattle.atomicity.proofs.Positions.{since_new}
use Rattle.atomicity.proofs.Moves.{acting}
use Rattle.atomicity.proofs.Calls.{Open, Cur, CallOk}

-- ---- the shape of the log

unfoldable pub touch : ℕ → ℕ → (Logged → Logged) → Logged → Logged
touch c n f a = cond (eqb a.client c && eqb a.number n) (f a) a

change-map : (c n : ℕ) (f : Logged → Logged) (cs : List Logged) → change c n f cs ≡ map (touch c n f) cs
unfolding change touch
change-map c n f [] = refl
change-map c n f (a ∷ cs) = ap (λ (l : List Logged). touch c n f a ∷ l) (change-map c n f cs)

map_id : (cs : List Logged) → cs ≡ map (λ a. a) cs
map_id [] = refl
map_id (a ∷ cs) = ap (λ (l : List Logged). a ∷ l) (map_id cs)

begin_shape : (b : Bool) (a : Logged) (cs : List Logged) → ◌≡◌ {A = List Logged} (cond b (a ∷ cs) cs) (cond b (a ∷ []) [] ++ map (λ z. z) cs)
begin_shape true a cs = ap (λ (l : List Logged). a ∷ l) (map_id cs)
begin_shape false a cs = map_id cs

unfoldable pub entered : ℕ → ℕ → Option (List ℕ) → ℕ → Logged
entered c n w t = record { client = c; number = n; wrote = w; begun = t; reached = none; over = none; answer = none; gave_up = false }

pub refused-view : (v : Result) → accepted v ≡ false → (n : ℕ) × (v ≡ refused n)
refused-view (refused n) e = (n, refl)
refused-view more e = clash refl e
refused-view (written n) e = clash refl e
refused-view (gave n r) e = clash refl e
refused-view gave_blank e = clash refl e
refused-view (aborted b) e = clash refl e

-- the client that takes a reply or gives up
abbrev pub mover : Step → Option ℕ
mover (write c r n) = none
mover (read c) = none
mover (make c b o) = none
mover (take-reply c lent b o) = some c
mover (give-up c) = some c
mover (serve b p o) = none

module _ (K : Setup) where
  abbrev pub Log : Steps K → List Logged
  Log xs = log (account K.s) xs

  -- what the step does to the call of client c
  abbrev pub effect : StepOf K → Steps K → ℕ → Logged → Logged
  effect x xs c = follow (result K x xs) (in_complete (hand K (x ∷ xs) c)) (length xs)

  unfoldable pub touched : StepOf K → Steps K → Step → Logged → Logged
  touched x xs (write c r n) a = a
  touched x xs (read c) a = a
  touched x xs (make c b o) a = a
  touched x xs (take-reply c lent b o) a = touch c (calls K xs c) (effect x xs c) a
  touched x xs (give-up c) a = touch c (calls K xs c) (effect x xs c) a
  touched x xs (serve b p o) a = a

  -- a step changes its mover's present call, and leaves any other as it is
  module _ (P : Logged → Type 0) (x : StepOf K) (xs : Steps K) (a : Logged)
      (own : mover x.step ≡ some a.client → acting a.client x.step ≡ true → a.number ≡ calls K xs a.client →
      P (effect x xs a.client a))
      (other : (mover x.step ≡ some a.client → a.number ≡ calls K xs a.client → ⊥) → P a) where
    touch_case : (c : ℕ) → mover x.step ≡ some c → (a.client ≡ c → acting a.client x.step ≡ true) → P
        (touch c (calls K xs c) (effect x xs c) a)
    unfolding touch
    touch_case c m act = at-cond (eqb a.client c && eqb a.number (calls K xs c)) _ a P
        (λ t. let q : a.client ≡ c = eqb-true _ _ (and_left (eqb a.client c) _ t) in
        subst (λ (i : ℕ). P (effect x xs i a)) q
        (own (m ∙ ap some (sym q)) (act q) (eqb-true _ _ (and_right (eqb a.client c) _ t) ∙ ap (calls K xs) (sym q))))
        (λ t. other (λ k n. let q : a.client ≡ c = some-injective _ _ (sym k ∙ m) in
        clash (and_intro _ _ (eq-eqb a.client c q) (eq-eqb a.number (calls K xs c) (n ∙ ap (calls K xs) q))) t))

    pub touched_case : (st : Step) → x.step ≡ st → P (touched x xs st a)
    unfolding touched
    touched_case (write c r n) e = other (λ k n. no_some (sym (ap mover e) ∙ k))
    touched_case (read c) e = other (λ k n. no_some (sym (ap mover e) ∙ k))
    touched_case (make c b o) e = other (λ k n. no_some (sym (ap mover e) ∙ k))
    touched_case (take-reply c lent b o) e = touch_case c (ap mover e) (λ q. ap (acting a.client) e ∙ eq-eqb _ _ q)
    touched_case (give-up c) e = touch_case c (ap mover e) (λ q. ap (acting a.client) e ∙ eq-eqb _ _ q)
    touched_case (serve b p o) e = other (λ k n. no_some (sym (ap mover e) ∙ k))

  unfoldable pub news : StepOf K → Steps K → Step → List Logged
  news x xs (write c r n) = cond (accepted (result K x xs)) (entered c (suc (calls K xs c)) (some r) (length xs) ∷ []) []
  news x xs (read c) = cond (accepted (result K x xs)) (entered c (suc (calls K xs c)) none (length xs) ∷ []) []
  news x xs (make c b o) = []
  news x xs (take-reply c lent b o) = []
  news x xs (give-up c) = []
  news x xs (serve b p o) = []

  pub note_shape : (x : StepOf K) (xs : Steps K) (cs : List Logged) (st : Step) →
      note (account K.s) x xs cs st ≡ news x xs st ++ map (touched x xs st) cs
  unfolding note news touched entered
  note_shape x xs cs (write c r n) = begin_shape (accepted (result K x xs)) _ cs
  note_shape x xs cs (read c) = begin_shape (accepted (result K x xs)) _ cs
  note_shape x xs cs (make c b o) = map_id cs
  note_shape x xs cs (take-reply c lent b o) = change-map c (calls K xs c) (effect x xs c) cs
  note_shape x xs cs (give-up c) = change-map c (calls K xs c) (effect x xs c) cs
  note_shape x xs cs (serve b p o) = map_id cs

  -- ---- a call that began

  pub begun_at : (x : StepOf K) (xs : Steps K) (c : ℕ) (h : Hand) (w : Option (List ℕ)) →
      cli K (x ∷ xs) c ≡ begun (cli K xs c) h →
      (Open K (x ∷ xs) (entered c (suc (calls K xs c)) w (length xs)) → Cur K (x ∷ xs) (entered c (suc (calls K xs c)) w (length xs)) blank_stamp h) →
      CallOk K (x ∷ xs) (entered c (suc (calls K xs c)) w (length xs)) blank_stamp
  unfolding entered begun
  begun_at x xs c h w e f =
      let q : calls K (x ∷ xs) c ≡ suc (calls K xs c) = ap (λ (z : Client). z.calls) e in
      record {
        base = record {
          begun-lt = omega arith;
          number-le = omega (arith, q);
          ended = λ e q. absurd (no_some q);
          write = λ v p q. clash q refl;
          read = λ e p q. absurd (no_some q);
          reaches = λ v e p q. absurd (no_some q);
          reach-lt = λ k q. absurd (no_some q);
          leaves = λ q. clash q refl;
        };
        current = λ n. subst (λ (z : Client). Cur K (x ∷ xs) (entered c (suc (calls K xs c)) w (length xs)) blank_stamp z.hand) (sym e)
            (f (record { going = refl; staying = refl; began = ap length (sym (since_new K.s c x xs (omega (arith, q)))); unreached = refl }));
      }
