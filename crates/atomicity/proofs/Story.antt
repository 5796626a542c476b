-- The list of known calls of a run, newest first: it is the log, and calls begin one after the other.
-- Assumes nothing.
use mathlib.Core.Path.{◌≡◌, refl, sym, ap, ap₂, ◌∙◌}
use mathlib.Core.Bool.{Bool, true, false}
use mathlib.Core.List.{List, [], ◌∷◌, ◌++◌, map, map-append}
use Prim.Native.Nat.{◌<◌}
use native.Mathlib.Omega.{arith}
use lib.ListN.{length}
use Rattle.protocol.specs.Values.{blank_stamp}
use Rattle.protocol.specs.Client.{accepted}
use Rattle.runs.specs.Runs.{Step, write, read, make, take-reply, give-up, serve}
use Rattle.atomicity.specs.Lists.{Always, All, In, AllPairs}
use Rattle.atomicity.specs.Claim.{Logged, log}
use Rattle.atomicity.proofs.Util.{right_in, in_map, map_in, all_of}
use Rattle.atomicity.proofs.Setup.{Setup, Steps, StepOf, Meets, Fair, result}
use Rattle.atomicity.proofs.Calls.{CallOk, Keeps}
use Rattle.atomicity.proofs.Shape.{Log, touched, entered, note_shape}
use Rattle.atomicity.proofs.Logs.{Signed, begin_signed, new_signed, new-calls, new_write, new_read, step_call}

module _ (K : Setup) where
  -- the steps before the last one meet the premises too
  unfoldable pub past : (x : StepOf K) (xs : Steps K) → Fair K (x ∷ xs) → Fair K xs
  unfolding Always
  past x xs fair = fair.1

  pub meets : (x : StepOf K) (xs : Steps K) → Fair K (x ∷ xs) → Meets K x xs
  unfolding Always
  meets x xs fair = fair.0

  unfoldable pub step_signed : (x : StepOf K) (xs : Steps K) → Fair K (x ∷ xs) → Signed K xs → Signed K (x ∷ xs)
  step_signed x xs fair g = let r = step_call K x xs fair g.call g.stamp g.ok x.step refl in
      record { call = touched K x xs x.step g.call; stamp = r.0; ok = r.1 }

  pub step_keeps : (x : StepOf K) (xs : Steps K) (fair : Fair K (x ∷ xs)) (g : Signed K xs) →
      Keeps K g.call g.stamp (step_signed x xs fair g).call (step_signed x xs fair g).stamp
  unfolding step_signed
  step_keeps x xs fair g = (step_call K x xs fair g.call g.stamp g.ok x.step refl).2

  unfoldable pub story : (xs : Steps K) → Fair K xs → List (Signed K xs)
  story [] fair = []
  story (x ∷ xs) fair = new_signed K x xs x.step refl ++ map (step_signed x xs fair) (story xs (past x xs fair))

  -- ---- it is the log

  map-map : {A B C : Type 0} (g : B → C) (f : A → B) (us : List A) → map g (map f us) ≡ map (λ u. g (f u)) us
  map-map g f [] = refl
  map-map {C = C} g f (u ∷ us) = ap (λ (l : List C). g (f u) ∷ l) (map-map g f us)

  pub story-log : (xs : Steps K) (fair : Fair K xs) → map (λ (g : Signed K xs). g.call) (story xs fair) ≡ Log K xs
  unfolding story log step_signed
  story-log [] fair = refl
  story-log (x ∷ xs) fair = map-append (λ (g : Signed K (x ∷ xs)). g.call) (new_signed K x xs x.step refl)
      (map (step_signed x xs fair) (story xs (past x xs fair)))
      ∙ ap₂ (λ (us vs : List Logged). us ++ vs) (new-calls K x xs x.step refl)
      (map-map (λ (g : Signed K (x ∷ xs)). g.call) (step_signed x xs fair) (story xs (past x xs fair))
      ∙ sym (map-map (touched K x xs x.step) (λ (g : Signed K xs). g.call) (story xs (past x xs fair)))
      ∙ ap (map (touched K x xs x.step)) (story-log xs (past x xs fair)))
      ∙ sym (note_shape K x xs (Log K xs) x.step)

  -- a known call, a step later
  pub story-next : (x : StepOf K) (xs : Steps K) (fair : Fair K (x ∷ xs)) (g : Signed K xs) → In g (story xs (past x xs fair)) →
      In (step_signed x xs fair g) (story (x ∷ xs) fair)
  unfolding story
  story-next x xs fair g i = right_in (step_signed x xs fair g) (new_signed K x xs x.step refl)
      (map (step_signed x xs fair) (story xs (past x xs fair))) (in_map (step_signed x xs fair) (story xs (past x xs fair)) g i)

  -- ---- one after the other

  abbrev Later : {xs : Steps K} → Signed K xs → Signed K xs → Type 0
  Later a b = b.call.begun < a.call.begun

  map_pairs : (x : StepOf K) (xs : Steps K) (fair : Fair K (x ∷ xs)) (gs : List (Signed K xs)) → AllPairs (λ (a b : Signed K xs). Later a b) gs →
      AllPairs (λ (a b : Signed K (x ∷ xs)). Later a b) (map (step_signed x xs fair) gs)
  unfolding AllPairs All
  map_pairs x xs fair [] h = tt
  map_pairs x xs fair (a ∷ gs) h = (go gs h.0, map_pairs x xs fair gs h.1)
    where
      go : (ds : List (Signed K xs)) → All (λ (b : Signed K xs). Later a b) ds →
          All (λ (b : Signed K (x ∷ xs)). Later (step_signed x xs fair a) b) (map (step_signed x xs fair) ds)
      go [] k = tt
      go (d ∷ ds) k = (omega (arith, k.0, (step_keeps x xs fair a).begun, (step_keeps x xs fair d).begun), go ds k.1)

  begin_pairs : {ys : Steps K} (a : Logged) (b : Bool) (f : b ≡ true → CallOk K ys a blank_stamp) (l : List (Signed K ys)) →
      ((g : Signed K ys) → In g l → g.call.begun < a.begun) →
      AllPairs (λ (a b : Signed K ys). Later a b) l → AllPairs (λ (a b : Signed K ys). Later a b) (begin_signed K a b f ++ l)
  unfolding begin_signed AllPairs
  begin_pairs {ys} a true f l k h = (all_of (λ (g : Signed K ys). g.call.begun < a.begun) l k, h)
  begin_pairs a false f l k h = h

  new_pairs : (x : StepOf K) (xs : Steps K) (st : Step) (e : x.step ≡ st) (l : List (Signed K (x ∷ xs))) →
      ((g : Signed K (x ∷ xs)) → In g l → g.call.begun < length xs) →
      AllPairs (λ (a b : Signed K (x ∷ xs)). Later a b) l → AllPairs (λ (a b : Signed K (x ∷ xs)). Later a b) (new_signed K x xs st e ++ l)
  unfolding new_signed entered
  new_pairs x xs (write c r n) e l f h = begin_pairs _ (accepted (result K x xs)) (new_write K x xs c r n e) l f h
  new_pairs x xs (read c) e l f h = begin_pairs _ (accepted (result K x xs)) (new_read K x xs c e) l f h
  new_pairs x xs (make c b o) e l f h = h
  new_pairs x xs (take-reply c lent b o) e l f h = h
  new_pairs x xs (give-up c) e l f h = h
  new_pairs x xs (serve b p o) e l f h = h

  pub story_pairs : (xs : Steps K) (fair : Fair K xs) → AllPairs (λ (a b : Signed K xs). b.call.begun < a.call.begun) (story xs fair)
  unfolding story AllPairs
  story_pairs [] fair = tt
  story_pairs (x ∷ xs) fair = new_pairs x xs x.step refl (map (step_signed x xs fair) (story xs (past x xs fair))) old
      (map_pairs x xs fair (story xs (past x xs fair)) (story_pairs xs (past x xs fair)))
    where
      old : (g : Signed K (x ∷ xs)) → In g (map (step_signed x xs fair) (story xs (past x xs fair))) → g.call.begun < length xs
      old g i = let r = map_in (step_signed x xs fair) (story xs (past x xs fair)) g i in
          omega (arith, ap (λ (z : Signed K (x ∷ xs)). z.call.begun) r.2, (step_keeps x xs fair r.0).begun, r.0.ok.base.begun-lt)
