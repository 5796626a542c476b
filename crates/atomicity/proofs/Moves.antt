-- How a step changes one client, as a view with equations, so that no later module takes a step apart. It holds by the cases of the step and
-- of its refusals.
-- Assumes nothing.
use mathlib.Core.Path.{◌≡◌, refl, subst}
use mathlib.Core.Bool.{Bool, true, false, not, ◌&&◌, ◌||◌}
use mathlib.Core.List.{List, ◌∷◌}
use mathlib.Core.Option.{Option, none, some}
use Prim.Native.Nat.{ℕ, ◌≤◌}
use native.Mathlib.Omega.{arith}
use lib.ListN.{length}
use lib.Dec.{ltb, eqb}
use borrow.Author.Tests.{ltb-false, eqb-true, not-false}
use Rattle.cluster.specs.Config.{Config}
use Rattle.cluster.specs.Ranges.{top_writer, top_length}
use Rattle.cluster.proofs.Tests.{or_none, inside, passes}
use Rattle.protocol.specs.Values.{blank_candidate}
use Rattle.protocol.specs.Packet.{Packet, kind_of, decode}
use Rattle.protocol.specs.Rules.{nobody}
use Rattle.protocol.specs.Client.{Client, Turn, Result, more, aborted, idle, clocking, collecting, awaits, is_idle, high_at, onto, begun, bad_faults}
use Rattle.protocol.specs.Client.{bad_client_def, of_write, accepted, in_complete}
use Rattle.protocol.specs.Client.{write_refusal_def, read_refusal_def, abort_refusal_def, take_refusal, write_step, read_step, abort_step, take_step, turn_on}
use Rattle.runs.specs.Runs.{Lent, Step, write, read, make, take-reply, give-up, serve}
use Rattle.runs.proofs.ValueRuns.{World, do_values, now_values, set_client}
use Rattle.protocol.proofs.Fine.{at-refusal}
use Rattle.atomicity.specs.Steps.{StepIn, System}
use Rattle.atomicity.proofs.Util.{and_left, and_right, upd_case, clash}
use Rattle.atomicity.proofs.Model.{Run, perform, now, client_at_def, result_at, turn}

-- ---- a client

pub write-passed : (s : Config) (c : ℕ) (cl : Client) (r : List ℕ) → write_refusal_def s c (length r) (not (is_idle cl.hand)) cl.calls ≡ 0 →
    (c ≤ top_writer) × (length r ≤ top_length) × (is_idle cl.hand ≡ true)
unfolding write_refusal_def
write-passed s c cl r e =
    let z1 = passes (bad_faults s) 2 _ e in
    let z2 = passes (bad_client_def true c) 4 _ z1.1 in
    let z3 = passes (ltb top_length (length r)) 5 _ z2.1 in
    let z4 = passes (not (is_idle cl.hand)) 12 _ z3.1 in
    ((inside 1 top_writer c z2.0).1, ltb-false top_length (length r) z3.0, not-false _ z4.0)

-- what is known of a reply that is let in
pub record Fits (s : System) (c : ℕ) (cl : Client) (p : Packet) : Type 0 where
  pub same-t : p.head.t ≡ s.config.t
  pub mine : p.head.client ≡ c
  pub busy : is_idle cl.hand ≡ false
  pub call : p.head.call ≡ cl.calls
  pub kind : kind_of p.body ≡ awaits cl.hand

-- client c begins, takes or gives up
abbrev pub acting : ℕ → Step → Bool
acting c (write d r n) = eqb c d
acting c (read d) = eqb c d
acting c (make d b o) = false
acting c (take-reply d lent b o) = eqb c d
acting c (give-up d) = eqb c d
acting c (serve b p o) = false

-- client c was so before step x, and is cl after it, with this result
pub data Moved (s : System) (c : ℕ) (was : Client) (x : Step) (cl : Client) (res : Result) : Type 0 where
  kept : cl ≡ was → (acting c x ≡ true → accepted res ≡ false) → Moved s c was x cl res
  wbegan : (r n : List ℕ) → x ≡ write c r n → res ≡ more → is_idle was.hand ≡ true → c ≤ top_writer →
      cl ≡ begun was (clocking r n was.last) → Moved s c was x cl res
  rbegan : x ≡ read c → res ≡ more → is_idle was.hand ≡ true → cl ≡ begun was (collecting (λ b. blank_candidate s.config)) →
      Moved s c was x cl res
  quit : x ≡ give-up c → res ≡ aborted (in_complete was.hand) → is_idle was.hand ≡ false → cl ≡ onto was nobody idle →
      Moved s c was x cl res
  took : (p : Packet) (lent : Lent) (b o : List ℕ) → x ≡ take-reply c lent b o → decode b ≡ some p → Fits s c was p →
      cl ≡ (turn s c was p).client → res ≡ (turn s c was p).result → Moved s c was x cl res

pub take-fits : (s : System) (c : ℕ) (cl : Client) (p : Packet) (room : ℕ) →
    take_refusal s.config c (some p) cl.calls (awaits cl.hand) cl.marks (high_at s.P s.config c s.writers s.keys cl) room ≡ 0 →
    Fits s c cl p
unfolding take_refusal high_at is_idle
take-fits s c cl p room e =
    let z1 = passes (bad_faults s.config) 2 _ e in
    let z2 = passes (bad_client_def (of_write (awaits cl.hand)) c) 4 _ z1.1 in
    let z3 = passes (not (eqb p.head.t s.config.t && eqb p.head.client c)) 7 _ z2.1 in
    let z4 = passes (not (eqb (awaits cl.hand) 0) &&
    (not (eqb p.head.call cl.calls && eqb (kind_of p.body) (awaits cl.hand)) || cl.marks p.head.server)) 11 _ z3.1 in
    let z5 = passes (eqb (awaits cl.hand) 0) 12 _ z4.1 in
    let a = not-false (eqb p.head.t s.config.t && eqb p.head.client c) z3.0 in
    let o = or_none (not (eqb p.head.call cl.calls && eqb (kind_of p.body) (awaits cl.hand))) (cl.marks p.head.server)
    (second (eqb (awaits cl.hand) 0) _ z5.0 z4.0) in
    let k = not-false (eqb p.head.call cl.calls && eqb (kind_of p.body) (awaits cl.hand)) o.0 in
    record {
      same-t = eqb-true _ _ (and_left _ _ a);
      mine = eqb-true _ _ (and_right (eqb p.head.t s.config.t) _ a);
      busy = z5.0;
      call = eqb-true _ _ (and_left _ _ k);
      kind = eqb-true _ _ (and_right (eqb p.head.call cl.calls) _ k);
    }
  where
    second : (i u : Bool) → i ≡ false → (not i && u) ≡ false → u ≡ false
    second true u p q = clash refl p
    second false u p q = q

module _ (s : System) (c : ℕ) (cl : Client) where
  abbrev MovedBy : Step → Turn → Type 0
  MovedBy x u = Moved s c cl x u.client u.result

  write_moved : (r n : List ℕ) → MovedBy (write c r n) (write_step s.config c cl r n)
  unfolding write_step
  write_moved r n = at-refusal (MovedBy (write c r n)) (write_refusal_def s.config c (length r) (not (is_idle cl.hand)) cl.calls) _ _
      (λ e. let z = write-passed s.config c cl r e in wbegan r n refl refl z.2 z.0 refl) (kept refl (λ q. refl))

  read_moved : MovedBy (read c) (read_step s.config c cl)
  unfolding read_step read_refusal_def
  read_moved = at-refusal (MovedBy (read c)) (read_refusal_def s.config c (not (is_idle cl.hand)) cl.calls) _ _
      (λ e. let z1 = passes (bad_faults s.config) 2 _ e in
      let z2 = passes (bad_client_def false c) 4 _ z1.1 in
      let z3 = passes (not (is_idle cl.hand)) 12 _ z2.1 in
      rbegan refl refl (not-false _ z3.0) refl)
      (kept refl (λ q. refl))

  quit_moved : MovedBy (give-up c) (abort_step s.config c cl)
  unfolding abort_step abort_refusal_def is_idle
  quit_moved = at-refusal (MovedBy (give-up c)) (abort_refusal_def s.config c (awaits cl.hand)) _ _
      (λ e. let z1 = passes (bad_faults s.config) 2 _ e in
      let z2 = passes (bad_client_def (of_write (awaits cl.hand)) c) 4 _ z1.1 in
      let z3 = passes (eqb (awaits cl.hand) 0) 12 _ z2.1 in
      quit refl refl z3.0 refl)
      (kept refl (λ q. refl))

  take_moved : (lent : Lent) (b o : List ℕ) (q : Option Packet) → decode b ≡ q →
      MovedBy (take-reply c lent b o) (take_step s.P s.config c s.writers s.keys cl q (length o))
  unfolding take_step turn_on take_refusal
  take_moved lent b o none d = at-refusal (MovedBy (take-reply c lent b o))
      (take_refusal s.config c none cl.calls (awaits cl.hand) cl.marks
      (high_at s.P s.config c s.writers s.keys cl) (length o)) _ _
      (λ e. let z1 = passes (bad_faults s.config) 2 _ e in let z2 = passes (bad_client_def (of_write (awaits cl.hand)) c) 4 _ z1.1 in
      absurd (omega (arith, z2.1)))
      (kept refl (λ q. refl))
  take_moved lent b o (some p) d = at-refusal (MovedBy (take-reply c lent b o))
      (take_refusal s.config c (some p) cl.calls (awaits cl.hand) cl.marks
      (high_at s.P s.config c s.writers s.keys cl) (length o)) _ _
      (λ e. took p lent b o refl d (take-fits s c cl p (length o) e) refl refl)
      (kept refl (λ q. refl))

-- one step from any world: a run's moments follow
module _ (s : System) (c : ℕ) (w : World) where
  -- client d makes the turn u
  set_moved : (x : Step) (d : ℕ) (u : Turn) → (eqb c d ≡ false → acting c x ≡ false) → (c ≡ d → Moved s c (w.client c) x u.client u.result) →
      Moved s c (w.client c) x ((set_client s.P s.config s.writers s.keys w d u).world.client c) u.result
  unfolding set_client
  set_moved x d u g f = upd_case (λ (y : Client). Moved s c (w.client c) x y u.result) w.client d u.client c f
      (λ e. kept refl (λ q. clash q (g e)))

  step_moved : (x : Step) → Moved s c (w.client c) x ((perform s w x).world.client c) (perform s w x).result
  unfolding do_values set_client
  step_moved (write d r n) = set_moved (write d r n) d _ (λ e. e)
      (λ e. subst (λ (i : ℕ). MovedBy s c (w.client c) (write i r n) (write_step s.config i (w.client i) r n)) e
      (write_moved s c (w.client c) r n))
  step_moved (read d) = set_moved (read d) d _ (λ e. e)
      (λ e. subst (λ (i : ℕ). MovedBy s c (w.client c) (read i) (read_step s.config i (w.client i))) e (read_moved s c (w.client c)))
  step_moved (make d b o) = kept refl (λ q. clash q refl)
  step_moved (take-reply d lent b o) = set_moved (take-reply d lent b o) d _ (λ e. e)
      (λ e. subst (λ (i : ℕ). MovedBy s c (w.client c) (take-reply i lent b o)
      (take_step s.P s.config i s.writers s.keys (w.client i) (decode b) (length o))) e
      (take_moved s c (w.client c) lent b o (decode b) refl))
  step_moved (give-up d) = set_moved (give-up d) d _ (λ e. e)
      (λ e. subst (λ (i : ℕ). MovedBy s c (w.client c) (give-up i) (abort_step s.config i (w.client i))) e (quit_moved s c (w.client c)))
  step_moved (serve b p o) = kept refl (λ q. clash q refl)

-- client c at step x after the steps xs
abbrev pub MovedAt : (s : System) → ℕ → StepIn s → Run s → Type 0
MovedAt s c x xs = Moved s c (client_at_def s xs c) x.step (client_at_def s (x ∷ xs) c) (result_at s x xs)

pub moved : (s : System) (c : ℕ) (x : StepIn s) (xs : Run s) → MovedAt s c x xs
unfolding now_values
moved s c x xs = step_moved s c (now s xs) x.step
