-- A write keeps the length of its content through its rounds: at every moment of every run, what a client holds of a write is of the content that it
-- last began to write. A begin brings its own content, the shares of store are made of it, and no other step touches it.
-- Assumes nothing but the primitives' lengths.
use mathlib.Core.Path.{◌≡◌, refl, sym, ap, ◌∙◌, subst}
use mathlib.Core.Bool.{Bool, true, false, cond, not}
use mathlib.Core.List.{List, [], ◌∷◌}
use mathlib.Core.Option.{Option, none, some}
use Prim.Native.Nat.{ℕ, ◌≤◌}
use lib.Dec.{eqb}
use lib.ListN.{length}
use borrow.Author.Tests.{eqb-true}
use Rattle.cluster.specs.Config.{Config}
use Rattle.cluster.specs.Ranges.{top_faults}
use Rattle.protocol.specs.Values.{Candidate, Held, same_list}
use Rattle.protocol.specs.Packet.{Body, Packet, decode}
use Rattle.protocol.specs.Primitives.{Primitives, Lengths}
use Rattle.protocol.specs.Rules.{ByServer, upd, leader, tags_in}
use Rattle.protocol.specs.Client.{Client, Hand, Turn, Result, accepted, idle, clocking, storing, completing, collecting, filtering, repairing, share_made, prepared, code_in, onto, begun, update, judge, found, is_idle, awaits, write_refusal_def, read_refusal_def, abort_refusal_def, take_refusal, write_step, read_step, abort_step, turn_on, high_at, take_step}
use Rattle.protocol.specs.View.{kept_size}
use Rattle.protocol.specs.ClientBytes.{key_of}
use Rattle.runs.specs.Runs.{Shelf, config_of, Step, write, read, make, take-reply, give-up, serve, length_after, Done, do_bytes, now_bytes}
use Rattle.format.proofs.Answers.{at-cond}
use Rattle.protocol.proofs.Prepared.{shares_in_lem}
use Rattle.protocol.proofs.Fine.{at-refusal}
use Rattle.runs.proofs.ValueRuns.{World, do_values, now_values, set_client}
use Rattle.runs.proofs.RunLift.{AllFed, run-agrees}

-- what is in hand of a write is of a content of n bytes
abbrev pub OfLength : Config → ℕ → Hand → Type 0
OfLength s n idle = Unit {0}
OfLength s n (clocking r m k) = length r ≡ n
OfLength s n (storing d g) = (b : ℕ) → 1 ≤ b → b ≤ s.servers → (g b).size ≡ n
OfLength s n (completing d) = Unit {0}
OfLength s n (collecting g) = Unit {0}
OfLength s n (filtering cs g) = Unit {0}
OfLength s n (repairing d r) = Unit {0}

module _ (P : Primitives) (law : Lengths P) (s : Config) (c : ℕ) (writers : List ℕ) (keys : ByServer (List ℕ)) (cl : Client) (n : ℕ) where
  abbrev Still : Turn → Type 0
  Still u = OfLength s n u.client.hand

  made_of : (r m : List ℕ) (k : ℕ) → length r ≡ n → OfLength s n (prepared P s c writers keys r m k)
  unfolding prepared share_made
  made_of r m k e b lo hi = ap (λ h. h.size) (unfold share_made in shares_in_lem P law s c writers keys r m k b lo hi) ∙ e

  onto_of : (m : ByServer Bool) (h : Hand) → OfLength s n h → OfLength s n (onto cl m h).hand
  unfolding onto
  onto_of m h k = k

  judge_of : (m : ByServer Bool) (cs : List Candidate) (g : ByServer Held) (l : List Candidate) (o : Option Candidate) → Still
      (judge P s c writers keys cl m cs g l o)
  unfolding judge found
  judge_of m cs g [] o = onto_of _ idle tt
  judge_of m cs g (y ∷ l) none = onto_of _ (filtering cs g) tt
  judge_of m cs g (y ∷ l) (some d) =
      at-cond (same_list (tags_in P s d (g (leader P s m g d s.servers)).share) d.tags) _ _ Still (λ e. onto_of _ idle tt)
      (λ e. onto_of _ (repairing _ _) tt)

  update_of : (b : ℕ) (x : Body) (m : ByServer Bool) (full : Bool) (h : Hand) → cl.hand ≡ h → OfLength s n h → Still
      (update P s c writers keys cl b x m full h)
  unfolding update
  update_of b x m full idle e h = subst (OfLength s n) (sym e) h
  update_of b x m full (clocking r k a) e h = at-cond full _ _ Still (λ q. made_of r k _ h) (λ q. onto_of _ (clocking r k _) h)
  update_of b x m full (storing d g) e h =
      at-cond (eqb (code_in x) 11) _ _ Still (λ q. subst (OfLength s n) (sym e) h)
      (λ q. at-cond full _ _ Still (λ p. onto_of _ (completing d) tt) (λ p. onto_of _ (storing d g) h))
  update_of b x m full (completing d) e h = at-cond full _ _ Still (λ q. onto_of _ idle tt) (λ q. onto_of _ (completing d) tt)
  update_of b x m full (collecting g) e h = at-cond full _ _ Still (λ q. onto_of _ (filtering _ _) tt) (λ q. onto_of _ (collecting _) tt)
  update_of b x m full (filtering cs g) e h = at-cond full _ _ Still (λ q. judge_of _ _ _ _ _) (λ q. onto_of _ (filtering _ _) tt)
  update_of b x m full (repairing d r) e h = at-cond full _ _ Still (λ q. onto_of _ idle tt) (λ q. onto_of _ (repairing d r) tt)

  module _ (h : OfLength s n cl.hand) where
    read_of : Still (read_step s c cl)
    unfolding read_step begun
    read_of = at-refusal Still (read_refusal_def s c (not (is_idle cl.hand)) cl.calls) _ _ (λ e. tt) h

    quit_of : Still (abort_step s c cl)
    unfolding abort_step
    quit_of = at-refusal Still (abort_refusal_def s c (awaits cl.hand)) _ _ (λ e. onto_of _ idle tt) h

    turn_of : (o : Option Packet) → Still (turn_on P s c writers keys cl o)
    unfolding turn_on
    turn_of none = h
    turn_of (some p) = update_of _ _ _ _ cl.hand refl h

    take_of : (o : Option Packet) (room : ℕ) → Still (take_step P s c writers keys cl o room)
    unfolding take_step
    take_of o room =
        at-refusal Still (take_refusal s c o cl.calls (awaits cl.hand) cl.marks (high_at P s c writers keys cl) room) _ _ (λ e. turn_of o) h

  -- a write that is begun brings its own content
  write_of_lem : (r m : List ℕ) → OfLength s n cl.hand → let u = write_step s c cl r m in
      OfLength s (cond (accepted u.result) (length r) n) u.client.hand
  unfolding write_step begun
  write_of_lem r m h =
      at-refusal (λ (u : Turn). OfLength s (cond (accepted u.result) (length r) n) u.client.hand)
      (write_refusal_def s c (length r) (not (is_idle cl.hand)) cl.calls) _ _ (λ e. refl) h

-- ---- runs

module _ (P : Primitives) (sh : Shelf) (first : ℕ → List ℕ) where
  -- what a step gives, on bytes
  abbrev pub done : Step → List Step → Done
  done x xs = do_bytes P sh (now_bytes P sh first xs) x

  -- the length of the content that client c last began to write
  unfoldable pub length_of : ℕ → List Step → ℕ
  length_of c [] = 0
  length_of c (x ∷ xs) = length_after c x (accepted (done x xs).result) (length_of c xs)

-- client c after a step of client d
at-client : (Q : Client → Type 0) (w : World) (c d : ℕ) (step : Client → Turn) → ((y : Client) → Q y → Q (step y).client) → Q (w.client c) → Q (upd
    w.client d (step (w.client d)).client c)
unfolding upd
at-client Q w c d step f h =
    at-cond (eqb c d) (step (w.client d)).client (w.client c) Q
    (λ e. f (w.client d) (subst (λ (i : ℕ). Q (w.client i)) (eqb-true c d e) h)) (λ e. h)

module _ (P : Primitives) (law : Lengths P) (s : Config) (writers : List ℕ) (keys : ByServer (List ℕ)) (w : World) (c n : ℕ)
    (h : OfLength s n (w.client c).hand) where
  abbrev Of : Client → Type 0
  Of y = OfLength s n y.hand

  step_of : (x : Step) → let a = do_values P s writers keys w x in OfLength s (length_after c x (accepted a.result) n) (a.world.client c).hand
  unfolding do_values set_client upd
  step_of (write d r m) = go (eqb c d) refl
    where
      go : (b : Bool) → eqb c d ≡ b → let u = write_step s d (w.client d) r m in
          OfLength s (cond b (cond (accepted u.result) (length r) n) n) (cond b u.client (w.client c)).hand
      go true e = write_of_lem P law s d writers keys (w.client d) n r m (subst (λ (i : ℕ). Of (w.client i)) (eqb-true c d e) h)
      go false e = h
  step_of (read d) = unfold upd in at-client Of w c d (read_step s d) (λ y. read_of P law s d writers keys y n) h
  step_of (make d b o) = h
  step_of (take-reply d lent p o) =
      unfold upd in at-client Of w c d (λ y. take_step P s d writers keys y (decode p) (length o))
      (λ y k. take_of P law s d writers keys y n k (decode p) (length o)) h
  step_of (give-up d) = unfold upd in at-client Of w c d (abort_step s d) (λ y. quit_of P law s d writers keys y n) h
  step_of (serve b p o) = h

module _ (P : Primitives) (law : Lengths P) (sh : Shelf) (tr : (1 ≤ sh.t) × (sh.t ≤ top_faults)) (first : ℕ → List ℕ)
    (sized : (c : ℕ) → length (first c) ≡ kept_size) where
  abbrev s : Config
  s = config_of sh

  abbrev keys : ByServer (List ℕ)
  keys = key_of sh.keys

  pub of_length : (c : ℕ) (l : List Step) → AllFed P law sh tr l
      → OfLength s (length_of P sh first c l) ((now_values P s sh.writers keys l).client c).hand
  unfolding length_of now_values AllFed
  of_length c [] f = tt
  of_length c (x ∷ xs) f =
      let w : World = now_values P s sh.writers keys xs in
      let n : ℕ = length_of P sh first c xs in
      subst (λ (r : Result). OfLength s (length_after c x (accepted r) n) ((do_values P s sh.writers keys w x).world.client c).hand)
      (sym (unfold now_values AllFed in (run-agrees P law sh tr first sized x xs f.0 f.1).result))
      (step_of P law s sh.writers keys w c n (unfold now_values in of_length c xs f.1) x)
