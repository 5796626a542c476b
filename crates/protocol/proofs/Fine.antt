-- What every correct client is at every moment of a run, on values: within the layout, with a call number in its range.
-- Each step keeps it; a refused one changes nothing. Nothing is assumed but the primitives' lengths.
use mathlib.Core.Path.{◌≡◌, refl, sym, ◌∙◌, subst}
use mathlib.Core.Bool.{Bool, true, false, not}
use mathlib.Core.List.{List, [], ◌∷◌}
use mathlib.Core.Option.{Option, none, some}
use Prim.Native.Nat.{ℕ, zero, suc, ◌≤◌, ◌<◌}
use native.Mathlib.Omega.{arith}
use lib.Dec.{T, leb, ltb, eqb, lit≤}
use lib.ListN.{length}
use borrow.Author.Tests.{leb-false, ltb-false}
use Rattle.cluster.specs.Config.{Config, shelf}
use Rattle.cluster.specs.Ranges.{within, top_writer, top_client, top_number, top_length}
use Rattle.cluster.specs.Refusals.{on_refusal}
use Rattle.cluster.proofs.Tests.{inside, passes}
use Rattle.protocol.specs.Values.{Candidate, Held, blank_candidate, nonce_size, same_list}
use Rattle.protocol.specs.Packet.{Body, BodyOk, Packet, PacketOk}
use Rattle.protocol.specs.Primitives.{Primitives, Lengths}
use Rattle.protocol.specs.Rules.{ByServer, upd, nobody, leader, tags_in}
use Rattle.protocol.specs.Client.{Client, Hand, Turn, onto, begun, idle, clocking, storing, completing, collecting, filtering, repairing, update, judge, found, code_in, is_full_def, is_idle, awaits, new_client, bad_faults, write_refusal_def, read_refusal_def, abort_refusal_def, take_refusal, write_step, read_step, abort_step, turn_on, high_at, take_step}
use Rattle.format.proofs.Answers.{at-cond}
use Rattle.protocol.proofs.Room.{Fitting}
use Rattle.protocol.proofs.Acts.{blank-candidate}
use Rattle.protocol.proofs.Bodies.{body_ok}
use Rattle.protocol.proofs.HandOk.{WriteOk, HandOk}
use Rattle.protocol.proofs.Updates.{ClientOk, update-ok}
use Rattle.protocol.proofs.LetIn.{let_in, not_none, shelf-t}

pub record Fine (s : Config) (c : ℕ) (cl : Client) : Type 0 where
  pub ok : ClientOk s c cl
  pub calls : cl.calls ≤ top_number
  pub busy : is_idle cl.hand ≡ false → 1 ≤ cl.calls

pub start_fine : (s : Config) (c : ℕ) → Fine s c new_client
unfolding HandOk is_idle awaits
start_fine s c = record { ok = record { hand = tt; last = lit≤ tt }; calls = lit≤ tt; busy = λ e. absurd (subst T e tt) }

-- ---- a turn keeps the call number

module _ (P : Primitives) (s : Config) (c : ℕ) (writers : List ℕ) (keys : ByServer (List ℕ)) (cl : Client) where
  abbrev Kept : Turn → Type 0
  Kept u = u.client.calls ≡ cl.calls

  onto-calls : (m : ByServer Bool) (h : Hand) → (onto cl m h).calls ≡ cl.calls
  unfolding onto
  onto-calls m h = refl

  judge-calls : (m : ByServer Bool) (cs : List Candidate) (g : ByServer Held) (l : List Candidate) (o : Option Candidate) → Kept
      (judge P s c writers keys cl m cs g l o)
  unfolding judge found
  judge-calls m cs g [] o = onto-calls _ _
  judge-calls m cs g (y ∷ l) none = onto-calls _ _
  judge-calls m cs g (y ∷ l) (some d) =
      at-cond (same_list (tags_in P s d (g (leader P s m g d s.servers)).share) d.tags) _ _ Kept (λ e. onto-calls _ _) (λ e. onto-calls _ _)

  update-calls : (b : ℕ) (x : Body) (m : ByServer Bool) (full : Bool) (h : Hand) → Kept (update P s c writers keys cl b x m full h)
  unfolding update
  update-calls b x m full idle = refl
  update-calls b x m full (clocking r n a) = at-cond full _ _ Kept (λ q. refl) (λ q. onto-calls _ _)
  update-calls b x m full (storing d g) =
      at-cond (eqb (code_in x) 11) _ _ Kept (λ e. refl) (λ e. at-cond full _ _ Kept (λ q. onto-calls _ _) (λ q. onto-calls _ _))
  update-calls b x m full (completing d) = at-cond full _ _ Kept (λ q. onto-calls _ _) (λ q. onto-calls _ _)
  update-calls b x m full (collecting g) = at-cond full _ _ Kept (λ q. onto-calls _ _) (λ q. onto-calls _ _)
  update-calls b x m full (filtering cs g) = at-cond full _ _ Kept (λ q. judge-calls _ _ _ _ _) (λ q. onto-calls _ _)
  update-calls b x m full (repairing d r) = at-cond full _ _ Kept (λ q. onto-calls _ _) (λ q. onto-calls _ _)

-- ---- each step

-- what holds of both ways of a step holds of the step
pub at-refusal : {A : Type 0} (Q : A → Type 0) (n : ℕ) (x y : A) → (n ≡ 0 → Q x) → Q y → Q (on_refusal n x y)
at-refusal Q zero x y f g = f refl
at-refusal Q (suc n) x y f g = g

module _ (s : Config) (c : ℕ) (cl : Client) (fine : Fine s c cl) where
  pub write-accepted : (r n : List ℕ) → length n ≡ nonce_size → (pending : Bool) → write_refusal_def s c (length r) pending cl.calls ≡ 0
      → WriteOk c r n × (cl.calls < top_number)
  unfolding write_refusal_def
  write-accepted r n l pending e =
      let (a, e5) = passes (bad_faults s) 2 _ e in
      let (w, e6) = passes (not (within 1 top_writer c)) 4 _ e5 in
      let (z, e13) = passes (ltb top_length (length r)) 5 _ e6 in
      let (p, e14) = passes pending 12 _ e13 in
      let (k, _) = passes (leb top_number cl.calls) 13 _ e14 in
      (record { writer = inside 1 top_writer c w; high = ltb-false top_length (length r) z; nonce = l }, leb-false top_number cl.calls k)

  pub write_fine : (r n : List ℕ) → length n ≡ nonce_size → Fine s c (write_step s c cl r n).client
  unfolding write_step
  write_fine r n l =
      at-refusal (λ (u : Turn). Fine s c u.client) (write_refusal_def s c (length r) (not (is_idle cl.hand)) cl.calls) _ _
      (λ e. begin (write-accepted r n l (not (is_idle cl.hand)) e)) fine
    where
      begin : WriteOk c r n × (cl.calls < top_number) → Fine s c (begun cl (clocking r n cl.last))
      begin (w, k) =
          unfold begun HandOk in
          (record { ok = record { hand = (w, fine.ok.last); last = fine.ok.last }; calls = omega arith; busy = λ f. omega arith })

  read-accepted : (pending : Bool) → read_refusal_def s c pending cl.calls ≡ 0 → cl.calls < top_number
  unfolding read_refusal_def
  read-accepted pending e =
      let (a, e5) = passes (bad_faults s) 2 _ e in
      let (w, e13) = passes (not (within 1 top_client c)) 4 _ e5 in
      let (p, e14) = passes pending 12 _ e13 in
      let (k, _) = passes (leb top_number cl.calls) 13 _ e14 in
      leb-false top_number cl.calls k

  pub read_fine : Fine s c (read_step s c cl).client
  unfolding read_step
  read_fine =
      at-refusal (λ (u : Turn). Fine s c u.client) (read_refusal_def s c (not (is_idle cl.hand)) cl.calls) _ _
      (λ e. begin (read-accepted (not (is_idle cl.hand)) e)) fine
    where
      begin : cl.calls < top_number → Fine s c (begun cl (collecting (λ b. blank_candidate s)))
      begin k =
          unfold begun HandOk in
          (record { ok = record { hand = λ i. blank-candidate s; last = fine.ok.last }; calls = omega arith; busy = λ f. omega arith })

  pub abort_fine : Fine s c (abort_step s c cl).client
  unfolding abort_step
  abort_fine = at-refusal (λ (u : Turn). Fine s c u.client) (abort_refusal_def s c (awaits cl.hand)) _ _ (λ e. over) fine
    where
      over : Fine s c (onto cl nobody idle)
      over =
          unfold onto HandOk is_idle awaits in
          (record { ok = record { hand = tt; last = fine.ok.last }; calls = fine.calls; busy = λ f. absurd (subst T f tt) })

-- a reply is taken, on document 01's shelf
module _ (P : Primitives) (law : Lengths P) (t : ℕ) (f : Fitting (shelf t)) (c : ℕ) (writers : List ℕ) (keys : ByServer (List ℕ)) (cl : Client)
    (fine : Fine (shelf t) c cl) where
  turn_fine : (p : Packet) → PacketOk p → (room : ℕ)
      → take_refusal (shelf t) c (some p) cl.calls (awaits cl.hand) cl.marks (high_at P (shelf t) c writers keys cl) room ≡ 0
      → Fine (shelf t) c (turn_on P (shelf t) c writers keys cl (some p)).client
  unfolding turn_on
  turn_fine p ok room e =
      let s : Config = shelf t in
      let a = let_in s c p cl.calls (awaits cl.hand) cl.marks (high_at P s c writers keys cl) room e in
      let b : ℕ = p.head.server in
      let m : ByServer Bool = upd cl.marks b true in
      let xok : BodyOk s p.body = subst (λ (z : ℕ). BodyOk (shelf z) p.body) (a.same-t ∙ shelf-t t) (body_ok p ok) in
      let n = update-calls P s c writers keys cl b p.body m (is_full_def s m) cl.hand in
      record {
        ok =
            update-ok P law s f c writers keys cl fine.ok.last b p.body m (is_full_def s m) cl.hand refl fine.ok.hand xok
            (unfold high_at in a.low);
        calls = subst (λ (z : ℕ). z ≤ top_number) (sym n) fine.calls;
        busy = λ q. subst (λ (z : ℕ). 1 ≤ z) (sym n) (fine.busy (unfold is_idle in a.pending));
      }

  pub take_fine : (o : Option Packet) → ((p : Packet) → o ≡ some p → PacketOk p) → (room : ℕ) → Fine (shelf t) c
      (take_step P (shelf t) c writers keys cl o room).client
  unfolding take_step
  take_fine none ok room =
      at-refusal (λ (u : Turn). Fine (shelf t) c u.client) _ _ _
      (λ e. absurd (not_none (shelf t) c cl.calls (awaits cl.hand) cl.marks (high_at P (shelf t) c writers keys cl) room e)) fine
  take_fine (some p) ok room = at-refusal (λ (u : Turn). Fine (shelf t) c u.client) _ _ _ (λ e. turn_fine p (ok p refl) room e) fine
