-- A reply that is taken marks its server, and the marks of a round stay until the round ends; by the cases of the hand.
-- Assumes nothing.
use mathlib.Core.Path.{◌≡◌, refl, ap, ◌∙◌}
use mathlib.Core.Bool.{Bool, true, false, cond, not, ◌&&◌, ◌||◌}
use mathlib.Core.List.{List, [], ◌∷◌}
use mathlib.Core.Option.{Option, none, some}
use Prim.Native.Nat.{ℕ}
use native.Mathlib.Omega.{arith}
use lib.Dec.{ltb, eqb}
use lib.ListN.{length}
use borrow.Author.Tests.{eqb-true, eq-eqb}
use Rattle.cluster.specs.Ranges.{content_room}
use Rattle.cluster.specs.Refusals.{on_refusal}
use Rattle.protocol.specs.Values.{Candidate, Held, same_list}
use Rattle.protocol.specs.Packet.{Body, Packet, kind_of, decode}
use Rattle.protocol.specs.Rules.{ByServer, upd, leader, tags_in}
use Rattle.protocol.specs.Server.{reply_to}
use Rattle.protocol.specs.Client.{Client, Hand, Turn, refused, idle, clocking, storing, completing, collecting, filtering, repairing, awaits, is_idle}
use Rattle.protocol.specs.Client.{high_at, bad_faults, bad_client_def, of_write}
use Rattle.protocol.specs.Client.{update, judge, found, onto, prepared, code_in, take_refusal, take_step, turn_on}
use Rattle.runs.specs.Runs.{Lent, Step, take-reply}
use Rattle.runs.proofs.ValueRuns.{do_values, set_client}
use Rattle.format.proofs.Answers.{at-cond}
use Rattle.atomicity.specs.Steps.{StepIn, System}
use Rattle.atomicity.proofs.Util.{cond_both, bool_case, clash, upd_here, upd_else}
use Rattle.atomicity.proofs.Model.{Run, perform, now, client_at_def, result_at, updated, turn}
use Rattle.atomicity.proofs.Positions.{stage}

pub reply-t : (p ask : Packet) (y : Body) → p ≡ reply_to ask y → p.head.t ≡ ask.head.t
unfolding reply_to
reply-t p ask y e = ap (λ (q : Packet). q.head.t) e

-- ---- the marks of a round grow

keeps_mark : (m : ByServer Bool) (b j : ℕ) → m j ≡ true → upd m b true j ≡ true
keeps_mark m b j e = bool_case (eqb j b) (λ t. ap (upd m b true) (eqb-true j b t) ∙ upd_here m b true) (λ t. upd_else m b true j t ∙ e)

module _ (s : System) (c : ℕ) where
  abbrev Grown : ByServer Bool → ℕ → Body → Hand → Turn → Type 0
  Grown m b y h u = stage h ≡ stage u.client.hand → ((j : ℕ) → m j ≡ true → u.client.marks j ≡ true)
      × ((code_in y ≡ 11 → awaits h ≡ 4 → ⊥) → u.client.marks b ≡ true)

  marked : (m : ByServer Bool) (b : ℕ) → ((j : ℕ) → m j ≡ true → upd m b true j ≡ true) × (upd m b true b ≡ true)
  marked m b = (λ j e. keeps_mark m b j e, upd_here m b true)

  found_grown : (m : ByServer Bool) (b : ℕ) (y : Body) (cs : List Candidate) (g g' : ByServer Held) (m' : ByServer Bool) (cl : Client) (d : Candidate)
      (l : ℕ) → Grown m b y (filtering cs g) (found s.P s.config c s.writers s.keys cl m' g' d l)
  unfolding found onto stage
  found_grown m b y cs g g' m' cl d l =
      cond_both (Grown m b y (filtering cs g)) (same_list (tags_in s.P s.config d (g' l).share) d.tags) _ _ (λ z. absurd (omega (arith, z)))
      (λ z. absurd (omega (arith, z)))

  judge_grown : (m : ByServer Bool) (b : ℕ) (y : Body) (cs : List Candidate) (g g' : ByServer Held) (cl : Client) (ls : List Candidate)
      (o : Option Candidate) →
      Grown m b y (filtering cs g) (judge s.P s.config c s.writers s.keys cl (upd m b true) cs g' ls o)
  unfolding judge onto stage
  judge_grown m b y cs g g' cl [] o = λ z. absurd (omega (arith, z))
  judge_grown m b y cs g g' cl (x ∷ ls) none = λ z. ((marked m b).0, λ n. (marked m b).1)
  judge_grown m b y cs g g' cl (x ∷ ls) (some d) =
      found_grown m b y cs g g' (upd m b true) cl d (leader s.P s.config (upd m b true) g' d s.config.servers)

  pub update_grown : (cl : Client) (b : ℕ) (y : Body) (full : Bool) (h : Hand) → is_idle h ≡ false →
      Grown cl.marks b y h (updated s c cl b y (upd cl.marks b true) full h)
  unfolding update onto stage awaits is_idle prepared
  update_grown cl b y full idle busy = clash refl busy
  update_grown cl b y true (clocking r n k) busy = λ z. absurd (omega (arith, z))
  update_grown cl b y false (clocking r n k) busy = λ z. ((marked cl.marks b).0, λ n. (marked cl.marks b).1)
  update_grown cl b y full (storing d g) busy = at-cond (eqb (code_in y) 11) _ _ (Grown cl.marks b y (storing d g))
      (λ q z. (λ j i. i, λ n. absurd (n (eqb-true (code_in y) 11 q) refl)))
      (λ k. cond_both (Grown cl.marks b y (storing d g)) full _ _ (λ z. absurd (omega (arith, z)))
      (λ z. ((marked cl.marks b).0, λ n. (marked cl.marks b).1)))
  update_grown cl b y true (completing d) busy = λ z. absurd (omega (arith, z))
  update_grown cl b y false (completing d) busy = λ z. ((marked cl.marks b).0, λ n. (marked cl.marks b).1)
  update_grown cl b y true (collecting g) busy = λ z. absurd (omega (arith, z))
  update_grown cl b y false (collecting g) busy = λ z. ((marked cl.marks b).0, λ n. (marked cl.marks b).1)
  update_grown cl b y true (filtering cs g) busy = judge_grown cl.marks b y cs g _ cl _ _
  update_grown cl b y false (filtering cs g) busy = λ z. ((marked cl.marks b).0, λ n. (marked cl.marks b).1)
  update_grown cl b y true (repairing d r) busy = λ z. absurd (omega (arith, z))
  update_grown cl b y false (repairing d r) busy = λ z. ((marked cl.marks b).0, λ n. (marked cl.marks b).1)

  -- ---- the code of a reply that fits

  abbrev pub code : Client → Packet → ℕ → ℕ
  code cl p room = take_refusal s.config c (some p) cl.calls (awaits cl.hand) cl.marks
      (high_at s.P s.config c s.writers s.keys cl) room

  pub code_is : (cl : Client) (p : Packet) (room : ℕ) → bad_faults s.config ≡ false → bad_client_def (of_write (awaits cl.hand)) c ≡ false →
      p.head.t ≡ s.config.t → p.head.client ≡ c → is_idle cl.hand ≡ false → p.head.call ≡ cl.calls → kind_of p.body ≡ awaits cl.hand →
      code cl p room ≡ cond (cl.marks p.head.server) 12
      (cond (high_at s.P s.config c s.writers s.keys cl p.head.server p.body) 14 (cond (ltb room content_room) 15 0))
  unfolding take_refusal is_idle
  code_is cl p room f r t m i l k =
      ap (λ (z : Bool). cond z 3 (cond (bad_client_def (of_write (awaits cl.hand)) c) 5
      (cond (not (eqb p.head.t s.config.t && eqb p.head.client c)) 8 T12))) f
      ∙ ap (λ (z : Bool). cond z 5 (cond (not (eqb p.head.t s.config.t && eqb p.head.client c)) 8 T12)) r
      ∙ ap (λ (z : Bool). cond (not (z && eqb p.head.client c)) 8 T12) (eq-eqb p.head.t s.config.t t)
      ∙ ap (λ (z : Bool). cond (not z) 8 T12) (eq-eqb p.head.client c m)
      ∙ ap (λ (z : Bool). cond (not z &&
      (not (eqb p.head.call cl.calls && eqb (kind_of p.body) (awaits cl.hand)) || cl.marks p.head.server)) 12 (cond z 13 T14)) i
      ∙ ap (λ (z : Bool). cond (not (z && eqb (kind_of p.body) (awaits cl.hand)) || cl.marks p.head.server) 12 T14)
      (eq-eqb p.head.call cl.calls l)
      ∙ ap (λ (z : Bool). cond (not z || cl.marks p.head.server) 12 T14) (eq-eqb (kind_of p.body) (awaits cl.hand) k)
    where
      T14 : ℕ
      T14 = cond (high_at s.P s.config c s.writers s.keys cl p.head.server p.body) 14 (cond (ltb room content_room) 15 0)

      T12 : ℕ
      T12 = cond (not (eqb (awaits cl.hand) 0) &&
          (not (eqb p.head.call cl.calls && eqb (kind_of p.body) (awaits cl.hand)) || cl.marks p.head.server)) 12
          (cond (eqb (awaits cl.hand) 0) 13 T14)

  -- the result by the code
  pub result_is : (x : StepIn s) (xs : Run s) (lent : Lent) (b o : List ℕ) (p : Packet) → x.step ≡ take-reply c lent b o → decode b ≡ some p →
      let cl = client_at_def s xs c in
      result_at s x xs ≡ (on_refusal (code cl p (length o)) (turn s c cl p) (record { client = cl; result = refused (code cl p (length o)) })).result
  unfolding do_values set_client take_step turn_on
  result_is x xs lent b o p st e = ap (λ (y : Step). (perform s (now s xs) y).result) st
      ∙ ap (λ (q : Option Packet). (take_step s.P s.config c s.writers s.keys (client_at_def s xs c) q (length o)).result) e

pub code-cases : {B : Type 0} (n : ℕ) (u v w : Bool) → n ≡ cond u 12 (cond v 14 (cond w 15 0)) → (u ≡ true → B) → (v ≡ true → B) → (n ≡ 15 → B) →
    (n ≡ 0 → B) → B
code-cases n true v w e f g h i = f refl
code-cases n false true w e f g h i = g refl
code-cases n false false true e f g h i = h e
code-cases n false false false e f g h i = i e
