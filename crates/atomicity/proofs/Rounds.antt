-- How a reply may move a hand: one that is let in leaves the round as it is or ends it.
-- Assumes nothing.
use mathlib.Core.Path.{◌≡◌, refl, sym, subst}
use mathlib.Core.Bool.{Bool, true, false, cond, ◌&&◌}
use mathlib.Core.List.{List, [], ◌∷◌}
use mathlib.Core.Option.{Option, none, some}
use Prim.Native.Nat.{ℕ, suc, ◌≤◌}
use native.Mathlib.Nat.{le_refl}
use native.Mathlib.Omega.{arith}
use lib.Dec.{ltb, eqb}
use borrow.Author.Tests.{ltb-true}
use Rattle.protocol.specs.declared.Stamp.{Stamp}
use Rattle.protocol.specs.Values.{Candidate, Share, Held, same_list, no_held}
use Rattle.protocol.specs.Packet.{Body, Packet}
use Rattle.protocol.specs.Rules.{ByServer, leader, tags_in}
use Rattle.protocol.specs.Client.{Client, Hand, Turn, idle, clocking, storing, completing, collecting, filtering, repairing, accepted}
use Rattle.protocol.specs.Client.{update, judge, found, onto, higher, checks, stamp_in, code_in}
use Rattle.atomicity.specs.Steps.{System}
use Rattle.atomicity.proofs.Util.{cond_both, and_left}
use Rattle.atomicity.proofs.Model.{updated, turn, prepared_for}

-- hand and last stamp's number before, and after
pub data Next (s : System) (c : ℕ) : Hand → ℕ → Hand → ℕ → Type 0 where
  stays : (h : Hand) (l : ℕ) → Next s c h l h l
  clock_on : (r n : List ℕ) (k k' l : ℕ) → k ≤ k' → Next s c (clocking r n k) l (clocking r n k') l
  clock-ends : (r n : List ℕ) (k k' l : ℕ) → k ≤ k' → Next s c (clocking r n k) l (prepared_for s c r n (suc k')) (suc k')
  store-ends : (d : Candidate) (h : ByServer Share) (l : ℕ) → Next s c (storing d h) l (completing d) l
  collect_on : (g g' : ByServer Candidate) (l : ℕ) → Next s c (collecting g) l (collecting g') l
  collect-ends : (g : ByServer Candidate) (cs : List Candidate) (l : ℕ) → Next s c (collecting g) l (filtering cs (λ i. no_held)) l
  filter_on : (cs : List Candidate) (g g' : ByServer Held) (l : ℕ) → Next s c (filtering cs g) l (filtering cs g') l
  filter-ends : (cs : List Candidate) (g : ByServer Held) (d : Candidate) (r : List ℕ) (l : ℕ) → Next s c (filtering cs g) l (repairing d r) l
  over : (h : Hand) (l : ℕ) → Next s c h l idle l

pub higher-le : (s : System) (k : ℕ) (a : Stamp) → k ≤ higher s.P s.writers k a
unfolding higher
higher-le s k a = go (ltb k a.number && checks s.P s.writers a) refl
  where
    go : (b : Bool) → (ltb k a.number && checks s.P s.writers a) ≡ b → k ≤ cond b a.number k
    go true e = omega (arith, ltb-true k a.number (and_left (ltb k a.number) _ e))
    go false e = le_refl k

-- ---- a reply that is let in

module _ (s : System) (c : ℕ) where
  -- it keeps the call's number and is accepted
  pub record Turned (cl : Client) (h : Hand) (u : Turn) : Type 0 where
    pub calls : u.client.calls ≡ cl.calls
    pub fine : accepted u.result ≡ true
    pub next : Next s c h cl.last u.client.hand u.client.last

  found_turned : (cl : Client) (cs : List Candidate) (g g' : ByServer Held) (m : ByServer Bool) (d : Candidate) (b : ℕ) →
      Turned cl (filtering cs g) (found s.P s.config c s.writers s.keys cl m g' d b)
  unfolding found onto
  found_turned cl cs g g' m d b = cond_both (Turned cl (filtering cs g)) (same_list (tags_in s.P s.config d (g' b).share) d.tags) _ _
      (record { calls = refl; fine = refl; next = over (filtering cs g) _ }) (record { calls = refl; fine = refl; next = filter-ends cs g _ _ _ })

  judge_turned : (cl : Client) (cs : List Candidate) (g g' : ByServer Held) (m : ByServer Bool) (ls : List Candidate) (o : Option Candidate) →
      Turned cl (filtering cs g) (judge s.P s.config c s.writers s.keys cl m cs g' ls o)
  unfolding judge onto
  judge_turned cl cs g g' m [] o = record { calls = refl; fine = refl; next = over (filtering cs g) _ }
  judge_turned cl cs g g' m (l ∷ ls) none = record { calls = refl; fine = refl; next = filter_on cs g g' _ }
  judge_turned cl cs g g' m (l ∷ ls) (some d) = found_turned cl cs g g' m d (leader s.P s.config m g' d s.config.servers)

  pub turned : (cl : Client) (b : ℕ) (x : Body) (m : ByServer Bool) (full : Bool) (h : Hand) → cl.hand ≡ h →
      Turned cl h (updated s c cl b x m full h)
  unfolding update onto
  turned cl b x m full idle e = record {
    calls = refl;
    fine = refl;
    next = subst (λ (z : Hand). Next s c idle cl.last z cl.last) (sym e) (stays idle _);
  }
  turned cl b x m true (clocking r n k) e = let l = higher-le s k (stamp_in x) in
      record { calls = refl; fine = refl; next = clock-ends r n k (higher s.P s.writers k (stamp_in x)) _ l }
  turned cl b x m false (clocking r n k) e = record { calls = refl; fine = refl; next = clock_on r n k _ _ (higher-le s k (stamp_in x)) }
  turned cl b x m full (storing d h) e = cond_both (Turned cl (storing d h)) (eqb (code_in x) 11) _ _
      (record {
        calls = refl;
        fine = refl;
        next = subst (λ (z : Hand). Next s c (storing d h) cl.last z cl.last) (sym e) (stays (storing d h) _);
      })
      (cond_both (Turned cl (storing d h)) full _ _
      (record { calls = refl; fine = refl; next = store-ends d h _ }) (record { calls = refl; fine = refl; next = stays (storing d h) _ }))
  turned cl b x m true (completing d) e = record { calls = refl; fine = refl; next = over (completing d) _ }
  turned cl b x m false (completing d) e = record { calls = refl; fine = refl; next = stays (completing d) _ }
  turned cl b x m true (collecting g) e = record { calls = refl; fine = refl; next = collect-ends g _ _ }
  turned cl b x m false (collecting g) e = record { calls = refl; fine = refl; next = collect_on g _ _ }
  turned cl b x m true (filtering cs g) e = judge_turned cl cs g _ m _ _
  turned cl b x m false (filtering cs g) e = record { calls = refl; fine = refl; next = filter_on cs g _ _ }
  turned cl b x m true (repairing d r) e = record { calls = refl; fine = refl; next = over (repairing d r) _ }
  turned cl b x m false (repairing d r) e = record { calls = refl; fine = refl; next = stays (repairing d r) _ }

  pub turn_turned : (cl : Client) (p : Packet) → Turned cl cl.hand (turn s c cl p)
  turn_turned cl p = turned cl _ _ _ _ cl.hand refl
