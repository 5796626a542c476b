-- A reply is taken alike whatever keys are lent, but in the clock round: so clients 9 to 16, who never write, need none.
-- Only the end of clock makes or checks tags at a client. Nothing is assumed.
use mathlib.Core.Path.{◌≡◌, refl, sym, ◌∙◌, subst}
use mathlib.Core.Bool.{Bool, true, false, true≢false}
use mathlib.Core.List.{List, [], ◌∷◌}
use mathlib.Core.Option.{Option, none, some}
use Prim.Native.Nat.{ℕ}
use Rattle.cluster.specs.Config.{Config}
use Rattle.cluster.specs.Ranges.{within, top_writer}
use Rattle.cluster.specs.Refusals.{on_refusal}
use Rattle.cluster.proofs.Tests.{within_in}
use Rattle.protocol.specs.Values.{Candidate, Held}
use Rattle.protocol.specs.Packet.{Body, Packet}
use Rattle.protocol.specs.Primitives.{Primitives}
use Rattle.protocol.specs.Rules.{ByServer, upd}
use Rattle.protocol.specs.Client.{Client, Hand, idle, clocking, storing, completing, collecting, filtering, repairing, refused, update, judge, found, too_high, is_full_def, awaits, take_refusal, turn_on, high_at, take_step}
use Rattle.runs.specs.Runs.{Lent}
use Rattle.protocol.specs.ClientBytes.{key_of}
use Rattle.protocol.proofs.HandOk.{HandOk}
use Rattle.protocol.proofs.Fine.{Fine}

abbrev Quiet : Hand → Type 0
Quiet h = (r n : List ℕ) (k : ℕ) → h ≡ clocking r n k → ⊥

module _ (P : Primitives) (s : Config) (c : ℕ) (w w' : List ℕ) (ks ks' : ByServer (List ℕ)) (cl : Client) where
  judge-alike : (m : ByServer Bool) (cs : List Candidate) (g : ByServer Held) (l : List Candidate) (o : Option Candidate)
      → judge P s c w ks cl m cs g l o ≡ judge P s c w' ks' cl m cs g l o
  unfolding judge found
  judge-alike m cs g [] o = refl
  judge-alike m cs g (y ∷ l) none = refl
  judge-alike m cs g (y ∷ l) (some d) = refl

  update_alike : (b : ℕ) (x : Body) (m : ByServer Bool) (full : Bool) (h : Hand) → Quiet h
      → update P s c w ks cl b x m full h ≡ update P s c w' ks' cl b x m full h
  unfolding update
  update_alike b x m full idle q = refl
  update_alike b x m full (clocking r n k) q = absurd (q r n k refl)
  update_alike b x m full (storing d g) q = refl
  update_alike b x m full (completing d) q = refl
  update_alike b x m full (collecting g) q = refl
  update_alike b x m true (filtering cs g) q = judge-alike m cs _ _ _
  update_alike b x m false (filtering cs g) q = refl
  update_alike b x m full (repairing d r) q = refl

  high-alike : (x : Body) (full : Bool) (h : Hand) → Quiet h → too_high P w x full h ≡ too_high P w' x full h
  unfolding too_high
  high-alike x full idle q = refl
  high-alike x full (clocking r n k) q = absurd (q r n k refl)
  high-alike x full (storing d g) q = refl
  high-alike x full (completing d) q = refl
  high-alike x full (collecting g) q = refl
  high-alike x full (filtering cs g) q = refl
  high-alike x full (repairing d r) q = refl

  turn-alike : (o : Option Packet) → Quiet cl.hand → turn_on P s c w ks cl o ≡ turn_on P s c w' ks' cl o
  unfolding turn_on
  turn-alike none q = refl
  turn-alike (some p) q = update_alike p.head.server p.body _ _ cl.hand q

  take-alike : (o : Option Packet) (room : ℕ) → Quiet cl.hand → take_step P s c w ks cl o room ≡ take_step P s c w' ks' cl o room
  unfolding take_step high_at
  take-alike o room q =
      λ i.
      let k = take_refusal s c o cl.calls (awaits cl.hand) cl.marks
      (λ b x. high-alike x (is_full_def s (upd cl.marks b true)) cl.hand q i) room in
      on_refusal k (turn-alike o q i) (record { client = cl; result = refused k })

-- what a client in its range is lent makes no difference: a writer is lent the shelf's keys, and a reader is never in clock
pub take-lent : (P : Primitives) (s : Config) (c : ℕ) (writers : List ℕ) (keys : ByServer (List ℕ)) (lent : Lent) (cl : Client) (o : Option Packet)
    (room : ℕ)
    → Fine s c cl → (within 1 top_writer c ≡ true → (lent.writers ≡ writers) × (key_of lent.keys ≡ keys))
    → take_step P s c lent.writers (key_of lent.keys) cl o room ≡ take_step P s c writers keys cl o room
unfolding HandOk
take-lent P s c writers keys lent cl o room fine own = go (within 1 top_writer c) refl
  where
    go : (b : Bool) → within 1 top_writer c ≡ b → take_step P s c lent.writers (key_of lent.keys) cl o room ≡ take_step P s c writers keys cl o room
    go true e = let k = own e in λ i. take_step P s c (k.0 i) (k.1 i) cl o room
    go false e = take-alike P s c _ _ _ _ cl o room quiet
      where
        quiet : Quiet cl.hand
        quiet r n k h =
            let w = (subst (HandOk s c) h fine.ok.hand).0.writer in
            true≢false (sym (within_in 1 top_writer c w.0 w.1) ∙ e)
