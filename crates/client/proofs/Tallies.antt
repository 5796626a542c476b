-- A round's tally: one more mark with the marks counted anew, and the count that ends the round.
-- A mark set in the bytes is a mark more of the servers. Assumes nothing.
use mathlib.Core.Path.{◌≡◌, sym, ap, ◌∙◌}
use mathlib.Core.Bool.{Bool, true}
use Prim.Native.Nat.{ℕ, suc, ◌-◌, ◌≤◌}
use native.Mathlib.Omega.{arith}
use lib.Dec.{leb}
use lib.ListN.{length, set}
use Rattle.cluster.specs.Config.{shelf, quorum}
use Rattle.protocol.specs.declared.Call.{Call}
use Rattle.protocol.specs.declared.Tally.{Tally}
use Rattle.protocol.specs.Rules.{ByServer, upd, count_to}
use Rattle.protocol.specs.View.{marked}
use Rattle.protocol.specs.Client.{is_full_def}
use Rattle.protocol.proofs.Marks.{marked-set}
use Rattle.client.specs.Rounds.{counted, noted, ends}

pub noted_is : (t : ℕ) (y : Tally) (b : ℕ) → 1 ≤ b → b ≤ length y.marks
    → counted (shelf t) (record { round = y.round; count = y.count; marks = set y.marks (b - 1) 1 }) ≡ noted (shelf t) y b
unfolding counted noted
noted_is t y b lo hi =
    let e : suc (b - 1) ≡ b = omega arith in
    let m : marked (set y.marks (b - 1) 1) ≡ upd (marked y.marks) b true =
    marked-set y.marks (b - 1) (omega arith) ∙ ap (λ (i : ℕ). upd (marked y.marks) i true) e in
    ap (λ (z : ByServer Bool). record { round = y.round; count = count_to (shelf t).servers z; marks = set y.marks (b - 1) 1 }) m

-- the count with server b's mark tells whether its reply ends the round: r is the code's test of it
pub ends_by : (t : ℕ) (c : Call) (b : ℕ) (y : Tally) → y ≡ noted (shelf t) c.tally b → (r v : Bool) → r ≡ leb (quorum (shelf t)) y.count → r ≡ v
    → ends (shelf t) c b ≡ v
unfolding noted ends is_full_def
ends_by t c b y e r v f g = ap (λ (z : Tally). leb (quorum (shelf t)) z.count) (sym e) ∙ sym f ∙ g
