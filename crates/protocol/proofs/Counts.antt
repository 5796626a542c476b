-- The count in a client's bytes: after every accepted step it is the number of the shelf's servers that are marked, whatever was lent.
-- A mark put back stands for its mark, place by place. Nothing is assumed.
use mathlib.Core.Path.{◌≡◌, refl, sym}
use mathlib.Core.Bool.{Bool, true, false, cond, not}
use mathlib.Core.List.{List}
use Prim.Native.Nat.{ℕ, zero, suc, ◌+◌, ◌≤◌, ◌<◌}
use native.Mathlib.Omega.{arith}
use lib.Dec.{eqb}
use lib.ListN.{length, get_or}
use borrow.Author.Tests.{ne_eqb}
use Rattle.cluster.specs.Config.{Config}
use Rattle.protocol.specs.declared.Call.{Call}
use Rattle.protocol.specs.Rules.{ByServer, count_to}
use Rattle.protocol.specs.Client.{Turn}
use Rattle.protocol.specs.View.{marked}
use Rattle.protocol.specs.ClientBytes.{put_marks, put_back, told, after}
use Rattle.protocol.proofs.PutMarks.{marks_at_lem}

-- a byte that stands for a mark
mark_of : (b : Bool) (x : ℕ) → not (eqb (cond b (cond (eqb x 0) 1 x) 0) 0) ≡ b
mark_of false x = refl
mark_of true zero = refl
mark_of true (suc x) = let e = ne_eqb (suc x) 0 (λ z. omega arith) in rw e (rw e)

marked_put : (ms : List ℕ) (m : ByServer Bool) (i : ℕ) → i < length ms → marked (put_marks 0 ms m) (suc i) ≡ m (suc i)
unfolding marked
marked_put ms m i l = let e : 0 + i ≡ i = omega arith in rw (marks_at_lem 0 ms m i l, e) (mark_of (m (suc i)) (get_or ms i 0))

count_put : (n : ℕ) (ms : List ℕ) (m : ByServer Bool) → n ≤ length ms → count_to n (marked (put_marks 0 ms m)) ≡ count_to n m
unfolding count_to
count_put zero ms m l = refl
count_put (suc n) ms m l = rw (marked_put ms m n (omega arith), count_put n ms m (omega arith))

pub count-shown : (s : Config) (c : Call) (kept k : List ℕ) (u : Turn) → s.servers ≤ length c.tally.marks → (told u.result).number ≡ 0
    → let d = (after s c kept k u).call.tally in d.count ≡ count_to s.servers (marked d.marks)
unfolding after put_back
count-shown s c kept k u l ok = rw ok (sym (count_put s.servers c.tally.marks u.client.marks l))
