-- Byte after byte.
use Rattle.std.proofs.Common.{◌≡◌, ℕ, length, get_or, refl, sym, ◌∙◌, arith}
use borrow.Author.Count.{below_more}
use lib.ListN.{set, length-set}
use lib.Seq.{ext_get_or, get_or-set_same, get_or-set_other}
use Rattle.erasure.proofs.runs.copy.Goals as goal

pub loop-i-init : goal.loop-i-init
loop-i-init c = record { size = refl; each = λ k h. absurd (omega arith) }

pub loop-i-preserved : goal.loop-i-preserved
loop-i-preserved c =
    let to = c.loop-i.to in
    let i = c.loop-i.i in
    let v : ℕ = get_or c.args.from.now i 0 in
    let p = c.loop-i.invariant in
    record {
      size = length-set to i v ∙ p.size;
      each =
          below_more (λ (k : ℕ). get_or (set to i v) k 0 ≡ get_or c.args.from.now k 0) i
          (λ k l. get_or-set_other to i k v 0 (λ z. omega arith) ∙ p.each k l)
          (get_or-set_same to i v 0 (omega (arith, p.size)));
    }

pub returns : goal.returns
returns c =
    let p = c.loop-i.invariant in
    ext_get_or 0 c.loop-i.to c.args.from.now (omega (arith, p.size)) (λ k h. p.each k (omega (arith, p.size)))
