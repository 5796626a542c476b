use Rattle.std.proofs.Common.{◌≡◌, refl, rules, arith}
use Rattle.std.proofs.lemmas.Slice.{overwrites}
use Rattle.sha256.specs.Sha256.{tab, bytes_of}
use Rattle.sha256.proofs.Laws.{tab_all}
use Rattle.sha256.proofs.Quads.{quad_more}
use Rattle.sha256.proofs.bytes.Goals as goal

pub loop-i-init : goal.loop-i-init
unfolding tab
loop-i-init c = (refl, refl)

pub loop-i-preserved : goal.loop-i-preserved
loop-i-preserved c =
    let at = c.loop-i in (
      search (rules, overwrites),
      quad_more c.args.h at.out _ at.i _ at.invariant.0 (omega arith) at.invariant.1 (cc) (omega arith),
    )

pub returns : goal.returns
unfolding bytes_of
returns c = let e : c.loop-i.i ≡ 8 = omega arith in tab_all 32 _ _ c.loop-i.invariant.0 (rw e at c.loop-i.invariant.1)
