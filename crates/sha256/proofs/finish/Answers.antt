-- The whole blocks of m, then the last blocks.
use Rattle.std.proofs.Common.{List, ℕ, ◌*◌, ◌/◌, ◌-◌, length, drop, refl, ap, ◌∙◌, arith, length-drop}
use Rattle.std.proofs.lemmas.List.{take_all}
use Rattle.sha256.specs.Sha256.{bytes_of}
use Rattle.sha256.proofs.Padding.{finished}
use Rattle.sha256.proofs.finish.Goals as goal

pub returns : goal.returns
returns c =
    let a = c.args in
    let m : List ℕ = a.m.now in
    let w : ℕ = length m / 64 * 64 in
    let rest = take_all (length m - w) (drop w m) (omega (arith, length-drop w m)) in
    c.bytes.ensures
    ∙ ap bytes_of c.absorb.ensures
    ∙ finished _ m a.d.now _ _ _ a.n w _ refl c.absorb-g.ensures rest refl (omega arith) (omega arith) c.tail-t.ensures
