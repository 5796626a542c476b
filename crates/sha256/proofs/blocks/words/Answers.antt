-- Each word is the one of its place.
use Rattle.std.proofs.Common.{rules, ◌≡◌, ◌+◌, ◌*◌, get_or, arith, sym, ◌∙◌}
use Rattle.std.proofs.Math.Seq.{ext_get_or}
use Rattle.sha256.specs.Sha256.{tab, word_at, block}
use Rattle.sha256.proofs.Laws.{tab_at, tab-length}
use Rattle.sha256.proofs.blocks.words.Goals as goal

pub returns : goal.returns
unfolding block
returns c =
    let m = c.args.m.now in
    let j = c.args.j in
    ext_get_or 0 _ (tab 16 (λ i. word_at m (64 * j + 4 * i))) (c.from_fn.ensures.items.long ∙ sym (tab-length 16 _))
    (λ i l. let h : get_or c.from_fn.result i 0 ≡ word_at m (64 * j + 4 * i) = search rules in h ∙ sym (tab_at 16 _ i (omega arith)))
