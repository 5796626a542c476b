-- Four times 16 rounds, from the block's words.
use Rattle.std.proofs.Common.{rules, ◌≡◌, length, ap, ◌∙◌}
use Rattle.sha256.specs.Sha256.{grow, rounds, add_work, compress_of}
use Rattle.sha256.proofs.Reaching.{reached_none}
use Rattle.sha256.proofs.turns.compress.Goals as goal

pub returns : goal.returns
unfolding compress_of
returns c =
    let b = c.args.b in
    let s = c.begin-v.result in
    let l : length b ≡ 16 = search rules in
    let r1 = c.sixteen-v.ensures.1 b s l (reached_none b s l) in
    let r2 = c.sixteen-v-2.ensures.1 b s l r1 in
    let r3 = c.sixteen-v-3.ensures.1 b s l r2 in
    let r4 = c.last_sixteen-v.ensures b s l r3 in
    c.added.ensures ∙ ap (add_work _) (r4.work ∙ ap (rounds 64 (grow 48 b)) c.begin-v.ensures)
