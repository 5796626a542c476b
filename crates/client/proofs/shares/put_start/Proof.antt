-- `client::shares::put_start` meets its contract, by those of the functions that it calls. Assumes nothing.
use borrow.Author.Rules.{rules}
use mathlib.Core.Path.{refl, ◌∙◌}
use Rattle.format.specs.Format.{print2}
use Rattle.format.proofs.Puts.{put_put}
use Rattle.client.proofs.shares.put_start.Statement.{statement}
use Rattle.client.proofs.shares.put_start.Tie as tie

returns : tie.Need-returns
returns c =
    let at-write-at = c.before.before.before.before.before.before in
    let at-bytes2 = at-write-at.before.before.before in
    let at-start = at-bytes2.before.before.before in
    let a = at-start.args in
    c.write_at-2.ensures ∙ rw (at-write-at.write_at.ensures, at-bytes2.bytes2-size.ensures)
    (put_put a.kept.now a.at 2 (print2 a.n) a.fragment.now refl at-start.requires.1)

pub put_start_spec : {M : Type 1} → statement M
put_start_spec = tie.close (tie.spec (λ c. search rules) (λ c κs. search rules) (λ c. search rules) (λ c κs. search rules) (λ c. search rules)
    (λ c κs. search rules) (λ c. search rules) returns)
