-- The server joins where there is room and it is not held; where there is none, or it is, the choice is as it was.
use Rattle.std.proofs.Common.{◌≡◌, take, false, sym, ◌∙◌, rules}
use Rattle.erasure.specs.Choice.{among}
use Rattle.erasure.proofs.Choosing.{any-among, more_joins, more_full, more_held}
use Rattle.erasure.proofs.choice.add_server.Goals as goal
use Rattle.erasure.proofs.choice.add_server.Goals.{else-c-k-via-then-c-k+else-not-contains, else-c-k-via-else-c-k}

fresh : (c : goal.Then-not-contains) → among c.args.s (take c.args.c.count c.args.c.servers) ≡ false
fresh c = sym (any-among c.args.s (take c.args.c.count c.args.c.servers)) ∙ sym c.contains.ensures.value ∙ c.if-not-contains.true

pub returns-then-not-contains-clause-places : goal.returns-then-not-contains-clause-places
returns-then-not-contains-clause-places c = more_joins c.args.c.count c.args.k _ c.args.c.at c.args.i c.if-c-k.true (fresh c) (search rules)

pub returns-then-not-contains-clause-servers : goal.returns-then-not-contains-clause-servers
returns-then-not-contains-clause-servers c = more_joins c.args.c.count c.args.k _ c.args.c.servers c.args.s c.if-c-k.true (fresh c) (search rules)

pub returns-else-c-k-clause-places : goal.returns-else-c-k-clause-places
returns-else-c-k-clause-places c =
    elim c.else-c-k.branch [
      | else-c-k-via-then-c-k+else-not-contains w ↦ sym (more_held _ _ _ _ (sym (any-among _ _) ∙ sym w.contains.ensures.value ∙ w.if-not-contains.false))
      | else-c-k-via-else-c-k w ↦ sym (more_full _ _ _ _ _ w.if-c-k.false)
    ]

pub returns-else-c-k-clause-servers : goal.returns-else-c-k-clause-servers
returns-else-c-k-clause-servers c =
    elim c.else-c-k.branch [
      | else-c-k-via-then-c-k+else-not-contains w ↦ sym (more_held _ _ _ _ (sym (any-among _ _) ∙ sym w.contains.ensures.value ∙ w.if-not-contains.false))
      | else-c-k-via-else-c-k w ↦ sym (more_full _ _ _ _ _ w.if-c-k.false)
    ]
