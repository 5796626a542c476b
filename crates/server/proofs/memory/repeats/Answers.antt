-- None stored, or above the highest stamp: none is held; else it is what is found for the bytes at the place. Assumes nothing.
use Rattle.std.proofs.Common.{refl, drop}
use borrow.Author.Tests.{lt-leb}
use Rattle.server.proofs.Finding.{find_none, find-above}
use Rattle.server.proofs.Once.{repeats_none, repeats_as}
use Rattle.server.proofs.memory.repeats.Goals as goal

pub returns-in_default : goal.returns-in_default
returns-in_default c =
    let x = drop c.args.read.end c.args.memory.now in
    repeats_none c.args.memory.now c.args.read (λ i. (c.type_inv.memory i).fits) refl refl
    (find_none c.args.memory.now c.args.read x refl c.in_default.is)

pub returns-then-key-top : goal.returns-then-key-top
returns-then-key-top c =
    rw c.is_some.ensures
    (repeats_as c.args.memory.now c.args.read (λ i. (c.type_inv.memory i).fits) c.rest.ensures c.find_ranked.result c.find_ranked.ensures)

pub returns-else-key-top : goal.returns-else-key-top
returns-else-key-top c =
    let x = drop c.args.read.end c.args.memory.now in
    rw (lt-leb _ _ c.if-key-top.false)
    (repeats_none c.args.memory.now c.args.read (λ i. (c.type_inv.memory i).fits) refl refl
    (find-above c.args.memory.now c.args.read x refl c.in-Some.is c.requires c.if-key-top.false))
