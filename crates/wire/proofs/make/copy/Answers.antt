-- A copy byte by byte: after i turns the first i bytes are pasted over the buffer.
use Rattle.std.proofs.Common.{◌≡◌, ℕ, ◌+◌, List, length, get_or, sym, ap, ◌∙◌, arith}
use lib.ListN.{set}
use lib.Seq.{paste, paste-zero, paste-suc, length-paste}
use native.Mathlib.Numerals.{add-one}
use Rattle.format.proofs.Puts.{wrote-copy}
use Rattle.wire.proofs.make.copy.Goals as goal

pub loop-i-init : goal.loop-i-init
loop-i-init c = paste-zero c.args.out.now c.args.at c.args.bytes.now

pub loop-i-preserved : goal.loop-i-preserved
loop-i-preserved c =
    let a = c.args in
    let i = c.loop-i.i in
    ap (λ (z : List ℕ). set z (a.at + i) (get_or a.bytes.now i 0)) c.loop-i.invariant
    ∙ paste-suc a.out.now a.at a.bytes.now i 0 (omega arith) (omega arith)
    ∙ ap (paste a.out.now a.at a.bytes.now) (sym (add-one i))

pub returns : goal.returns
returns c =
    let a = c.args in
    let e : c.loop-i.i ≡ length a.bytes.now = omega arith in
    rw (c.loop-i.invariant, e) (wrote-copy a.out.now a.at a.bytes.now)
