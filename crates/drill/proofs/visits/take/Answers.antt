-- The client's step on its slot, with the keys that it is lent. Assumes nothing.
use Rattle.std.proofs.Common.{◌≡◌, ℕ, List, ◌+◌, ◌-◌, ◌∙◌, ap, arith}
use Rattle.std.proofs.lemmas.Result.{err_from_is_err_and}
use Rattle.protocol.specs.declared.Call.{Call}
use Rattle.protocol.specs.Primitives.{real}
use Rattle.protocol.specs.ClientBytes.{client_take}
use Rattle.client.specs.Core.{core_take}
use Rattle.runs.specs.Runs.{Lent}
use Rattle.drill.specs.Area.{call_in, kept_in, take_in_def}
use Rattle.drill.specs.Steps.{drill_shelf, lent_to}
use Rattle.drill.proofs.Slots.{take_lent, takes_ok, takes_err}
use Rattle.drill.proofs.visits.take.Goals as goal

-- what is taken with the keys that are lent is what the definition says
lent_keys : (t client : ℕ) (w ks reply output : List ℕ) (x : Call) (writers : List ℕ) (keys : List (List ℕ))
    → record { writers = writers; keys = keys } ≡ lent_to (drill_shelf 0) client
    → ((l : Lent) → core_take t client l.writers l.keys x ks reply output
    ≡ client_take real t client l.writers l.keys (call_in w client) (kept_in w client) reply output)
    → core_take t client writers keys x ks reply output ≡ take_in_def t w client reply output
unfolding drill_shelf lent_to
lent_keys t client w ks reply output x writers keys e h =
    ap (λ (z : Lent). core_take t client z.writers z.keys x ks reply output) e ∙ h (lent_to (drill_shelf 0) client)

pub returns-in_err-answered : goal.returns-in_err-answered
returns-in_err-answered c =
    let a = c.args in
    let k = c.kept_at-a.result + 24576 - c.kept_at-a.result in
    let p = err_from_is_err_and c.from_residual.result c.from_residual.ensures.1 in
    let e = lent_keys a.t a.client a.work.now _ a.reply.now a.out.now _ _ _ c.lent_to.ensures
    (λ l. take_lent a.work.now a.client c.requires.0 c.requires.1 k c.kept_at-a.ensures.0 (omega arith) a.t l.writers l.keys a.reply.now a.out.now
    c.call_of-call.ensures) in
    rw (p.1, p.2) (takes_err a.work.now a.client c.requires.0 c.requires.1 k c.kept_at-a.ensures.0 (omega arith) c.take_in.new.kept
    c.take_in.auto.kept _ _ c.in_err-answered.field-0.0 (c.in_err-answered.ensures ∙ e) c.call_of-call.ensures)

pub returns : goal.returns
returns c =
    let a = c.args in
    let k = c.kept_at-a.result + 24576 - c.kept_at-a.result in
    let e = lent_keys a.t a.client a.work.now _ a.reply.now a.out.now _ _ _ c.lent_to.ensures
    (λ l. take_lent a.work.now a.client c.requires.0 c.requires.1 k c.kept_at-a.ensures.0 (omega arith) a.t l.writers l.keys a.reply.now a.out.now
    c.call_of-call.ensures) in
    takes_ok a.work.now a.client c.requires.0 c.requires.1 k c.kept_at-a.ensures.0 (omega arith) c.take_in.new.kept c.take_in.auto.kept _
    c.call_of-call.result c.in_ok-answered.answered (c.in_ok-answered.ensures ∙ e) c.put_call.ensures.0 c.put_call.ensures.1
