-- A slot that does not fit leads none; else its members decide. Nothing is assumed.
use Rattle.std.proofs.Common.{◌∙◌, sym, refl}
use Rattle.decide.proofs.Groups.{leads_unfit, leads-few, leads_enough}
use Rattle.decide.proofs.leading.group_of.Goals as goal

pub returns-then-not-fits : goal.returns-then-not-fits
returns-then-not-fits c =
    let q = c.args.sought in
    rw (leads_unfit q.replied.t q.replied.marks c.args.kept.now q.slot c.args.b (sym c.fits.ensures ∙ c.if-not-fits.true)) refl

pub returns-in_err-servers : goal.returns-in_err-servers
returns-in_err-servers c =
    let q = c.args.sought in
    rw (leads-few q.replied.t q.replied.marks c.args.kept.now q.slot c.args.b (sym c.fits.ensures ∙ c.if-not-fits.false) c.in_err-servers.ensures, c.from_residual.ensures) refl

pub returns : goal.returns
returns c =
    let q = c.args.sought in
    let m = c.in_ok-servers.ensures in
    record {
      leader = rw (leads_enough q.replied.t q.replied.marks c.args.kept.now q.slot c.args.b (sym c.fits.ensures ∙ c.if-not-fits.false) m.enough) refl;
      these = m.these;
    }
