-- The mark, what names the candidate, and last the digest of the fragment. Nothing is assumed.
use Rattle.std.proofs.Common.{◌∙◌, sym, ap, not, get_or, ◌<◌, suc, arith}
use borrow.Author.Tests.{eq-eqb}
use Rattle.cluster.specs.Config.{shelf}
use Rattle.cluster.specs.Ranges.{most_servers}
use Rattle.protocol.specs.View.{candidates_in, reply_slot_of}
use Rattle.decide.specs.Steps.{slot_held}
use Rattle.decide.proofs.Arguments.{few, one_answer}
use Rattle.decide.proofs.Groups.{is-marked, fits_unmarked, fits-marked}
use Rattle.decide.proofs.Replies.{names_full}
use Rattle.decide.proofs.leading.fits.Goals as goal
use Rattle.decide.proofs.leading.fits.Goals.{then-replied-j-ne0, else-replied-j-ne0}

pub bounds-replied-j : goal.bounds-replied-j
bounds-replied-j c = let p = c.requires in omega (arith, p.2, few p.0)

pub intact_at-requires : goal.intact_at-requires
unfolding slot_held
intact_at-requires c =
    let p = c.requires in
    let a = c.args in
    let t = a.sought.replied.t in
    elim c.if-replied-j-ne0.branch [
      | then-replied-j-ne0 w ↦ (
        p.0,
        p.2,
        names_full (shelf t) (reply_slot_of a.kept.now a.j) (candidates_in (shelf t) a.kept.now (suc a.sought.slot)) a.d.now
            (sym w.names_at.ensures ∙ sym w.value-is ∙ c.if-names_at.true),
      )
      | else-replied-j-ne0 w ↦ one_answer c.if-names_at.true (w.value-is ∙ ap not (eq-eqb (get_or a.sought.replied.marks a.j 0) 0 w.if-replied-j-ne0.false))
    ]

pub returns-then-names_at : goal.returns-then-names_at
returns-then-names_at c =
    let p = c.requires in
    let a = c.args in
    let who = a.sought.replied in
    let l : a.j < most_servers = omega (arith, p.2, few p.0) in
    elim c.if-replied-j-ne0.branch [
      | then-replied-j-ne0 w ↦
          c.intact_at.ensures
          ∙ sym (fits-marked who.t who.marks a.kept.now a.sought.slot a.d.now p.3 a.j l (is-marked who.marks a.j w.if-replied-j-ne0.true)
          ∙ rw (sym w.names_at.ensures ∙ sym w.value-is ∙ c.if-names_at.true))
      | else-replied-j-ne0 w ↦ one_answer c.if-names_at.true (w.value-is ∙ ap not (eq-eqb (get_or a.sought.replied.marks a.j 0) 0 w.if-replied-j-ne0.false))
    ]

pub returns-else-names_at : goal.returns-else-names_at
returns-else-names_at c =
    let p = c.requires in
    let a = c.args in
    let who = a.sought.replied in
    let l : a.j < most_servers = omega (arith, p.2, few p.0) in
    c.if-names_at.false
    ∙ elim c.if-replied-j-ne0.branch [
      | then-replied-j-ne0 w ↦
          sym (fits-marked who.t who.marks a.kept.now a.sought.slot a.d.now p.3 a.j l (is-marked who.marks a.j w.if-replied-j-ne0.true)
          ∙ rw (sym w.names_at.ensures ∙ sym w.value-is ∙ c.if-names_at.false))
      | else-replied-j-ne0 w ↦ sym (fits_unmarked who.t who.marks a.kept.now a.sought.slot a.j w.if-replied-j-ne0.false)
    ]
