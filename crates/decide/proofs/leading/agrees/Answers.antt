-- The leader itself; then the mark, what names the candidate, the same share, and last the digest of the fragment. Nothing is assumed.
use Rattle.std.proofs.Common.{refl, ◌∙◌, sym, ap, not, get_or, ◌<◌, suc, arith}
use borrow.Author.Tests.{eq-eqb}
use Rattle.cluster.specs.Config.{shelf}
use Rattle.cluster.specs.Ranges.{most_servers}
use Rattle.protocol.specs.View.{candidates_in, reply_slot_of}
use Rattle.decide.specs.Steps.{slot_held}
use Rattle.decide.proofs.Arguments.{few, one_answer}
use Rattle.decide.proofs.Groups.{is-marked, agrees_unmarked, leader_full, agrees_nameless, agrees_unlike, agrees_last, agrees_self}
use Rattle.decide.proofs.Replies.{names_full}
use Rattle.decide.proofs.leading.agrees.Goals as goal
use Rattle.decide.proofs.leading.agrees.Goals.{then-replied-j-ne0, else-replied-j-ne0, then-names_at, else-names_at}

pub bounds-replied-j : goal.bounds-replied-j
bounds-replied-j c = let p = c.requires in omega (arith, p.3, few p.0)

pub alike_at-requires : goal.alike_at-requires
unfolding slot_held
alike_at-requires c =
    let p = c.requires in
    let a = c.args in
    let who = a.sought.replied in
    let l : a.j < most_servers = omega (arith, p.3, few p.0) in
    let k : a.b < most_servers = omega (arith, p.2, few p.0) in
    elim c.if-replied-j-ne0.branch [
      | then-replied-j-ne0 w ↦ (
        p.0,
        k,
        l,
        leader_full who.t who.marks a.kept.now a.sought.slot a.d.now p.4 a.b k p.5,
        names_full (shelf who.t) (reply_slot_of a.kept.now a.j) (candidates_in (shelf who.t) a.kept.now (suc a.sought.slot)) a.d.now
            (sym w.names_at.ensures ∙ sym w.value-is ∙ c.if-names_at.true),
      )
      | else-replied-j-ne0 w ↦ one_answer c.if-names_at.true (w.value-is ∙ ap not (eq-eqb (get_or a.sought.replied.marks a.j 0) 0 w.if-replied-j-ne0.false))
    ]

pub intact_at-requires : goal.intact_at-requires
unfolding slot_held
intact_at-requires c =
    let p = c.requires in
    let a = c.args in
    let who = a.sought.replied in
    elim c.if-names_at.branch [
      | then-names_at v ↦ elim c.if-replied-j-ne0.branch [
        | then-replied-j-ne0 w ↦ (
          p.0,
          p.3,
          names_full (shelf who.t) (reply_slot_of a.kept.now a.j) (candidates_in (shelf who.t) a.kept.now (suc a.sought.slot)) a.d.now
              (sym w.names_at.ensures ∙ sym w.value-is ∙ v.if-names_at.true),
        )
        | else-replied-j-ne0 w ↦ one_answer v.if-names_at.true (w.value-is ∙ ap not (eq-eqb (get_or a.sought.replied.marks a.j 0) 0 w.if-replied-j-ne0.false))
      ]
      | else-names_at v ↦ one_answer c.if-alike_at.true (v.value-is ∙ v.if-names_at.false)
    ]

pub returns-then-j-b : goal.returns-then-j-b
returns-then-j-b c =
    let p = c.requires in
    let a = c.args in
    let who = a.sought.replied in
    let k : a.b < most_servers = omega (arith, p.2, few p.0) in
    rw (c.if-j-b.true, agrees_self who.t who.marks a.kept.now a.sought.slot a.d.now p.4 a.b k p.5) (eq-eqb a.b a.b refl)

pub returns-then-alike_at : goal.returns-then-alike_at
returns-then-alike_at c =
    let p = c.requires in
    let a = c.args in
    let who = a.sought.replied in
    let l : a.j < most_servers = omega (arith, p.3, few p.0) in
    let k : a.b < most_servers = omega (arith, p.2, few p.0) in
    elim c.if-names_at.branch [
      | then-names_at v ↦ elim c.if-replied-j-ne0.branch [
        | then-replied-j-ne0 w ↦
            c.intact_at.ensures
            ∙ sym (agrees_last who.t who.marks a.kept.now a.sought.slot a.d.now p.4 a.b k p.5 a.j l
            (is-marked who.marks a.j w.if-replied-j-ne0.true) (sym w.names_at.ensures ∙ sym w.value-is ∙ v.if-names_at.true)
            (sym v.alike_at.ensures ∙ sym v.value-is ∙ c.if-alike_at.true))
        | else-replied-j-ne0 w ↦ one_answer v.if-names_at.true (w.value-is ∙ ap not (eq-eqb (get_or a.sought.replied.marks a.j 0) 0 w.if-replied-j-ne0.false))
      ]
      | else-names_at v ↦ one_answer c.if-alike_at.true (v.value-is ∙ v.if-names_at.false)
    ]

pub returns-else-alike_at : goal.returns-else-alike_at
returns-else-alike_at c =
    let p = c.requires in
    let a = c.args in
    let who = a.sought.replied in
    let l : a.j < most_servers = omega (arith, p.3, few p.0) in
    let k : a.b < most_servers = omega (arith, p.2, few p.0) in
    c.if-alike_at.false
    ∙ sym (elim c.if-replied-j-ne0.branch [
      | then-replied-j-ne0 w ↦
          let m = is-marked who.marks a.j w.if-replied-j-ne0.true in
          elim c.if-names_at.branch [
            | then-names_at v ↦ agrees_unlike who.t who.marks a.kept.now a.sought.slot a.d.now p.4 a.b k p.5 a.j l m
                (sym v.alike_at.ensures ∙ sym v.value-is ∙ c.if-alike_at.false)
            | else-names_at v ↦ agrees_nameless who.t who.marks a.kept.now a.sought.slot a.d.now p.4 a.b k p.5 a.j l m
                (sym w.names_at.ensures ∙ sym w.value-is ∙ v.if-names_at.false)
          ]
      | else-replied-j-ne0 w ↦ agrees_unmarked who.t who.marks a.kept.now a.sought.slot a.b a.j w.if-replied-j-ne0.false
    ])
