-- The body of each kind is one field, or none.
use mathlib.Core.Path.{refl, sym, ap}
use mathlib.Core.Logic.{⊎_elim}
use Rattle.cluster.specs.Config.{shelf}
use Rattle.protocol.proofs.Bodies.{clock-kind, clock-reply-kind, store-kind, store-reply-kind, complete-kind, complete-reply-kind, collect-kind, collect-reply-kind, filter-kind, filter-reply-kind, repair-kind, repair-reply-kind}
use lib.Dec.{eqb}
use lib.ListN.{drop, get_or}
use Rattle.protocol.specs.Kinds.{kind_number}
use Rattle.protocol.specs.Values.{stamp_size}
use Rattle.protocol.specs.View.{candidate_at, share_of_size, share_at, held_at}
use Rattle.wire.specs.Places.{body_at, body_label, body_number, length_at, write_at_def}
use Rattle.wire.specs.Reads.{any_stamp_l, write_l, code_l, candidate_l, any_candidate_l, candidates_l, held_l}
use Rattle.wire.proofs.Whole.{bare, of_part, of_field, count_of, flag_of}
use Rattle.wire.proofs.packet.body_field.Goals as goal

pub returns-in-ClockReply : goal.returns-in-ClockReply
unfolding body_at body_label body_number
returns-in-ClockReply c =
    let a = c.args in
    let s = shelf a.t in
    of_part s a.s.now a.c.at any_stamp_l (clock-reply-kind s) (λ d. refl) (λ d. refl) (ap kind_number c.in-ClockReply.is) (λ d. refl)
    c.any_stamp_field.result c.any_stamp_field.ensures

pub returns-in-Store : goal.returns-in-Store
unfolding body_at body_label body_number write_at_def length_at share_at share_of_size
returns-in-Store c =
    let a = c.args in
    let s = shelf a.t in
    of_part s a.s.now a.c.at (write_l s) (store-kind s) (λ d. refl) (λ d. refl) (ap kind_number c.in-Store.is) (λ d. refl)
    c.write_field.result c.write_field.ensures

pub returns-in-StoreReply : goal.returns-in-StoreReply
unfolding body_at body_label body_number
returns-in-StoreReply c =
    let a = c.args in
    let s = shelf a.t in
    of_field s a.s.now a.c.at code_l (store-reply-kind s) (λ d. refl) (λ d. refl) (ap kind_number c.in-StoreReply.is) (λ d. refl)
    c.code_field.result c.code_field.ensures c.unlabelled.ensures

pub returns-in-CollectReply : goal.returns-in-CollectReply
unfolding body_at body_label body_number candidate_at
returns-in-CollectReply c =
    let a = c.args in
    let s = shelf a.t in
    of_part s a.s.now a.c.at (any_candidate_l s) (collect-reply-kind s) (λ d. refl) (λ d. refl) (ap kind_number c.in-CollectReply.is) (λ d. refl)
    c.any_candidate_field.result c.any_candidate_field.ensures

pub returns-in-Complete : goal.returns-in-Complete
unfolding body_at body_label body_number candidate_at
returns-in-Complete c =
    let a = c.args in
    let s = shelf a.t in
    ⊎_elim
    (λ e. of_part s a.s.now a.c.at (candidate_l s) (complete-kind s) (λ d. refl) (λ d. refl) (ap kind_number e) (λ d. refl)
    c.candidate_field.result c.candidate_field.ensures)
    (λ e. of_part s a.s.now a.c.at (candidate_l s) (repair-kind s) (λ d. refl) (λ d. refl) (ap kind_number e) (λ d. refl)
    c.candidate_field.result c.candidate_field.ensures)
    c.in-Complete.is

pub returns-in-Filter : goal.returns-in-Filter
unfolding body_at body_label body_number
returns-in-Filter c =
    let a = c.args in
    let s = shelf a.t in
    of_field s a.s.now a.c.at (candidates_l s) (filter-kind s) (λ d. refl) (λ d. sym (count_of s (get_or d 0 0) (drop 1 d)))
    (ap kind_number c.in-Filter.is) (λ d. refl)
    c.candidates_field.result c.candidates_field.ensures c.unlabelled-in-Filter.ensures

pub returns-in-FilterReply : goal.returns-in-FilterReply
unfolding body_at body_label body_number held_at
returns-in-FilterReply c =
    let a = c.args in
    let s = shelf a.t in
    of_part s a.s.now a.c.at (held_l s) (filter-reply-kind s) (λ d. refl) (λ d. flag_of (eqb (get_or d stamp_size 0) 0) _)
    (ap kind_number c.in-FilterReply.is) (λ d. refl) c.held_field.result c.held_field.ensures

pub returns-in-Clock : goal.returns-in-Clock
unfolding body_at body_label body_number
returns-in-Clock c =
    let a = c.args in
    let s = shelf a.t in
    ⊎_elim (λ e. bare s a.s.now a.c.at 1 (clock-kind s) refl refl refl c.requires _ (ap kind_number e))
    (⊎_elim (λ e. bare s a.s.now a.c.at 7 (collect-kind s) refl refl refl c.requires _ (ap kind_number e))
    (⊎_elim (λ e. bare s a.s.now a.c.at 6 (complete-reply-kind s) refl refl refl c.requires _ (ap kind_number e))
    (λ e. bare s a.s.now a.c.at 12 (repair-reply-kind s) refl refl refl c.requires _ (ap kind_number e))))
    c.in-Clock.is
