-- Each round's packet is what the definition encodes for it. Nothing is assumed.
use Rattle.std.proofs.Common.{◌≡◌, ◌∙◌, sym, ap, ℕ, List, ◌≤◌, arith}
use mathlib.Core.Logic.{⊎_elim}
use Rattle.cluster.specs.Config.{shelf}
use Rattle.cluster.specs.Ranges.{most_servers}
use Rattle.protocol.specs.declared.rounds.Round.TheVariants as round
use Rattle.protocol.specs.Kinds.{round_number}
use Rattle.client.specs.Steps.{whole_packet}
use Rattle.client.proofs.MadeBytes.{round-bytes, clock-bytes, store_bytes, complete-bytes, collect-bytes, filter-bytes, repair-bytes}
use Rattle.client.proofs.packets.make_round.Goals as goal

pub head_of-head-requires : goal.head_of-head-requires
unfolding shelf
head_of-head-requires c =
    let p = c.requires in
    let s : c.args.server ≤ most_servers = omega (arith, p.1.0, p.1.1.1.1.0) in (p.1.0, (p.1.1.0, s))

pub make_store-requires : goal.make_store-requires
unfolding shelf
make_store-requires c =
    let p = c.requires in
    let s : c.args.server ≤ most_servers = omega (arith, p.1.0, p.1.1.1.1.0) in (p.1.0, (p.1.1.1.0, (s, (p.1.1.1.1.1.0, p.1.1.1.1.1.1.0))))

pub returns-in-Clock : goal.returns-in-Clock
returns-in-Clock c =
    let a = c.args in
    let is = sym c.requires.1.1.1.1.1.1.1 in
    ⊎_elim
    (λ (e : a.round ≡ round.Clock). (rw (c.head_of-head.ensures, c.request.ensures.value, e) at c.make_empty.ensures) ∙ ap (λ (x : List ℕ). whole_packet x a.out.now)
    (sym (round-bytes a.party.t a.party.client a.server a.call a.kept.now 1 (is ∙ ap round_number e)
    ∙ clock-bytes a.party.t a.party.client a.server a.call a.kept.now)))
    (λ (e : a.round ≡ round.Collect). (rw (c.head_of-head.ensures, c.request.ensures.value, e) at c.make_empty.ensures) ∙ ap (λ (x : List ℕ). whole_packet x a.out.now)
    (sym (round-bytes a.party.t a.party.client a.server a.call a.kept.now 4 (is ∙ ap round_number e)
    ∙ collect-bytes a.party.t a.party.client a.server a.call a.kept.now)))
    c.in-Clock.is

pub returns-in-Store : goal.returns-in-Store
returns-in-Store c =
    let a = c.args in
    let p = c.requires in
    let e = c.in-Store.is in
    (rw (c.head_of-head.ensures, c.request.ensures.value, e) at c.make_store.ensures) ∙ ap (λ (x : List ℕ). whole_packet x a.out.now)
    (sym (round-bytes a.party.t a.party.client a.server a.call a.kept.now 2 (sym p.1.1.1.1.1.1.1 ∙ ap round_number e)
    ∙ store_bytes a.party.t a.party.client a.server a.call a.kept.now p.1.1.1.0 p.1.1.1.1.0))

pub returns-in-Complete : goal.returns-in-Complete
returns-in-Complete c =
    let a = c.args in
    let is = sym c.requires.1.1.1.1.1.1.1 in
    ⊎_elim
    (λ (e : a.round ≡ round.Complete). (rw (c.head_of-head.ensures, c.request.ensures.value, e) at c.make_chosen.ensures) ∙ ap (λ (x : List ℕ). whole_packet x a.out.now)
    (sym (round-bytes a.party.t a.party.client a.server a.call a.kept.now 3 (is ∙ ap round_number e)
    ∙ complete-bytes a.party.t a.party.client a.server a.call a.kept.now)))
    (λ (e : a.round ≡ round.Repair). (rw (c.head_of-head.ensures, c.request.ensures.value, e) at c.make_chosen.ensures) ∙ ap (λ (x : List ℕ). whole_packet x a.out.now)
    (sym (round-bytes a.party.t a.party.client a.server a.call a.kept.now 6 (is ∙ ap round_number e)
    ∙ repair-bytes a.party.t a.party.client a.server a.call a.kept.now)))
    c.in-Complete.is

pub returns-in-Filter : goal.returns-in-Filter
returns-in-Filter c =
    let a = c.args in
    let e = c.in-Filter.is in
    (rw (c.head_of-head.ensures, c.request.ensures.value, e) at c.make_filter.ensures) ∙ ap (λ (x : List ℕ). whole_packet x a.out.now)
    (sym (round-bytes a.party.t a.party.client a.server a.call a.kept.now 5 (sym c.requires.1.1.1.1.1.1.1 ∙ ap round_number e)
    ∙ filter-bytes a.party.t a.party.client a.server a.call a.kept.now))
