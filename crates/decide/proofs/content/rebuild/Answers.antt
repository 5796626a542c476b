-- The arguments of restoring are never refused. Nothing is assumed.
use Rattle.std.proofs.Common.{◌≡◌, ◌∙◌, sym, ap, refl, ℕ, List, ◌*◌, ◌≤◌, length, take, arith, rules}
use Rattle.cluster.specs.Config.{shelf}
use Rattle.cluster.specs.Ranges.{top_length, top_faults, most_servers}
use Rattle.cluster.specs.Refusals.{outcome_told}
use Rattle.erasure.specs.Fragments.{fragment_size_def}
use Rattle.erasure.specs.Steps.{restore_step}
use Rattle.protocol.specs.View.{reply_slot_of}
use Rattle.decide.proofs.Arguments.{told-ok, outcome-number}
use Rattle.decide.proofs.Restoring.{fragments-room, rebuilt, fragments_room}
use Rattle.decide.proofs.Replies.{size_in_def, lent_slot, lent_length, slot_lent}
use Rattle.decide.proofs.content.rebuild.Goals as goal

-- the length read
size : (kept : List ℕ) (b n : ℕ) → n ≡ size_in_def (lent_slot kept b) → n ≡ size_in_def (reply_slot_of kept b)
size kept b n e = e ∙ ap size_in_def (slot_lent kept b)

-- the fragments' room, by what was read
room : (t n k f : ℕ) → t ≤ top_faults → n ≤ top_length → k ≡ (shelf t).threshold → f ≡ fragment_size_def (shelf t).threshold n
    → k * f ≤ fragments_room
room t n k f h m e q = rw (e, q) (fragments-room t n h m)

products : (k l f g : ℕ) → k ≡ l → f ≡ g → k * f ≡ l * g
products k l f g e q = rw (e, q) refl

-- what is lent to restoring
lent : (t n k l f g : ℕ) (servers frs out : List ℕ) → k ≡ l → f ≡ g
    → restore_step t n (take k servers) (take (k * f) frs) out ≡ restore_step t n (take l servers) (take (l * g) frs) out
lent t n k l f g servers frs out e q = rw (e, q) refl

pub size_of-n-requires : goal.size_of-n-requires
size_of-n-requires c = lent_length c.args.kept.now c.args.b c.requires.0.size c.requires.1

pub fragment_size-requires : goal.fragment_size-requires
fragment_size-requires c =
    let a = c.args in
    let p = c.requires in
    let n = size a.kept.now a.b c.size_of-n.result c.size_of-n.ensures in
    (p.0.low, p.0.high, omega (arith, p.2.top, n))

pub overflow_mul-end : goal.overflow_mul-end
overflow_mul-end c =
    let a = c.args in
    let p = c.requires in
    let n = size a.kept.now a.b c.size_of-n.result c.size_of-n.ensures in
    omega (
      arith,
      room a.t c.size_of-n.result c.threshold-k.result c.fragment_size.result p.0.high (omega (arith, p.2.top, n)) c.threshold-k.ensures.0
          c.fragment_size.ensures,
    )

pub fragments_of-fragments-requires : goal.fragments_of-fragments-requires
fragments_of-fragments-requires c =
    let a = c.args in
    let p = c.requires in
    let n = size a.kept.now a.b c.size_of-n.result c.size_of-n.ensures in
    (p.0, omega (arith, p.2.top, n), p.3)

pub unwrap-requires : goal.unwrap-requires
unwrap-requires c =
    let a = c.args in
    let p = c.requires in
    let n = size a.kept.now a.b c.size_of-n.result c.size_of-n.ensures in
    let wide : length a.servers ≡ most_servers = search rules in
    told-ok c.restore.result (sym (outcome-number c.restore.result) ∙ (rebuilt a.t a.kept.now a.servers c.size_of-n.result p.0 (omega (arith, p.2.top, n))
    p.3 a.b c.fragments_of-fragments.result a.out.now c.restore.new.out (outcome_told c.restore.result) n wide c.fragments_of-fragments.ensures p.4
    (c.restore.ensures ∙ lent a.t c.size_of-n.result c.threshold-k.result (shelf a.t).threshold c.fragment_size.result
    (fragment_size_def (shelf a.t).threshold c.size_of-n.result) a.servers c.fragments_of-fragments.result a.out.now c.threshold-k.ensures.0
    c.fragment_size.ensures)).0)

pub returns : goal.returns
returns c =
    let a = c.args in
    let p = c.requires in
    let n = size a.kept.now a.b c.size_of-n.result c.size_of-n.ensures in
    let wide : length a.servers ≡ most_servers = search rules in
    let r = rebuilt a.t a.kept.now a.servers c.size_of-n.result p.0 (omega (arith, p.2.top, n)) p.3 a.b c.fragments_of-fragments.result a.out.now
    c.restore.new.out (outcome_told c.restore.result) n wide c.fragments_of-fragments.ensures p.4
    (c.restore.ensures ∙ lent a.t c.size_of-n.result c.threshold-k.result (shelf a.t).threshold c.fragment_size.result
    (fragment_size_def (shelf a.t).threshold c.size_of-n.result) a.servers c.fragments_of-fragments.result a.out.now c.threshold-k.ensures.0
    c.fragment_size.ensures) in
    ((rw c.unwrap.ensures at r.1), r.2)
