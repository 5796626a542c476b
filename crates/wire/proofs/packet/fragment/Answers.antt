-- The fragment in a store or a reply to filter stands at a place that kind and stamp tell.
use Rattle.std.proofs.Common.{ℕ, List, ◌+◌, drop, sym, ap, ◌∙◌, rules}
use lib.Seq.{drop-drop}
use Rattle.cluster.specs.Config.{shelf}
use Rattle.protocol.specs.Kinds.{kind_number}
use Rattle.protocol.specs.Values.{stamp_size}
use Rattle.protocol.specs.Packet.{head_size}
use Rattle.protocol.specs.View.{share_at}
use Rattle.wire.specs.Places.{packet_at}
use Rattle.wire.proofs.Whole.{fragment_broken, fragment_read, fragment_none, fragment-store, fragment_absent, fragment_present}
use Rattle.wire.proofs.packet.fragment.Goals as goal

pub returns-in_default : goal.returns-in_default
returns-in_default c = fragment_broken c.args.packet.now c.in_default.ensures

pub returns-in-Store : goal.returns-in-Store
returns-in-Store c =
    let s = c.args.packet.now in
    let (read, kind) = c.in-Some.ensures in
    let h = c.in-Some.passed.head in
    fragment_read s h read.packet
    (c.share_fragment.ensures
    ∙ ap (λ (d : List ℕ). (share_at (shelf h.t) d).fragment) (c.rest.ensures ∙ sym (drop-drop stamp_size head_size s))
    ∙ fragment-store (shelf h.t) (drop head_size s) h.kind (sym kind ∙ ap kind_number c.in-Store.is))

pub returns-then-passed-eq0 : goal.returns-then-passed-eq0
unfolding packet_at
returns-then-passed-eq0 c =
    let s = c.args.packet.now in
    let (read, kind) = c.in-Some.ensures in
    let h = c.in-Some.passed.head in
    fragment_read s h read.packet
    (sym (fragment_absent (shelf h.t) (drop head_size s) h.kind (sym kind ∙ ap kind_number c.in-FilterReply.is) (sym read.number ∙ c.if-passed-eq0.true)))

pub returns-else-passed-eq0 : goal.returns-else-passed-eq0
unfolding packet_at
returns-else-passed-eq0 c =
    let s = c.args.packet.now in
    let (read, kind) = c.in-Some.ensures in
    let h = c.in-Some.passed.head in
    fragment_read s h read.packet
    (c.share_fragment-in-FilterReply.ensures
    ∙ ap (λ (d : List ℕ). (share_at (shelf h.t) d).fragment) (c.rest-in-FilterReply.ensures ∙ sym (drop-drop (stamp_size + 1) head_size s))
    ∙ fragment_present (shelf h.t) (drop head_size s) h.kind (sym kind ∙ ap kind_number c.in-FilterReply.is)
    (λ e. c.if-passed-eq0.false (read.number ∙ e)))

pub returns-in-Clock : goal.returns-in-Clock
unfolding packet_at
returns-in-Clock c =
    let s = c.args.packet.now in
    let (read, kind) = c.in-Some.ensures in
    let h = c.in-Some.passed.head in
    fragment_read s h read.packet (sym (fragment_none (shelf h.t) (drop head_size s) h.kind (λ e. search rules) (λ e. search rules)))
