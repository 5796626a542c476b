-- Refused: the number alone. Accepted: the arguments are in range, and the table lent is the shelf's.
use Rattle.std.proofs.Common.{◌≡◌, ◌≤◌, ◌+◌, ◌-◌, ◌++◌, ℕ, List, length, replicate, sym, ap, ap₂, subst, ◌∙◌, arith}
use Rattle.std.proofs.lemmas.Result.{err_from_is_err_and}
use lib.Seq.{length-take-le}
use Rattle.cluster.specs.Config.{shelf, up_to}
use Rattle.cluster.specs.Ranges.{most_servers}
use Rattle.erasure.specs.Fragments.{fragment_size_def, fragment}
use Rattle.erasure.specs.Steps.{FragmentOutcome, fragment_room, fragment_refusal_def}
use Rattle.erasure.proofs.Answers.{Lent, lent, size_fits, make-refused, make-accepted}
use Rattle.erasure.proofs.Refused.{Makes, makes, refused-number}
use Rattle.erasure.proofs.fragment.Goals as goal

pub returns-in_err-fragment_refusal : goal.returns-in_err-fragment_refusal
returns-in_err-fragment_refusal c =
    let a = c.args in
    let p = err_from_is_err_and c.from_residual.result c.from_residual.ensures.1 in
    rw (p.1, p.2) (sym (make-refused a.t a.server a.content.now _ c.in_err-fragment_refusal.ensures (refused-number _)))

-- what is known of arguments that are not refused, and of the table that is lent
passed : (t server : ℕ) (content : List ℕ) → 0 ≡ fragment_refusal_def t server (length content) → Makes t server (length content)
passed t server content e = makes t server (length content) (sym e)

shelf-lent : (t server s : ℕ) (content all : List ℕ) → 0 ≡ fragment_refusal_def t server (length content) → s ≡ (shelf t).servers → all ≡ up_to most_servers
    → Lent t s all
shelf-lent t server s content all e = lent t s all (passed t server content e).faults

pub servers_of-s-requires : goal.servers_of-s-requires
servers_of-s-requires c = (passed c.args.t c.args.server c.args.content.now c.in_ok-fragment_refusal.ensures).faults.1

pub threshold_of-k-requires : goal.threshold_of-k-requires
threshold_of-k-requires c = (passed c.args.t c.args.server c.args.content.now c.in_ok-fragment_refusal.ensures).faults.1

pub size-f-requires : goal.size-f-requires
unfolding shelf
size-f-requires c =
    let k : c.threshold_of-k.result ≡ c.args.t + 1 = c.threshold_of-k.ensures in
    let ok = passed c.args.t c.args.server c.args.content.now c.in_ok-fragment_refusal.ensures in
    (omega (arith, k), omega (arith, k, ok.faults.1), ok.bytes)

pub slice_bounds-points-end : goal.slice_bounds-points-end
slice_bounds-points-end c =
    (shelf-lent c.args.t c.args.server _ c.args.content.now _ c.in_ok-fragment_refusal.ensures c.servers_of-s.ensures c.numbered-points.ensures).enough

pub slice_bounds-make-end : goal.slice_bounds-make-end
slice_bounds-make-end c =
    sym (length-take-le _ _
    (shelf-lent c.args.t c.args.server _ c.args.content.now _ c.in_ok-fragment_refusal.ensures c.servers_of-s.ensures c.numbered-points.ensures).enough)

pub make-bytes-requires : goal.make-bytes-requires
unfolding shelf
make-bytes-requires c =
    let a = c.args in
    let k : c.threshold_of-k.result ≡ a.t + 1 = c.threshold_of-k.ensures in
    let ok = passed a.t a.server a.content.now c.in_ok-fragment_refusal.ensures in
    let points = shelf-lent a.t a.server _ a.content.now _ c.in_ok-fragment_refusal.ensures c.servers_of-s.ensures c.numbered-points.ensures in (
      omega (arith, k),
      omega (arith, k, ok.faults.1),
      omega (arith, k, points.long),
      points.apart,
      ok.number.0,
      omega (arith, points.long, ok.number.1),
      c.size-f.ensures,
      subst (λ (x : ℕ). x ≤ fragment_room) (sym c.size-f.ensures)
          (size_fits c.threshold_of-k.result (length a.content.now) (omega (arith, k, ok.faults.0)) ok.bytes),
    )

pub returns : goal.returns
returns c =
    let a = c.args in
    let content = a.content.now in
    let made : List ℕ → ℕ → ℕ → FragmentOutcome = λ l k f. record {
      number = 0;
      count = f;
      bytes = fragment l k content a.server ++ replicate (fragment_room - f) 0;
    } in
    let points = shelf-lent a.t a.server _ content _ c.in_ok-fragment_refusal.ensures c.servers_of-s.ensures c.numbered-points.ensures in
    ap (λ (b : List ℕ). record { number = 0; count = c.size-f.result; bytes = b }) c.make-bytes.ensures
    ∙ ap (made _ _) c.size-f.ensures
    ∙ ap₂ (λ (l : List ℕ) (k : ℕ). made l k (fragment_size_def k (length content))) points.points c.threshold_of-k.ensures
    ∙ sym (make-accepted a.t a.server content (sym c.in_ok-fragment_refusal.ensures))
