-- Refused: nothing is written. Accepted: the runs that are added up are those of the first k different servers.
use Rattle.std.proofs.Common.{◌≡◌, ◌≤◌, ◌*◌, ◌++◌, ℕ, List, length, map, take, drop, sym, ap, ap₂, subst, ◌∙◌, arith, rules}
use native.Mathlib.Nat.{suc-ne-zero}
use lib.Seq.{length-take-le}
use Rattle.std.proofs.lemmas.Result.{err_from_is_err_and}
use Rattle.cluster.specs.Config.{shelf, point_of}
use Rattle.cluster.specs.Refusals.{first_of}
use Rattle.erasure.specs.Fragments.{fragment_size_def, restored}
use Rattle.erasure.specs.Choice.{first_different, parts_at}
use Rattle.erasure.specs.Steps.{fragment_room, argument_checks, restored_bytes}
use Rattle.erasure.specs.System.{width}
use Rattle.erasure.specs.Lanes.{rebuilt_of}
use Rattle.erasure.proofs.Laws.{runs_cover}
use Rattle.erasure.proofs.Refused.{Restores, restores, refused-number}
use Rattle.erasure.proofs.Answers.{lent, size_fits}
use Rattle.erasure.proofs.Chosen.{restore-refused, restore-accepted, refused_arguments, refused-few, refused_none}
use Rattle.erasure.proofs.Chosen.{counted, few_are, enough_are, fit, rebuilt_is, ready, threshold-is}
use Rattle.erasure.proofs.restore.Goals as goal

pub returns-in_err-restore_refusal : goal.returns-in_err-restore_refusal
returns-in_err-restore_refusal c =
    let a = c.args in
    let p = err_from_is_err_and c.from_residual.result c.from_residual.ensures.1 in
    rw (p.1, p.2)
    (sym (restore-refused a.t a.length a.servers.now a.fragments.now a.out.now _
    (refused_arguments a.t a.length a.servers.now a.fragments.now a.out.now _ c.in_err-restore_refusal.ensures (refused-number _)) (refused-number _)))

-- what is known of arguments that are not refused
passed : (t n : ℕ) (servers fragments out : List ℕ) → 0 ≡ first_of (argument_checks t n servers (length fragments) (length out))
    → Restores t n servers (length fragments) (length out)
passed t n servers fragments out e = restores t n servers (length fragments) (length out) (sym e)

pub threshold_of-k-requires : goal.threshold_of-k-requires
threshold_of-k-requires c = (passed c.args.t c.args.length c.args.servers.now c.args.fragments.now c.args.out.now c.in_ok-restore_refusal.ensures).faults.1

pub select-c-requires : goal.select-c-requires
unfolding shelf
select-c-requires c =
    let is = threshold-is c.args.t c.threshold_of-k.result c.threshold_of-k.ensures in
    let ok = passed c.args.t c.args.length c.args.servers.now c.args.fragments.now c.args.out.now c.in_ok-restore_refusal.ensures in
    (omega (arith, is, ok.faults.1), λ i h. omega (arith, ok.faults.1, (ok.numbers i h).1))

pub returns-then-c-k : goal.returns-then-c-k
returns-then-c-k c =
    let a = c.args in
    let servers = a.servers.now in
    let ok = passed a.t a.length servers a.fragments.now a.out.now c.in_ok-restore_refusal.ensures in
    let chosen = c.select-c.result in
    let la : length chosen.at ≡ width = search rules in
    let ls : length chosen.servers ≡ width = search rules in
    let is = threshold-is a.t c.threshold_of-k.result c.threshold_of-k.ensures in
    let counts = counted c.threshold_of-k.result servers chosen c.select-c.ensures (omega (arith, is, ok.faults.1)) la ls in
    sym (restore-refused a.t a.length servers a.fragments.now a.out.now 16
    (refused-few a.t a.length servers a.fragments.now a.out.now (sym c.in_ok-restore_refusal.ensures)
    (few_are a.t c.threshold_of-k.result chosen.count servers c.threshold_of-k.ensures counts c.if-c-k.true)) (suc-ne-zero 15))

pub servers_of-s-requires : goal.servers_of-s-requires
servers_of-s-requires c = (passed c.args.t c.args.length c.args.servers.now c.args.fragments.now c.args.out.now c.in_ok-restore_refusal.ensures).faults.1

pub slice_bounds-points-end : goal.slice_bounds-points-end
slice_bounds-points-end c =
    (lent c.args.t _ _ (passed c.args.t c.args.length c.args.servers.now c.args.fragments.now c.args.out.now c.in_ok-restore_refusal.ensures).faults
    c.servers_of-s.ensures c.numbered-points.ensures).enough

pub slice_bounds-rebuild-end : goal.slice_bounds-rebuild-end
slice_bounds-rebuild-end c =
    sym (length-take-le _ _
    (lent c.args.t _ _ (passed c.args.t c.args.length c.args.servers.now c.args.fragments.now c.args.out.now c.in_ok-restore_refusal.ensures).faults
    c.servers_of-s.ensures c.numbered-points.ensures).enough)

pub size-requires : goal.size-requires
size-requires c =
    let ok = passed c.args.t c.args.length c.args.servers.now c.args.fragments.now c.args.out.now c.in_ok-restore_refusal.ensures in
    let is = threshold-is c.args.t c.threshold_of-k.result c.threshold_of-k.ensures in
    (omega (arith, is), omega (arith, is, ok.faults.1), ok.bytes)

pub rebuild-requires : goal.rebuild-requires
rebuild-requires c =
    let a = c.args in
    let servers = a.servers.now in
    let ok = passed a.t a.length servers a.fragments.now a.out.now c.in_ok-restore_refusal.ensures in
    let k = c.threshold_of-k.result in
    let is = threshold-is a.t k c.threshold_of-k.ensures in
    let chosen = c.select-c.result in
    let la : length chosen.at ≡ width = search rules in
    let ls : length chosen.servers ≡ width = search rules in
    let r = ready a.t k _ servers _ chosen ok.faults ok.numbers c.threshold_of-k.ensures c.select-c.ensures la ls c.if-c-k.false
    (lent a.t _ _ ok.faults c.servers_of-s.ensures c.numbered-points.ensures) in
    let f : c.size.result ≡ fragment_size_def (shelf a.t).threshold a.length =
    c.size.ensures ∙ ap (λ (x : ℕ). fragment_size_def x a.length) c.threshold_of-k.ensures in (
      r.some,
      r.most,
      r.there,
      r.table,
      r.apart,
      r.numbers,
      subst (λ (x : ℕ). a.length ≤ x * c.size.result) (sym r.all)
          (subst (λ (x : ℕ). a.length ≤ k * x) (sym c.size.ensures) (runs_cover k a.length (omega (arith, is)))),
      omega (arith, ok.bytes, ok.fits),
      λ j h. fit k servers chosen c.select-c.ensures (omega (arith, is, ok.faults.1)) la ls c.if-c-k.false c.size.result (length a.fragments.now)
          (ok.whole ∙ ap (λ (x : ℕ). length servers * x) (sym f)) j (omega (arith, r.all, h)),
      subst (λ (x : ℕ). x ≤ fragment_room) (sym c.size.ensures) (size_fits k a.length (omega (arith, is, ok.faults.0)) ok.bytes),
    )

pub returns : goal.returns
unfolding restored_bytes
returns c =
    let a = c.args in
    let n = a.length in
    let servers = a.servers.now in
    let fragments = a.fragments.now in
    let ok = passed a.t n servers fragments a.out.now c.in_ok-restore_refusal.ensures in
    let k = c.threshold_of-k.result in
    let is = threshold-is a.t k c.threshold_of-k.ensures in
    let most : k ≤ width = omega (arith, is, ok.faults.1) in
    let chosen = c.select-c.result in
    let held = c.select-c.ensures in
    let la : length chosen.at ≡ width = search rules in
    let ls : length chosen.servers ≡ width = search rules in
    let lends = lent a.t _ _ ok.faults c.servers_of-s.ensures c.numbered-points.ensures in
    let r = ready a.t k _ servers _ chosen ok.faults ok.numbers c.threshold_of-k.ensures held la ls c.if-c-k.false lends in
    let points = take c.servers_of-s.result c.numbered-points.result in
    let made : ℕ → ℕ → List ℕ = λ x y. rebuilt_of x y n points (map (point_of points) chosen.servers) fragments (map (λ m. m * y) chosen.at) in
    let bytes : made chosen.count c.size.result ≡ restored_bytes a.t n servers fragments =
    ap₂ made r.all c.size.ensures
    ∙ rebuilt_is k servers chosen held most la ls c.if-c-k.false points n fragments (omega (arith, is))
    ∙ ap₂ (λ (l : List ℕ) (x : ℕ). restored l x n (parts_at (fragment_size_def x n) servers fragments (first_different x servers)))
    lends.points c.threshold_of-k.ensures in
    ap (λ (l : List ℕ). (record { number = 0; count = n }, l))
    (c.rebuild.ensures ∙ ap (λ (l : List ℕ). l ++ drop n a.out.now) bytes)
    ∙ sym (restore-accepted a.t n servers fragments a.out.now
    (refused_none a.t n servers fragments a.out.now (sym c.in_ok-restore_refusal.ensures)
    (enough_are a.t k chosen.count servers c.threshold_of-k.ensures (counted k servers chosen held most la ls) c.if-c-k.false)))
