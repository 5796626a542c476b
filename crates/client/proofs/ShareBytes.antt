-- The starts of a write's shares and the digests of its fragments, as the code writes them. A fragment is cut out of the array that it was made in, an
-- entry put after a run is the longer run put once, and runs that follow one another are their join. Assumes nothing.
use Rattle.std.specs.Prelude.{Result, Ok, Err, IsOk}
use mathlib.Core.Path.{◌≡◌, refl, sym, ap, ◌∙◌}
use mathlib.Core.List.{List, ◌++◌, append_assoc}
use Prim.Native.Nat.{ℕ, suc, ◌+◌, ◌*◌, ◌≤◌}
use native.Mathlib.Omega.{arith}
use native.Mathlib.Numerals.{add-one}
use lib.ListN.{length, length-append}
use lib.Seq.{take_at}
use borrow.Author.Tests.{le-leb, le-ltb}
use Rattle.cluster.specs.Config.{shelf}
use Rattle.cluster.specs.Ranges.{top_faults, top_length}
use Rattle.sha256.specs.Sha256.{sha256}
use Rattle.erasure.specs.Fragments.{fragment, fragment_size_def}
use Rattle.erasure.specs.declared.FragmentBytes.{FragmentBytes}
use Rattle.cluster.specs.declared.Refusal.{Refusal}
use Rattle.cluster.specs.Refusals.{number_told}
use Rattle.decide.proofs.Arguments.{told-ok}
use Rattle.erasure.specs.Steps.{FragmentOutcome, fragment_told, fragment_step, fragment_refusal_def, fragment_bytes}
use Rattle.format.specs.Format.{print2}
use Rattle.protocol.specs.Values.{run_of, digest_size}
use Rattle.protocol.specs.Primitives.{real}
use Rattle.format.specs.Reading.{bytes_at, put}
use Rattle.protocol.proofs.Primitive.{real-lengths, run_length}
use Rattle.format.proofs.Puts.{put_put}
use Rattle.client.specs.Steps.{digest_run, start_of}

-- one entry more
run_more : (w : ℕ) (f : ℕ → List ℕ) → ((i : ℕ) → length (f i) ≡ w) → (d : List ℕ) (i : ℕ) → w * i + w ≤ length d
    → put (put d 0 (run_of i f)) (w * i) (f (suc i)) ≡ put d 0 (run_of (i + 1) f)
unfolding run_of
run_more w f l d i h =
    let o : w * i ≡ 0 + w * i = omega arith in
    ap (λ (n : ℕ). put (put d 0 (run_of i f)) n (f (suc i))) o ∙ (put_put d 0 (w * i) (run_of i f) (f (suc i)) (run_length w f l i)
    (omega (arith, l (suc i)))
    ∙ ap (λ (k : ℕ). put d 0 (run_of k f)) (sym (add-one i)))

-- three runs that follow one another
pub three_puts : (d : List ℕ) (at n m : ℕ) (a b c : List ℕ) → length a ≡ n → length b ≡ m → at + n + m + length c ≤ length d
    → put (put (put d at a) (at + n) b) (at + n + m) c ≡ put d at (a ++ (b ++ c))
three_puts d at n m a b c e f h =
    let o : at + n + m ≡ at + (n + m) = omega arith in
    ap (λ (x : List ℕ). put x (at + n + m) c) (put_put d at n a b e (omega (arith, f))) ∙ (ap (λ (k : ℕ). put (put d at (a ++ b)) k c) o
    ∙ (put_put d at (n + m) (a ++ b) c (omega (arith, length-append a b)) (omega arith) ∙ ap (put d at) (append_assoc a b c)))

module _ (t i : ℕ) (content : List ℕ) (low : 1 ≤ t) (high : t ≤ top_faults) (within-s : suc i ≤ (shelf t).servers)
    (short : length content ≤ top_length) where
  abbrev size : ℕ
  size = fragment_size_def (shelf t).threshold (length content)

  abbrev piece : List ℕ
  piece = fragment (shelf t).points (shelf t).threshold content (suc i)

  pub piece-length : length piece ≡ size
  unfolding real
  piece-length = real-lengths.fragment (shelf t).points (shelf t).threshold content (suc i)

  cut : (rest : List ℕ) → bytes_at (piece ++ rest) 0 size ≡ piece
  unfolding bytes_at
  cut rest = take_at piece rest size piece-length

  step_cut : bytes_at (fragment_step t (suc i) content).bytes 0 (fragment_step t (suc i) content).count ≡ piece
  unfolding fragment_step fragment_refusal_def fragment_bytes
  step_cut =
      rw (
        le-leb 1 t low,
        le-leb t top_faults high,
        le-leb 1 (suc i) (omega arith),
        le-leb (suc i) (shelf t).servers within-s,
        le-ltb top_length (length content) short,
      )
      (cut _)

  step-number : (fragment_step t (suc i) content).number ≡ 0
  unfolding fragment_step fragment_refusal_def
  step-number =
      rw (
        le-leb 1 t low,
        le-leb t top_faults high,
        le-leb 1 (suc i) (omega arith),
        le-leb (suc i) (shelf t).servers within-s,
        le-ltb top_length (length content) short,
      ) refl

  -- the fragment, out of what making it gave, which is no refusal
  pub fragment-cut : (m : FragmentBytes) → fragment_told (Ok m) ≡ fragment_step t (i + 1) content → bytes_at m.bytes 0 m.count ≡ piece
  fragment-cut m e =
      ap (λ (x : FragmentOutcome). bytes_at x.bytes 0 x.count) (e ∙ ap (λ (k : ℕ). fragment_step t k content) (add-one i)) ∙ step_cut

  pub fragment-ok : (r : Result FragmentBytes Refusal) → fragment_told r ≡ fragment_step t (i + 1) content → IsOk r
  fragment-ok r e =
      told-ok r (number r ∙ ap (λ (x : FragmentOutcome). x.number) (e ∙ ap (λ (k : ℕ). fragment_step t k content) (add-one i)) ∙ step-number)
    where
      number : (r : Result FragmentBytes Refusal) → number_told r ≡ (fragment_told r).number
      number (Ok m) = refl
      number (Err why) = refl

-- ---- the starts of shares, and runs of digests

module _ (t : ℕ) (content : List ℕ) where
  abbrev width : ℕ
  width = fragment_size_def (shelf t).threshold (length content)

  pub start-length : (i : ℕ) → length (start_of t content i) ≡ 2 + width
  unfolding start_of real
  start-length i =
      let f : List ℕ = fragment (shelf t).points (shelf t).threshold content i in
      length-append (print2 (length content)) f ∙ ap (λ (k : ℕ). 2 + k) (real-lengths.fragment (shelf t).points (shelf t).threshold content i)

  -- from a content's length and a fragment
  pub start-made : (i : ℕ) {x f : List ℕ} → x ≡ content → f ≡ fragment (shelf t).points (shelf t).threshold content i
      → print2 (length x) ++ f ≡ start_of t content i
  unfolding start_of
  start-made i p q = rw (p, q)

  digests : (i : ℕ) → length (sha256 (fragment (shelf t).points (shelf t).threshold content i)) ≡ digest_size
  unfolding real
  digests i = real-lengths.digest (fragment (shelf t).points (shelf t).threshold content i)

  pub digests-room : (i : ℕ) (d : List ℕ) → i ≤ (shelf t).servers → digest_size * (shelf t).servers ≤ length d → 0 + length (digest_run t content i) ≤
      length d
  unfolding digest_run
  digests-room i d h r =
      omega (arith, h, run_length digest_size (λ k. sha256 (fragment (shelf t).points (shelf t).threshold content k)) digests i)

  -- one digest more, of a fragment of the content x
  pub digest_more : (d : List ℕ) (i : ℕ) {e x : List ℕ} → e ≡ put d 0 (digest_run t content i) → x ≡ content → digest_size * i + digest_size ≤ length d
      → put e (digest_size * i) (sha256 (fragment (shelf t).points (shelf t).threshold x (suc i))) ≡ put d 0 (digest_run t content (i + 1))
  unfolding digest_run
  digest_more d i p q h = rw (p, q) (run_more digest_size (λ k. sha256 (fragment (shelf t).points (shelf t).threshold content k)) digests d i h)

  -- what follows the digests
  pub digests_then : (d x : List ℕ) (n : ℕ) → digest_size * n + length x ≤ length d → put (put d 0 (digest_run t content n)) (digest_size * n) x ≡ put d
      0 (digest_run t content n ++ x)
  unfolding digest_run
  digests_then d x n h =
      let o : digest_size * n ≡ 0 + digest_size * n = omega arith in
      ap (λ (k : ℕ). put (put d 0 (digest_run t content n)) k x) o
      ∙ put_put d 0 (digest_size * n) (digest_run t content n) x (run_length digest_size
      (λ k. sha256 (fragment (shelf t).points (shelf t).threshold content k)) digests n) (omega arith)
