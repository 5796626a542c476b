-- An answer is read as it was packed, where its parts have room: result and writer 4 bits each, the stamp's number 32 and the count 16.
-- By the digits of a number. Assumes nothing.
use mathlib.Core.Path.{◌≡◌, refl, sym, ap, ◌∙◌}
use mathlib.Core.List.{List}
use mathlib.Core.Bool.{true, false}
use Prim.Native.Nat.{ℕ, zero, suc, ◌+◌, ◌-◌, ◌*◌, ◌/◌, ◌%◌, ◌≤◌, ◌<◌}
use native.Mathlib.Omega.{arith}
use lib.Dec.{lit<}
use lib.ListN.{length}
use borrow.Author.Tests.{le-leb}
use Rattle.protocol.specs.declared.Answer.{Answer}
use Rattle.protocol.specs.Answers.{refusals, bare}
use Rattle.protocol.specs.Client.{Result, refused, more, written, gave, gave_blank, aborted}
use Rattle.protocol.specs.ClientBytes.{told}
use Rattle.runs.specs.Runs.{result_of, result_by}
use Rattle.protocol.proofs.Told.{refused_back}
use Rattle.embed.specs.Packing.{packed, refusal_in, writer_in_def, result_in, number_in, count_in, packed_answer, answer_in}
use Rattle.embed.specs.Exports.{said}
use Rattle.embed.proofs.Bounded.{Small}

module _ (r s k n : ℕ) (hs : s < 256) (hk : k < 4294967296) (hn : n < 65536) where
  pub count_back : count_in (packed r s k n) ≡ n
  unfolding count_in packed
  count_back = omega arith

  pub number_back : number_in (packed r s k n) ≡ k
  unfolding number_in packed
  number_back =
      let e : (r * 72057594037927936 + s * 281474976710656 + k * 65536 + n) / 65536 ≡ (r * 256 + s) * 4294967296 + k = omega arith in
      ap (λ (z : ℕ). z % 4294967296) e ∙ omega arith

  high_part : packed r s k n / 281474976710656 ≡ r * 256 + s
  unfolding packed
  high_part = omega arith

  pub result_back : result_in (packed r s k n) ≡ s % 16
  unfolding result_in
  result_back = ap (λ (z : ℕ). z % 16) high_part ∙ omega arith

  pub writer_back : writer_in_def (packed r s k n) ≡ s / 16
  unfolding writer_in_def packed
  writer_back =
      let e : (r * 72057594037927936 + s * 281474976710656 + k * 65536 + n) / 4503599627370496 ≡ r * 16 + s / 16 = omega arith in
      ap (λ (z : ℕ). z % 16) e ∙ omega arith

  pub refusal_back : refusal_in (packed r s k n) ≡ r
  unfolding refusal_in packed
  refusal_back = omega arith

-- ---- what an answer says

pub said-number : (n k : ℕ) (o : List ℕ) → k < 65536 → said (packed n 0 0 k) o ≡ result_of n
unfolding said answer_in
said-number zero k o h = rw (refusal_back 0 0 0 k (lit< tt) (lit< tt) h, result_back 0 0 0 k (lit< tt) (lit< tt) h) refl
said-number (suc n) k o h = rw (refusal_back (suc n) 0 0 k (lit< tt) (lit< tt) h) (refused_back (suc n) o)

-- a refusal
pub packed-refused : (n : ℕ) → packed_answer (bare (refusals + n)) ≡ packed n 0 0 0
unfolding packed_answer
packed-refused n =
    let e : refusals + n - refusals ≡ n = omega arith in
    rw (le-leb refusals (refusals + n) (omega arith), e) refl

said-refused : (n : ℕ) (o : List ℕ) → 1 ≤ n → said (packed n 0 0 0) o ≡ refused n
said-refused zero o h = absurd (omega arith)
said-refused (suc n) o h = said-number (suc n) 0 o (lit< tt)

-- a result below 16 with its values
parts_back : (s w k n : ℕ) → s < 16 → w < 16 → k < 4294967296 → n < 65536
    → answer_in (packed 0 (16 * (w % 16) + s % 16) k n) ≡ record { result = s; number = k; writer = w; length = n }
unfolding answer_in
parts_back s w k n hs hw hk hn =
    let c : ℕ = 16 * (w % 16) + s % 16 in
    let hc : c < 256 = omega arith in
    let a : result_in (packed 0 c k n) ≡ s = result_back 0 c k n hc hk hn ∙ omega arith in
    let b : writer_in_def (packed 0 c k n) ≡ w = writer_back 0 c k n hc hk hn ∙ omega arith in
    rw (refusal_back 0 c k n hc hk hn, a, b, number_back 0 c k n hc hk hn, count_back 0 c k n hc hk hn) refl

-- giving up, or a taken reply
pub said-answer : (r : Result) (o : List ℕ) → Small r → said (packed_answer (told r).answer) o ≡ result_by (told r).answer o
unfolding said packed_answer
said-answer (refused n) o h = ap (λ (x : ℕ). said x o) (packed-refused n) ∙ said-refused n o h ∙ sym (refused_back n o)
said-answer more o h = said-number 0 0 o (lit< tt)
said-answer (written k) o h =
    ap (λ (z : Answer). result_by z o) (parts_back 1 k.writer k.number 0 (lit< tt) (omega (arith, h.1)) (omega (arith, h.0)) (lit< tt))
said-answer (gave k c) o h =
    ap (λ (z : Answer). result_by z o)
    (parts_back 2 k.writer k.number (length c) (lit< tt) (omega (arith, h.0.1)) (omega (arith, h.0.0)) (omega (arith, h.1)))
said-answer gave_blank o h = unfold answer_in packed refusal_in result_in in refl
said-answer (aborted true) o h = unfold answer_in packed refusal_in result_in in refl
said-answer (aborted false) o h = unfold answer_in packed refusal_in result_in in refl
