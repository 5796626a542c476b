-- A whole lane is there, or what is there is copied behind nothing, and the rest is 00h, as a list reads past its end.
use Rattle.std.proofs.Common.{◌≡◌, ◌≤◌, ◌<◌, ◌+◌, ◌-◌, ◌++◌, ℕ, List, length, get_or, take, drop, replicate, refl, sym, ap, ◌∙◌, min, arith}
use native.Mathlib.Decide.{dec_lt}
use lib.ListN.{get_or-append, get_or-replicate, get_or-eq_default}
use lib.Seq.{get_or-take, get_or-drop, get_or-append_right}
use Rattle.erasure.specs.Lanes.{lane}
use Rattle.erasure.proofs.Lists.{part_long, part_at}
use Rattle.erasure.proofs.lanes.lane_at.Goals as goal

module _ (src : List ℕ) (at from : ℕ) (e : from ≡ min at (length src)) where
  left : List ℕ
  left = take (length src - from) (drop from src)

  long : length left ≡ length src - from
  unfolding left
  long = part_long src (take (length src - from) (drop from src)) from (length src - from) (length src - from) refl refl (omega arith)

  there : (i : ℕ) → i < length left → get_or left i 0 ≡ get_or src (at + i) 0
  unfolding left
  there i h =
      let same : from + i ≡ at + i = omega (arith, long) in
      part_at src (take (length src - from) (drop from src)) from (length src - from) (length src - from) refl refl i (omega (arith, long))
      ∙ ap (λ (x : ℕ). get_or src x 0) same

  whole : (ws : List ℕ) (i : ℕ) → ws ≡ take lane left → lane ≤ length left → i < lane → get_or ws i 0 ≡ get_or src (at + i) 0
  whole ws i same enough h = ap (λ (l : List ℕ). get_or l i 0) same ∙ get_or-take lane left i 0 h ∙ there i (omega arith)

  part : (ys zs : List ℕ) (i : ℕ) → ys ≡ left → zs ≡ replicate lane 0 → i < lane → get_or (ys ++ drop (length left) zs) i 0 ≡ get_or src (at + i) 0
  part ys zs i same zeros h = go (dec_lt i (length left))
    where
      go : Dec (i < length left) → get_or (ys ++ drop (length left) zs) i 0 ≡ get_or src (at + i) 0
      go (yes b) =
          get_or-append ys (drop (length left) zs) 0 i (omega (arith, ap length same)) ∙ ap (λ (l : List ℕ). get_or l i 0) same ∙ there i b
      go (no nb) =
          get_or-append_right ys (drop (length left) zs) i 0 (omega (arith, ap length same)) ∙ get_or-drop (length left) zs (i - length ys) 0
          ∙ ap (λ (l : List ℕ). get_or l (length left + (i - length ys)) 0) zeros
          ∙ get_or-replicate lane (length left + (i - length ys)) 0 0 (omega (arith, ap length same))
          ∙ sym (get_or-eq_default src 0 (omega (arith, long)))

pub returns-in-Some : goal.returns-in-Some
unfolding left
returns-in-Some c i h =
    let chunk = c.in-Some.ensures.cases in
    whole c.args.src.now c.args.at c.min.result c.min.ensures c.in-Some.whole.now i chunk.same chunk.enough h

pub returns : goal.returns
unfolding left
returns c i h = part c.args.src.now c.args.at c.min.result c.min.ensures c.copy_from_slice.new.self _ i c.copy_from_slice.ensures.after refl h
