-- What is put is read: the state's bytes, whatever follows them, give the state back. By computation on the places, and by the digits of a number.
-- Assumes nothing.
use mathlib.Core.Path.{◌≡◌, refl, ap, ◌∙◌}
use mathlib.Core.List.{List, [], ◌∷◌, ◌++◌}
use Prim.Native.Nat.{ℕ, ◌≤◌, ◌<◌}
use native.Mathlib.Omega.{arith}
use lib.ListN.{length, get_or, drop, replicate, length-append}
use lib.Seq.{take_at, get_or-drop}
use Rattle.cluster.specs.Ranges.{most_servers}
use Rattle.protocol.specs.declared.Call.{Call}
use Rattle.format.specs.Format.{Bytes, print2, print4, value2}
use Rattle.format.specs.Reading.{put}
use Rattle.format.proofs.Formats.{value2-print, value4-print}
use Rattle.wire.specs.Places.{padded}
use Rattle.wire.specs.Make.{Placed, placed}
use Rattle.wire.proofs.Put.{none-placed, placed_then, wrote-placed}
use Rattle.wire.proofs.Runs.{padded-whole}
use Rattle.state.specs.State.{state_size, numbers_size, numbers, call_bytes, call_at, tally_at_def, marks_at_def, length_at}

pub state-length : (c : Call) → length c.tally.marks ≡ most_servers → length (call_bytes c) ≡ state_size
unfolding call_bytes numbers
state-length c l = rw l

pub marks_back : (m r : List ℕ) → length m ≡ most_servers → padded most_servers (m ++ r) ≡ m
marks_back m r l = padded-whole most_servers (m ++ r) (omega (arith, length-append m r)) ∙ take_at m r most_servers l

pub state_back : (c : Call) (r : List ℕ) → length c.tally.marks ≡ most_servers → call_at (call_bytes c ++ r) ≡ c
unfolding call_bytes numbers call_at tally_at_def marks_at_def length_at
state_back c r l =
    rw (value4-print c.number, value4-print c.last, value4-print c.high, value2-print c.length, marks_back c.tally.marks r l)

pub numbers-length : (c : Call) → length (numbers c) ≡ numbers_size
unfolding numbers
numbers-length c = refl

-- ---- the length: the number of the first 2 bytes from its place on

module _ (d : List ℕ) {r : List ℕ} {v : ℕ} (p : r ≡ drop 12 d) (q : v ≡ value2 (get_or r 0 0) (get_or r 1 0)) where
  pub length-told : v ≡ length_at d
  unfolding length_at
  length-told = q ∙ rw (p, get_or-drop 12 d 0 0, get_or-drop 12 d 1 0)

  pub length-small : Bytes d → v < 65536
  unfolding length_at
  length-small b = omega (arith, length-told, b 12, b 13)

-- ---- the numbers, each put at its place over zeros

pub numbers-made : (c : Call) {a b d e f g : List ℕ} {h i j k l m : ℕ} → record { next = h; output = a } ≡ placed (replicate numbers_size 0) 0
    (print4 c.number)
    → record { next = i; output = b } ≡ placed a 4 (print4 c.last) → record { next = j; output = d } ≡ placed b 8 (print4 c.high)
    → record { next = k; output = e } ≡ placed d 12 (print2 c.length) → record { next = l; output = f } ≡ placed e 14 (c.tally.round ∷ [])
    → record { next = m; output = g } ≡ placed f 15 (c.tally.count ∷ []) → g ≡ numbers c
unfolding placed put numbers
numbers-made c p q r s t u =
    let out : Placed → List ℕ = λ x. x.output in
    let then : (at : ℕ) (b : List ℕ) → List ℕ → List ℕ = λ at b x. (placed x at b).output in
    let q' = ap out q ∙ ap (then 4 (print4 c.last)) (ap out p) in
    let r' = ap out r ∙ ap (then 8 (print4 c.high)) q' in
    let s' = ap out s ∙ ap (then 12 (print2 c.length)) r' in
    let t' = ap out t ∙ ap (then 14 (c.tally.round ∷ [])) s' in
    ap out u ∙ ap (then 15 (c.tally.count ∷ [])) t'

-- ---- putting: no room, or the numbers and then the marks

module _ (d : List ℕ) (c : Call) (l : length c.tally.marks ≡ most_servers) where
  pub no-state : length d < state_size → d ≡ (placed d 0 (call_bytes c)).output
  no-state h = ap (λ (p : Placed). p.output) (none-placed d 0 (call_bytes c) (omega (arith, state-length c l)))

  pub state_put : {e f : List ℕ} {k n : ℕ} → state_size ≤ length d → record { next = k; output = e } ≡ placed d 0 (numbers c)
      → record { next = n; output = f } ≡ placed e k c.tally.marks → f ≡ (placed d 0 (call_bytes c)).output
  unfolding call_bytes
  state_put {e} {f} {k} {n} h p q =
      let z : length (numbers c) ≡ numbers_size = numbers-length c in
      ap (λ (p : Placed). p.output) (wrote-placed (placed_then (numbers c) c.tally.marks p q (omega arith)) (omega (arith, state-length c l)))
