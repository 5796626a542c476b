-- What the operation that makes a fragment answers, refused and accepted, in terms of what the code made: the table lent to it is the shelf's,
-- and a plain run, or the value from the plain runs, is the fragment. Nothing is assumed.
use mathlib.Core.Path.{◌≡◌, sym, ap, ap₂, subst, ◌∙◌}
use mathlib.Core.Logic.{◌≢◌}
use mathlib.Core.List.{List, ◌++◌}
use Prim.Native.Nat.{ℕ, ◌+◌, ◌-◌, ◌*◌, ◌/◌, ◌<◌, ◌≤◌}
use native.Mathlib.Nat.{div-lt_iff_lt-mul}
use native.Mathlib.Omega.{arith}
use lib.ListN.{length, get_or, take, replicate}
use Rattle.gf256.specs.Poly.{through}
use Rattle.gf256.specs.Bytes.{bytes}
use Rattle.cluster.specs.Config.{shelf, up_to, point_of, PointTable, Legal}
use Rattle.cluster.proofs.Legal.{up_to-length, up_to_at, legal-shelf}
use Rattle.cluster.specs.Ranges.{top_faults, top_length, most_servers}
use Rattle.cluster.specs.Refusals.{on_refusal}
use Rattle.cluster.proofs.Tests.{refused_is}
use Rattle.erasure.specs.Steps.{FragmentOutcome}
use Rattle.erasure.specs.Fragments.{table, fragment_size_def, across, fragment}
use Rattle.erasure.specs.Steps.{fragment_room, fragment_refusal_def, fragment_bytes, fragment_step}
use Rattle.erasure.specs.Lanes.{byte_at, value_from, plain_of}
use Rattle.erasure.proofs.Lists.{take_is, small_of}
use Rattle.erasure.proofs.Laws.{plain}
use Rattle.erasure.proofs.Placed.{table_ext}

-- ---- the shelf's points

first-points : (s k : ℕ) → k ≤ s → take k (up_to s) ≡ up_to k
first-points s k h =
    take_is k (up_to s) (up_to k) (omega (arith, up_to-length s)) (up_to-length k) (λ i b. up_to_at s i (omega arith) ∙ sym (up_to_at k i b))

-- of the table of the most servers the first s are lent: they are there, and are the shelf's table
pub record Lent (t s : ℕ) (all : List ℕ) : Type 0 where
  pub enough : s ≤ length all
  pub points : take s all ≡ (shelf t).points
  pub long : length (take s all) ≡ (shelf t).servers
  pub apart : PointTable (take s all)

pub lent : (t s : ℕ) (all : List ℕ) → (1 ≤ t) × (t ≤ top_faults) → s ≡ (shelf t).servers → all ≡ up_to most_servers → Lent t s all
unfolding shelf
lent t s all h many are =
    let legal : Legal (shelf t) = legal-shelf t h.0 h.1 in
    let points : take s all ≡ (shelf t).points =
    ap₂ (λ (n : ℕ) (l : List ℕ). take n l) many are ∙ first-points most_servers (3 * t + 1) (omega (arith, h.1)) in
    record {
      enough = omega (arith, many, legal.few, ap length are, up_to-length most_servers);
      points = points;
      long = ap length points ∙ legal.table;
      apart = subst PointTable (sym points) legal.apart;
    }

-- a fragment fits its room
pub size_fits : (k n : ℕ) → 2 ≤ k → n ≤ top_length → fragment_size_def k n ≤ fragment_room
unfolding fragment_size_def
size_fits k n hk hn =
    let pos : 0 < k = omega arith in
    let below : n + k - 1 < (fragment_room + 1) * k = omega arith in
    let h : (n + k - 1) / k < fragment_room + 1 = (div-lt_iff_lt-mul pos).1 below in
    omega (arith, h)

-- ---- making a fragment

pub make-refused : (t server : ℕ) (content : List ℕ) (x : ℕ) → x ≡ fragment_refusal_def t server (length content) → x ≢ 0
    → fragment_step t server content ≡ record { number = x; count = 0; bytes = replicate fragment_room 0 }
unfolding fragment_step
make-refused t server content x e h =
    let done : FragmentOutcome = record {
      number = 0;
      count = fragment_size_def (shelf t).threshold (length content);
      bytes = fragment_bytes t server content ++ replicate (fragment_room - fragment_size_def (shelf t).threshold (length content)) 0;
    } in
    let no : ℕ → FragmentOutcome = λ y. record { number = y; count = 0; bytes = replicate fragment_room 0 } in
    ap (λ (y : ℕ). on_refusal y done (no y)) (sym e) ∙ refused_is x done (no x) h

pub make-accepted : (t server : ℕ) (content : List ℕ) → fragment_refusal_def t server (length content) ≡ 0
    → let k = (shelf t).threshold in
    let f = fragment_size_def k (length content) in
    fragment_step t server content
    ≡ record { number = 0; count = f; bytes = fragment (shelf t).points k content server ++ replicate (fragment_room - f) 0 }
unfolding fragment_step fragment_bytes
make-accepted t server content e =
    let f : ℕ = fragment_size_def (shelf t).threshold (length content) in
    let done : FragmentOutcome = record {
      number = 0;
      count = f;
      bytes = fragment_bytes t server content ++ replicate (fragment_room - f) 0;
    } in
    ap (λ (y : ℕ). on_refusal y done (record { number = y; count = 0; bytes = replicate fragment_room 0 })) e

module _ (points : List ℕ) (k : ℕ) (content : List ℕ) where
  abbrev f : ℕ
  f = fragment_size_def k (length content)

  -- the value at a server's point, from the plain runs, is its fragment
  pub value_made : (starts : List ℕ) (server : ℕ) → ((j : ℕ) → j < k → get_or starts j 0 ≡ j * f)
      → value_from k f points content starts (point_of points server) ≡ fragment points k content server
  unfolding fragment across
  value_made starts server e =
      table_ext f (λ q. through bytes (take k points) (table k (byte_at content starts q)) (point_of points server))
      (λ q. through bytes (take k points) (across k content q) (point_of points server))
      (λ q h. ap (λ (u : List ℕ). through bytes (take k points) u (point_of points server))
      (table_ext k (byte_at content starts q) (λ j. get_or content (j * f + q) 0) (λ j b. ap (λ (x : ℕ). get_or content (x + q) 0) (e j b))))

  -- a plain run is the fragment of its server
  pub run-made : (server : ℕ) → PointTable points → k ≤ length points → 1 ≤ server → server ≤ k → ((i : ℕ) → get_or content i 0 < 256)
      → plain_of f (server - 1) content ≡ fragment points k content server
  unfolding plain_of
  run-made server pt kp lo hi small =
      let e : server - 1 + 1 ≡ server = omega arith in
      sym (plain points k content pt (omega arith) kp (small_of content (λ i _. small i)) (server - 1) (omega arith))
      ∙ ap (fragment points k content) e
