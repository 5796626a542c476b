-- What the two operations give together: fragments of any k or more different servers, made from one content, in any order and with repeated
-- servers in between, are restored to that content. A server's fragment is found again at its place among those given, the places chosen are
-- of k different servers, and k fragments of different servers determine the content. Nothing is assumed.
use mathlib.Core.Path.{◌≡◌, refl, sym, ap, ap₂, subst, ◌∙◌}
use mathlib.Core.Bool.{false, not}
use mathlib.Core.List.{List, [], ◌∷◌, ◌++◌, map}
use Prim.Native.Nat.{ℕ, zero, suc, ◌+◌, ◌-◌, ◌*◌, ◌<◌, ◌≤◌, suc-le-suc}
use native.Mathlib.Nat.{zero-lt-suc, le_of_suc-le-suc, not-suc-le-zero, suc-mul, zero-mul}
use native.Mathlib.Omega.{arith}
use borrow.Author.Tests.{le-ltb, eq-eqb}
use lib.ListN.{length, get_or, take, drop, length-append, length-map, replicate}
use lib.Seq.{take_at, drop_at, drop-drop}
use Rattle.gf256.proofs.Byte.{Small}
use Rattle.gf256.proofs.Apart.{Distinct}
use Rattle.cluster.specs.Config.{shelf, up_to}
use Rattle.cluster.proofs.Legal.{up_to-length, legal-shelf}
use Rattle.cluster.specs.Ranges.{within, top_length, top_faults, content_room}
use Rattle.cluster.specs.Refusals.{first_of, on_refusal}
use Rattle.cluster.proofs.Tests.{within_in}
use Rattle.erasure.specs.Steps.{FragmentOutcome}
use Rattle.erasure.specs.Fragments.{fragment_size_def, Part, restored}
use Rattle.erasure.specs.Choice.{servers_at, first_different, parts_at}
use Rattle.erasure.specs.Steps.{fragment_refusal_def, fragment_bytes, fragment_step, fragment_room, argument_checks, restored_bytes, restore_step}
use Rattle.erasure.proofs.Lists.{get_d_map, distinct_of}
use Rattle.erasure.proofs.Laws.{part_of, Servers, fragment-length, restores}
use Rattle.erasure.proofs.Choosing.{chosen-lt, chosen_ordered}
use Rattle.erasure.proofs.Enough.{Stands, enough}
use Rattle.erasure.proofs.Refused.{each_holds, fragment_tests, argument_tests}
use Rattle.erasure.proofs.Chosen.{restore-accepted, refused_none}

-- ---- lists, one after the other

unfoldable pub joined : List (List ℕ) → List ℕ
joined [] = []
joined (x ∷ xs) = x ++ joined xs

-- where each of the lists has f bytes
module _ (f : ℕ) (g : ℕ → List ℕ) where
  pub length-joined : (ss : List ℕ) → ((i : ℕ) → i < length ss → length (g (get_or ss i 0)) ≡ f) → length (joined (map g ss)) ≡ length ss * f
  unfolding joined
  length-joined [] long = sym (zero-mul f)
  length-joined (s ∷ ss) long =
      length-append (g s) (joined (map g ss))
      ∙ ap₂ (λ (x y : ℕ). x + y) (long 0 (zero-lt-suc (length ss))) (length-joined ss (λ i b. long (suc i) (suc-le-suc b)))
      ∙ omega (arith, suc-mul (length ss) f)

  -- the one at place p
  pub piece : (ss : List ℕ) → ((i : ℕ) → i < length ss → length (g (get_or ss i 0)) ≡ f) → (p : ℕ) → p < length ss
      → take f (drop (p * f) (joined (map g ss))) ≡ g (get_or ss p 0)
  unfolding joined
  piece [] long p h = absurd (not-suc-le-zero h)
  piece (s ∷ ss) long zero h =
      ap (λ (n : ℕ). take f (drop n (g s ++ joined (map g ss)))) (zero-mul f) ∙ take_at (g s) (joined (map g ss)) f (long 0 h)
  piece (s ∷ ss) long (suc p) h =
      let e : suc p * f ≡ f + p * f = omega (arith, suc-mul p f) in
      ap (λ (n : ℕ). take f (drop n (g s ++ joined (map g ss)))) e
      ∙ ap (take f)
      (sym (drop-drop (p * f) f (g s ++ joined (map g ss)))
      ∙ ap (drop (p * f)) (drop_at (g s) (joined (map g ss)) f (long 0 (zero-lt-suc (length ss)))))
      ∙ piece ss (λ i b. long (suc i) (suc-le-suc b)) p (le_of_suc-le-suc h)

map_at : (g h : ℕ → List ℕ) (ss : List ℕ) → ((i : ℕ) → i < length ss → g (get_or ss i 0) ≡ h (get_or ss i 0)) → map g ss ≡ map h ss
map_at g h [] e = refl
map_at g h (s ∷ ss) e = ap₂ (λ (x : List ℕ) (xs : List (List ℕ)). x ∷ xs) (e 0 (zero-lt-suc (length ss)))
    (map_at g h ss (λ i b. e (suc i) (suc-le-suc b)))

-- ---- what the operation that makes a fragment gives: its first bytes, as many as it counts

abbrev pub made_by_def : ℕ → List ℕ → ℕ → List ℕ
made_by_def t content server = take (fragment_step t server content).count (fragment_step t server content).bytes

module _ (t : ℕ) (content : List ℕ) (faults : (1 ≤ t) × (t ≤ top_faults)) (bytes : length content ≤ top_length) where
  abbrev k : ℕ
  k = (shelf t).threshold

  abbrev s : ℕ
  s = (shelf t).servers

  abbrev f : ℕ
  f = fragment_size_def k (length content)

  made-length : (server : ℕ) → length (fragment_bytes t server content) ≡ f
  unfolding fragment_bytes
  made-length server = fragment-length (shelf t).points k content server

  -- the operation makes the fragment of each server of the shelf
  pub made_is : (server : ℕ) → 1 ≤ server → server ≤ s → made_by_def t content server ≡ fragment_bytes t server content
  unfolding fragment_step
  made_is server lo hi =
      let e : fragment_refusal_def t server (length content) ≡ 0 =
      fragment_tests t server (length content) false false false (ap not (within_in 1 top_faults t faults.0 faults.1))
      (ap not (within_in 1 s server lo hi))
      (le-ltb top_length (length content) bytes) in
      let done : FragmentOutcome = record { number = 0; count = f; bytes = fragment_bytes t server content ++ replicate (fragment_room - f) 0 } in
      ap (λ (x : ℕ). (let o : FragmentOutcome = on_refusal x done (record { number = x; count = 0; bytes = replicate fragment_room 0 }) in
      take o.count o.bytes)) e
      ∙ take_at (fragment_bytes t server content) (replicate (fragment_room - f) 0) f (made-length server)

  module _ (servers ds output : List ℕ) (numbers : (i : ℕ) → i < length servers → (1 ≤ get_or servers i 0) × (get_or servers i 0 ≤ s))
      (different : Distinct ds) (many : k ≤ length ds) (stand : (i : ℕ) → i < length ds → Stands (get_or ds i 0) servers)
      (room : content_room ≤ length output) (small : Small content) where
    given : List ℕ
    given = joined (map (λ i. fragment_bytes t i content) servers)

    given_is : joined (map (made_by_def t content) servers) ≡ given
    unfolding given
    given_is =
        ap joined (map_at (made_by_def t content) (λ i. fragment_bytes t i content) servers
        (λ i h. made_is (get_or servers i 0) (numbers i h).0 (numbers i h).1))

    places : List ℕ
    places = first_different k servers

    place-lt : (j : ℕ) → j < length places → get_or places j 0 < length servers
    unfolding places first_different
    place-lt j h = chosen-lt k servers (length servers) j h

    parts_are : (ps : List ℕ) → ((j : ℕ) → j < length ps → get_or ps j 0 < length servers)
        → parts_at f servers given ps ≡ map (part_of (shelf t).points k content) (servers_at servers ps)
    unfolding parts_at given fragment_bytes
    parts_are [] h = refl
    parts_are (p ∷ ps) h =
        ap₂ (λ (x : List ℕ) (xs : List Part). record { server = get_or servers p 0; bytes = x } ∷ xs)
        (piece f (λ i. fragment_bytes t i content) servers (λ i _. made-length (get_or servers i 0)) p (h 0 (zero-lt-suc (length ps))))
        (parts_are ps (λ j b. h (suc j) (suc-le-suc b)))

    enough-chosen : k ≤ length places
    unfolding places
    enough-chosen = enough k servers ds different many stand

    chosen_in : Servers (shelf t).points (servers_at servers places)
    unfolding shelf
    chosen_in i h =
        let b : i < length places = subst (λ (x : ℕ). i < x) (length-map places (λ p. get_or servers p 0)) h in
        let e : get_or (servers_at servers places) i 0 ≡ get_or servers (get_or places i 0) 0 = get_d_map (λ p. get_or servers p 0) places i 0 0 b in
        let r = numbers (get_or places i 0) (place-lt i b) in
        subst (λ (x : ℕ). (1 ≤ x) × (x ≤ length (up_to (3 * t + 1)))) (sym e) (r.0, omega (arith, r.1, up_to-length (3 * t + 1)))

    restored_is : restored_bytes t (length content) servers given ≡ content
    unfolding restored_bytes shelf places first_different
    restored_is =
        ap (restored (shelf t).points k (length content)) (parts_are places place-lt)
        ∙ restores (shelf t).points k content (legal-shelf t faults.0 faults.1).apart (omega arith)
        (omega (arith, up_to-length (3 * t + 1))) small (servers_at servers places) chosen_in
        (distinct_of (servers_at servers places) (chosen_ordered k servers (length servers)))
        (omega (arith, enough-chosen, length-map places (λ p. get_or servers p 0)))

    none-refused : first_of (argument_checks t (length content) servers (length given) (length output)) ≡ 0
    unfolding given
    none-refused =
        argument_tests t (length content) servers (length given) (length output) false false false false false
        (ap not (within_in 1 top_faults t faults.0 faults.1))
        (ap not (each_holds (within 1 s) servers (λ i h. within_in 1 s (get_or servers i 0) (numbers i h).0 (numbers i h).1)))
        (le-ltb top_length (length content) bytes) (le-ltb (length output) content_room room)
        (ap not (eq-eqb (length given) (length servers * f)
        (length-joined f (λ i. fragment_bytes t i content) servers (λ i _. made-length (get_or servers i 0)))))

    -- the theorem: whatever servers are given, if k different ones are among them, the content comes back, and the rest of the buffer is kept
    pub restores_what_was-made : restore_step t (length content) servers (joined (map (made_by_def t content) servers)) output
        ≡ (record { number = 0; count = length content }, content ++ drop (length content) output)
    unfolding places
    restores_what_was-made =
        ap (λ (g : List ℕ). restore_step t (length content) servers g output) given_is
        ∙ restore-accepted t (length content) servers given output (refused_none t (length content) servers given output none-refused enough-chosen)
        ∙ ap (λ (l : List ℕ). (record { number = 0; count = length content }, l ++ drop (length content) output)) restored_is
