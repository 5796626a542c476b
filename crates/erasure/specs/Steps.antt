-- The two public operations on fragments, with their refusals in document 01's order.
use Rattle.std.specs.Prelude.{Bool, true, not, ◌&&◌, Result, Ok, Err, List, [], ◌∷◌, ◌++◌, ℕ, ◌-◌, ◌*◌, eqb, ltb, length, drop, replicate}
use Rattle.cluster.specs.Config.{shelf}
use Rattle.cluster.specs.Ranges.{within, top_length, top_faults, content_room}
use Rattle.cluster.specs.Refusals.{Check, refuse, first_of, on_refusal, refusal_number}
use Rattle.cluster.specs.declared.Outcome.{Outcome}
use Rattle.cluster.specs.declared.Refusal.{Refusal}
use Rattle.erasure.specs.declared.FragmentBytes.{FragmentBytes}
use Rattle.erasure.specs.Fragments.{fragment_size_def, fragment, restored}
use Rattle.erasure.specs.Choice.{first_different, parts_at}

-- room for the longest fragment: k is at least 2
abbrev pub fragment_room : ℕ
fragment_room = 512

unfoldable pub each : (ℕ → Bool) → List ℕ → Bool
each f [] = true
each f (x ∷ xs) = f x && each f xs

-- ---- making a fragment

unfoldable pub fragment_refusal_def : (t server n : ℕ) → ℕ
fragment_refusal_def t server n =
    first_of
    (refuse 3 (not (within 1 top_faults t))
    ∷ refuse 4 (not (within 1 (shelf t).servers server))
    ∷ refuse 6 (ltb top_length n)
    ∷ [])

unfoldable pub fragment_bytes : (t server : ℕ) → List ℕ → List ℕ
fragment_bytes t server content = fragment (shelf t).points (shelf t).threshold content server

-- a fragment and its length, padded with 00h to its room; or a refusal, with nothing
pub record FragmentOutcome : Type 0 where
  pub number : ℕ
  pub count : ℕ
  pub bytes : List ℕ

-- what a result says
abbrev pub fragment_told : Result FragmentBytes Refusal → FragmentOutcome
fragment_told (Ok f) = record { number = 0; count = f.count; bytes = f.bytes }
fragment_told (Err why) = record { number = refusal_number why; count = 0; bytes = replicate fragment_room 0 }

-- the fragment and its length, padded with 00h to its room; or a refusal
unfoldable pub fragment_step : (t server : ℕ) → List ℕ → FragmentOutcome
fragment_step t server content =
    on_refusal (fragment_refusal_def t server (length content))
    (record {
      number = 0;
      count = fragment_size_def (shelf t).threshold (length content);
      bytes = fragment_bytes t server content ++ replicate (fragment_room - fragment_size_def (shelf t).threshold (length content)) 0;
    })
    (record { number = fragment_refusal_def t server (length content); count = 0; bytes = replicate fragment_room 0 })

-- ---- restoring

-- what is asked of the content's length, of the room for it and of its fragments, of which there are count
abbrev pub length_checks : (t n count given room : ℕ) → List Check
length_checks t n count given room =
    refuse 6 (ltb top_length n)
    ∷ refuse 15 (ltb room content_room)
    ∷ refuse 16 (not (eqb given (count * fragment_size_def (shelf t).threshold n)))
    ∷ []

-- what is asked of the arguments, in document 01's order
unfoldable pub argument_checks : (t n : ℕ) (servers : List ℕ) (given room : ℕ) → List Check
argument_checks t n servers given room =
    refuse 3 (not (within 1 top_faults t))
    ∷ refuse 4 (not (each (within 1 (shelf t).servers) servers))
    ∷ length_checks t n (length servers) given room

-- and of the choice: k different servers
unfoldable pub restore_refusal_def : (t n : ℕ) (servers : List ℕ) (given room : ℕ) → ℕ
restore_refusal_def t n servers given room =
    first_of
    (argument_checks t n servers given room
    ++ (refuse 16 (ltb (length (first_different (shelf t).threshold servers)) (shelf t).threshold) ∷ []))

-- the content that the first k different servers' fragments give
unfoldable pub restored_bytes : (t n : ℕ) (servers fragments : List ℕ) → List ℕ
restored_bytes t n servers fragments =
    restored (shelf t).points (shelf t).threshold n
    (parts_at (fragment_size_def (shelf t).threshold n) servers fragments (first_different (shelf t).threshold servers))

-- the answer, and the output buffer, which keeps what stands past the content; a refusal leaves it as it was
unfoldable pub restore_step : (t n : ℕ) (servers fragments output : List ℕ) → Outcome × List ℕ
restore_step t n servers fragments output =
    let number = restore_refusal_def t n servers (length fragments) (length output) in
    on_refusal number (record { number = 0; count = n }, restored_bytes t n servers fragments ++ drop n output)
    (record { number = number; count = 0 }, output)
