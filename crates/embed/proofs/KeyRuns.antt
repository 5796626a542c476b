-- The servers' keys are the chunks of one run of bytes: a run of another length has other chunks, or bytes are left. Assumes nothing.
use mathlib.Core.Path.{◌≡◌, refl, sym, ap, ◌∙◌}
use mathlib.Core.List.{List, [], ◌∷◌, ◌++◌, map}
use Prim.Native.Nat.{ℕ, zero, suc, ◌+◌, ◌-◌, ◌*◌, ◌/◌, ◌%◌}
use mathlib.Core.Bool.{cond}
use native.Mathlib.Decide.{ℕ_discrete}
use native.Mathlib.Omega.{arith}
use lib.Dec.{eqb}
use lib.ListN.{length, take, drop}
use lib.Seq.{drop-drop}
use borrow.Author.Tests.{eq-eqb, ne_eqb}
use Rattle.std.proofs.lemmas.List.{map-append}
use Rattle.std.proofs.Common.{Result, Ok, Err}
use Rattle.std.specs.Simd.{first_chunks}
use Rattle.cluster.specs.Config.{up_to}
use Rattle.cluster.specs.Ranges.{key_size, most_servers}
use Rattle.cluster.specs.declared.Refusal.{Refusal}
use Rattle.cluster.specs.declared.Refusal.TheVariants.{WrongSize}
use Rattle.format.specs.Reading.{bytes_at}
use Rattle.embed.specs.Clients.{keys_size, keys_in}

snoc : (n k : ℕ) (d : List ℕ) → first_chunks n (suc k) d ≡ first_chunks n k d ++ (bytes_at d (n * k) n ∷ [])
unfolding bytes_at
snoc n zero d = let e : n * 0 ≡ 0 = omega arith in rw e refl
snoc n (suc k) d =
    let e : n + n * k ≡ n * suc k = omega arith in
    ap (λ (l : List (List ℕ)). take n d ∷ l)
    (snoc n k (drop n d) ∙ ap (λ (l : List ℕ). first_chunks n k (drop n d) ++ (take n l ∷ [])) (drop-drop (n * k) n d ∙ ap (λ (j : ℕ). drop j d) e))

abbrev key : List ℕ → ℕ → List ℕ
key d i = bytes_at d (key_size * (i - 1)) key_size

chunks-are : (k : ℕ) (d : List ℕ) → first_chunks key_size k d ≡ map (key d) (up_to k)
unfolding up_to
chunks-are zero d = refl
chunks-are (suc k) d =
    let e : suc k - 1 ≡ k = omega arith in
    snoc key_size k d ∙ ap (λ (l : List (List ℕ)). l ++ (bytes_at d (key_size * k) key_size ∷ [])) (chunks-are k d)
    ∙ ap (λ (j : ℕ). map (key d) (up_to k) ++ (bytes_at d (key_size * j) key_size ∷ [])) (sym e) ∙ sym (map-append (key d) (up_to k) (suc k ∷ []))

pub chunked : (d : List ℕ) {keys : List (List ℕ)} {r : Result (List (List ℕ)) Refusal} → keys ≡ first_chunks key_size (length d / key_size) d
    → length keys ≡ length d / key_size → length d % key_size ≡ 0 → r ≡ cond (eqb (length keys) most_servers) (Ok keys) (Err WrongSize)
    → r ≡ cond (eqb (length d) keys_size) (Ok (keys_in d)) (Err WrongSize)
chunked d {keys} {r} is count none e = go (ℕ_discrete (length d) keys_size)
  where
    go : Dec (length d ≡ keys_size) → r ≡ cond (eqb (length d) keys_size) (Ok (keys_in d)) (Err WrongSize)
    go (yes h) =
        let whole : map (key d) (up_to most_servers) ≡ keys_in d = unfold keys_in in refl in
        let n : length d / key_size ≡ most_servers = omega arith in
        let same : keys ≡ keys_in d = is ∙ ap (λ (k : ℕ). first_chunks key_size k d) n ∙ chunks-are most_servers d ∙ whole in
        rw (eq-eqb (length d) keys_size h) (e ∙ rw (eq-eqb (length keys) most_servers (omega arith)) (ap Ok same))
    go (no h) = rw (ne_eqb (length d) keys_size h) (e ∙ rw (ne_eqb (length keys) most_servers (λ k. h (omega arith))) refl)
