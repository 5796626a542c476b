-- The bytes of stamps and of runs of tags: what a clock reply's stamp raises the number to, and how runs are written one entry after another.
-- A number's four bytes print back as they were, and an entry put after a run is the longer run put once. Assumes nothing.
use mathlib.Core.Path.{◌≡◌, refl, sym, ap, ◌∙◌}
use mathlib.Core.Bool.{true, false, not}
use mathlib.Core.List.{List, [], ◌∷◌, ◌++◌, append-nil}
use Prim.Native.Nat.{ℕ, zero, suc, ◌+◌, ◌-◌, ◌*◌, ◌≤◌, ◌<◌}
use native.Mathlib.Omega.{arith}
use native.Mathlib.Numerals.{add-one}
use lib.Dec.{eqb}
use lib.ListN.{length, drop, get_or, length-append}
use lib.Seq.{drop-length}
use borrow.Author.Tests.{lt-ltb, le-ltb}
use Rattle.hmac.specs.Hmac.{tag_of, tag_size}
use Rattle.format.specs.Format.{Bytes}
use Rattle.protocol.specs.Values.{same_list, run_of}
use Rattle.protocol.specs.Primitives.{real, stamp_message_def}
use Rattle.protocol.specs.Client.{higher, checks}
use Rattle.protocol.specs.View.{stamp_at_def, marked}
use Rattle.format.specs.Reading.{bytes_at, over, put}
use Rattle.protocol.specs.ClientBytes.{key_of}
use Rattle.format.proofs.Formats.{print4-value}
use Rattle.protocol.proofs.Primitive.{real-lengths, run_length}
use Rattle.format.proofs.Puts.{put_put, put-over}
use Rattle.client.specs.Steps.{tag_run}

pub marked_at : (ms : List ℕ) (b : ℕ) → 1 ≤ b → marked ms b ≡ not (eqb (get_or ms (b - 1) 0) 0)
unfolding marked
marked_at ms zero h = let z : ⊥ = omega arith in absurd z
marked_at ms (suc i) h =
    let e : i ≡ suc i - 1 = omega arith in
    ap (λ (k : ℕ). not (eqb (get_or ms k 0) 0)) e

-- ---- a clock reply

pub message : (d : List ℕ) → Bytes d → 5 ≤ length d → bytes_at d 0 5 ≡ stamp_message_def (stamp_at_def d).number (stamp_at_def d).writer
unfolding bytes_at stamp_message_def stamp_at_def
message [] b h = let z : ⊥ = omega arith in absurd z
message (p ∷ []) b h = let z : ⊥ = omega arith in absurd z
message (p ∷ q ∷ []) b h = let z : ⊥ = omega arith in absurd z
message (p ∷ q ∷ r ∷ []) b h = let z : ⊥ = omega arith in absurd z
message (p ∷ q ∷ r ∷ s ∷ []) b h = let z : ⊥ = omega arith in absurd z
message (p ∷ q ∷ r ∷ s ∷ w ∷ d) b h = sym (ap (λ (x : List ℕ). x ++ (w ∷ [])) (print4-value p q r s (b 1) (b 2) (b 3)))

module _ (writers d : List ℕ) (high : ℕ) where
  pub stays-low : (stamp_at_def d).number ≤ high → higher real writers high (stamp_at_def d) ≡ high
  unfolding higher
  stays-low h = rw (le-ltb high (stamp_at_def d).number h)

  module _ (bytes : Bytes d) (long : 5 ≤ length d) (up : high < (stamp_at_def d).number) where
    same-checks : checks real writers (stamp_at_def d) ≡ same_list (bytes_at d 5 tag_size) (tag_of writers (bytes_at d 0 5))
    unfolding checks real stamp_at_def
    same-checks = rw (message d bytes long)

    pub raised : same_list (bytes_at d 5 tag_size) (tag_of writers (bytes_at d 0 5)) ≡ true → higher real writers high (stamp_at_def d) ≡ (stamp_at_def d).number
    unfolding higher
    raised e = rw (lt-ltb high (stamp_at_def d).number up, same-checks, e)

    pub not-raised : same_list (bytes_at d 5 tag_size) (tag_of writers (bytes_at d 0 5)) ≡ false → higher real writers high (stamp_at_def d) ≡ high
    unfolding higher
    not-raised e = rw (lt-ltb high (stamp_at_def d).number up, same-checks, e)

-- ---- runs that are written one entry after another

pub put_all : (d b : List ℕ) → length b ≡ length d → put d 0 b ≡ b
unfolding over
put_all d b e = put-over d b ∙ (ap (λ (k : ℕ). b ++ drop k d) e ∙ (ap (λ (x : List ℕ). b ++ x) (drop-length d) ∙ append-nil b))

pub put_none : (d : List ℕ) → d ≡ put d 0 []
unfolding put
put_none d = refl

pub two_puts : (d m g : List ℕ) (n : ℕ) → length m ≡ n → length m + length g ≡ length d → put (put d 0 m) n g ≡ m ++ g
two_puts d m g n e h =
    let o : n ≡ 0 + n = omega arith in
    ap (λ (k : ℕ). put (put d 0 m) k g) o ∙ (put_put d 0 n m g e (omega arith) ∙ put_all d (m ++ g) (length-append m g ∙ h))

pub tag-run-length : (keys : List (List ℕ)) (stamp digest : List ℕ) (n : ℕ) → length (tag_run keys stamp digest n) ≡ tag_size * n
unfolding tag_run tag_of real
tag-run-length keys stamp digest n = run_length tag_size (λ i. tag_of (key_of keys i) (stamp ++ digest))
    (λ i. real-lengths.tag (key_of keys i) (stamp ++ digest)) n

pub key_at : (keys : List (List ℕ)) (i : ℕ) → key_of keys (suc i) ≡ get_or keys i []
unfolding key_of
key_at [] i = refl
key_at (k ∷ ks) zero = refl
key_at (k ∷ ks) (suc i) = key_at ks i

pub tag_more : (d : List ℕ) (keys : List (List ℕ)) (stamp digest : List ℕ) (i : ℕ) (key : List ℕ) → key_of keys (suc i) ≡ key → tag_size * i + tag_size ≤
    length d
    → put (put d 0 (tag_run keys stamp digest i)) (tag_size * i) (tag_of key (stamp ++ digest)) ≡ put d 0 (tag_run keys stamp digest (i + 1))
unfolding tag_run run_of real
tag_more d keys stamp digest i key k h =
    let R : List ℕ = tag_run keys stamp digest i in
    let X : List ℕ = tag_of key (stamp ++ digest) in
    let o : tag_size * i ≡ 0 + tag_size * i = omega arith in
    let l = real-lengths.tag key (stamp ++ digest) in
    let m : R ++ X ≡ tag_run keys stamp digest (suc i) = ap (λ (x : List ℕ). R ++ tag_of x (stamp ++ digest)) (sym k) in
    ap (λ (n : ℕ). put (put d 0 R) n X) o ∙ (put_put d 0 (tag_size * i) R X (tag-run-length keys stamp digest i) (omega (arith, l))
    ∙ ap (put d 0) (m ∙ ap (tag_run keys stamp digest) (sym (add-one i))))
