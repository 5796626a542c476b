-- The keys of servers 1 to 13 in one run of bytes are read as they were passed; so a client 1 to 8, who is lent the shelf's keys, takes with those.
-- By the places, which are 32 bytes each. Assumes nothing.
use mathlib.Core.Path.{◌≡◌, refl, sym, ap, ◌∙◌}
use mathlib.Core.Bool.{Bool, true, false}
use mathlib.Core.List.{List, [], ◌∷◌, ◌++◌, map}
use Prim.Native.Nat.{ℕ, zero, suc, ◌+◌, ◌-◌, ◌*◌, ◌≤◌, ◌<◌}
use native.Mathlib.Nat.{le_of_eq}
use native.Mathlib.Omega.{arith}
use native.Mathlib.Numerals.{add-one}
use lib.Dec.{ltb}
use lib.ListN.{length, take, drop, get_or, length-append, length-map, get_or-eq_default}
use lib.Seq.{take_at, take_all, drop-append-add}
use borrow.Author.Tests.{ltb-true, ltb-false}
use Rattle.cluster.specs.Config.{up_to}
use Rattle.cluster.specs.Ranges.{key_size, most_servers}
use Rattle.cluster.proofs.Legal.{up_to-length, up_to_at}
use Rattle.cluster.proofs.Tests.{within_in}
use Rattle.erasure.proofs.Lists.{get_d_map}
use Rattle.format.specs.Reading.{bytes_at}
use Rattle.protocol.specs.ClientBytes.{key_of}
use Rattle.runs.specs.Runs.{Shelf}
use Rattle.wire.proofs.Runs.{padded-length, padded-whole}
use Rattle.client.proofs.StampBytes.{key_at}
use Rattle.embed.specs.Clients.{keys_size, keys_in}
use Rattle.embed.specs.Exports.{joined, passed_key, passed_keys, KeysSized}

-- ---- keys of 32 bytes, one after the other

abbrev Each : List (List ℕ) → Type 0
Each [] = Unit {0}
Each (x ∷ xs) = (length x ≡ key_size) × Each xs

each_map : (f : ℕ → List ℕ) → ((i : ℕ) → length (f i) ≡ key_size) → (is : List ℕ) → Each (map f is)
each_map f h [] = tt
each_map f h (i ∷ is) = (h i, each_map f h is)

joined_length : (xs : List (List ℕ)) → Each xs → length (joined xs) ≡ key_size * length xs
joined_length [] h = refl
joined_length (x ∷ xs) h = omega (arith, length-append x (joined xs), h.0, joined_length xs h.1)

joined-part : (xs : List (List ℕ)) → Each xs → (i : ℕ) → i < length xs → bytes_at (joined xs) (key_size * i) key_size ≡ get_or xs i []
unfolding bytes_at
joined-part [] h i l = absurd (omega arith)
joined-part (x ∷ xs) h zero l = take_at x (joined xs) key_size h.0
joined-part (x ∷ xs) h (suc i) l =
    let e : key_size * suc i ≡ length x + key_size * i = omega (arith, h.0) in
    ap (λ (k : ℕ). take key_size (drop k (x ++ joined xs))) e ∙ ap (take key_size) (drop-append-add x (joined xs) (key_size * i))
    ∙ joined-part xs h.1 i (omega arith)

module _ (keys : List (List ℕ)) where
  abbrev passed : ℕ → List ℕ
  passed b = passed_key (key_of keys b)

  each : Each (map passed (up_to most_servers))
  each = each_map passed (λ b. padded-length key_size (key_of keys b)) (up_to most_servers)

  many : length (map passed (up_to most_servers)) ≡ most_servers
  many = length-map (up_to most_servers) passed ∙ up_to-length most_servers

  pub passed-size : length (passed_keys keys) ≡ keys_size
  unfolding passed_keys
  passed-size = omega (arith, joined_length (map passed (up_to most_servers)) each, many)

  -- one of the 13
  read-key : (i : ℕ) → i < most_servers → key_of (keys_in (passed_keys keys)) (suc i) ≡ passed (suc i)
  unfolding keys_in passed_keys
  read-key i h =
      let d : List ℕ = passed_keys keys in
      let l : i < length (up_to most_servers) = omega (arith, up_to-length most_servers) in
      let e : get_or (up_to most_servers) i 0 ≡ suc i = up_to_at most_servers i h ∙ add-one i in
      let f : get_or (up_to most_servers) i 0 - 1 ≡ i = omega (arith, e) in
      key_at (keys_in d) i ∙ get_d_map (λ j. bytes_at d (key_size * (j - 1)) key_size) (up_to most_servers) i 0 [] l
      ∙ ap (λ (j : ℕ). bytes_at d (key_size * j) key_size) f ∙ joined-part (map passed (up_to most_servers)) each i (omega (arith, many))
      ∙ get_d_map passed (up_to most_servers) i 0 [] l ∙ ap passed e

  -- and no more
  read_past : (i : ℕ) → most_servers ≤ i → key_of (keys_in (passed_keys keys)) (suc i) ≡ []
  unfolding keys_in
  read_past i h =
      let d : List ℕ = passed_keys keys in
      key_at (keys_in d) i
      ∙ get_or-eq_default (keys_in d) []
      (omega (arith, length-map (up_to most_servers) (λ j. bytes_at d (key_size * (j - 1)) key_size), up_to-length most_servers))

-- ---- the shelf's own

pub own_key : (k : List ℕ) → length k ≡ key_size → passed_key k ≡ k
own_key k h = padded-whole key_size k (omega arith) ∙ take_all key_size k (le_of_eq h)

module _ (s : Shelf) (sized : KeysSized s) where
  key_read : (b : ℕ) → key_of (keys_in (passed_keys s.keys)) b ≡ key_of s.keys b
  unfolding key_of
  key_read zero = refl
  key_read (suc i) = go (ltb i most_servers) refl
    where
      go : (x : Bool) → ltb i most_servers ≡ x → key_of (keys_in (passed_keys s.keys)) (suc i) ≡ key_of s.keys (suc i)
      go true e =
          let h = ltb-true i most_servers e in
          read-key s.keys i h
          ∙ own_key (key_of s.keys (suc i)) (sized.servers (suc i) (within_in 1 most_servers (suc i) (omega arith) (omega (arith, h))))
      go false e =
          let h = ltb-false i most_servers e in
          read_past s.keys i h ∙ sym (key_at s.keys i ∙ get_or-eq_default s.keys [] (omega (arith, h, sized.count)))

  -- what a client is lent that is the shelf's keys is read as these
  pub keys_read : (lent : List (List ℕ)) → key_of lent ≡ key_of s.keys → key_of (keys_in (passed_keys lent)) ≡ key_of s.keys
  unfolding passed_keys
  keys_read lent e =
      ap (λ (k : ℕ → List ℕ). key_of (keys_in (joined (map (λ b. passed_key (k b)) (up_to most_servers))))) e ∙ (λ i b. unfold passed_keys in key_read b i)
