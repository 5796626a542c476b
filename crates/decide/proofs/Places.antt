-- The slots of the kept bytes: a part of a part is a part, comparing slots is comparing the stamps and candidates in them, and a stamp's rank is read
-- off its first five bytes. Comparing needs bytes: numbers of four bytes tell them only then. Nothing else is assumed.
use mathlib.Core.Path.{◌≡◌, refl, sym, ap, ◌∙◌}
use mathlib.Core.Bool.{Bool, true, false, ◌&&◌, and_assoc}
use mathlib.Core.List.{List, [], ◌∷◌, ◌++◌}
use Prim.Native.Nat.{ℕ, zero, suc, ◌+◌, ◌-◌, ◌*◌, ◌≤◌, ◌<◌}
use native.Mathlib.Omega.{arith}
use lib.Dec.{ltb, eqb}
use lib.ListN.{length, take, drop, get_or, get_or-eq_default, length-take, length-drop}
use lib.Seq.{take-nil, take-take, drop-drop, take-add, get_or-take, get_or-drop, length-take-le}
use borrow.Author.Tests.{lt-ltb, ltb-true, ltb-false}
use Rattle.cluster.specs.Config.{Config}
use Rattle.format.specs.Format.{Bytes, via, seq, number4, byte, run}
use Rattle.protocol.specs.Values.{Candidate, same_list, same_stamp, same_candidate, stamp_size, nonce_size, tags_size_def, candidate_size_def, rank}
use Rattle.protocol.specs.Packet.{stamp_f}
use Rattle.protocol.specs.View.{kept_size, stamp_at_def, candidate_at, held_at, candidates_in, replies_in, reply_slot_of, marked, candidates_place, candidate_slot}
use Rattle.format.specs.Reading.{bytes_at}
use Rattle.format.proofs.Formats.{print4-value}
use Rattle.protocol.proofs.Equal.{same_printed}
use Rattle.decide.specs.Steps.{rank_at}
use Rattle.hmac.specs.Hmac.{tag_size}
use Rattle.cluster.specs.Ranges.{most_servers}

-- ---- parts

drop_take : (p n : ℕ) (l : List ℕ) → drop p (take n l) ≡ take (n - p) (drop p l)
drop_take zero n l = let e : n ≡ n - 0 = omega arith in ap (λ (k : ℕ). take k l) e
drop_take (suc p) zero l = let e : 0 ≡ 0 - suc p = omega arith in ap (λ (k : ℕ). take k (drop (suc p) l)) e
drop_take (suc p) (suc n) [] = sym (take-nil (suc n - suc p))
drop_take (suc p) (suc n) (x ∷ xs) = let e : n - p ≡ suc n - suc p = omega arith in drop_take p n xs ∙ ap (λ (k : ℕ). take k (drop p xs)) e

pub part-part : (d : List ℕ) (at n p m : ℕ) → p + m ≤ n → bytes_at (bytes_at d at n) p m ≡ bytes_at d (at + p) m
unfolding bytes_at
part-part d at n p m h =
    ap (take m) (drop_take p n (drop at d)) ∙ take-take m (n - p) (drop p (drop at d)) (omega arith) ∙ ap (take m) (drop-drop p at d)

pub get_d_part : (d : List ℕ) (at n i : ℕ) → i < n → get_or (bytes_at d at n) i 0 ≡ get_or d (at + i) 0
unfolding bytes_at
get_d_part d at n i h = get_or-take n (drop at d) i 0 h ∙ get_or-drop at d i 0

pub part_length : (d : List ℕ) (at n : ℕ) → at + n ≤ length d → length (bytes_at d at n) ≡ n
unfolding bytes_at
part_length d at n h = length-take-le n (drop at d) (omega (arith, length-drop at d))

pub part-split : (d : List ℕ) (p n m : ℕ) → bytes_at d p (n + m) ≡ bytes_at d p n ++ bytes_at d (p + n) m
unfolding bytes_at
part-split d p n m = take-add n m (drop p d) ∙ ap (λ (z : List ℕ). take n (drop p d) ++ take m z) (drop-drop n p d)

-- what a borrowed part of the code holds
pub part_of : (d : List ℕ) (at n : ℕ) → take (at + n - at) (drop at d) ≡ bytes_at d at n
unfolding bytes_at
part_of d at n = let e : at + n - at ≡ n = omega arith in ap (λ (k : ℕ). take k (drop at d)) e

pub bytes-part : (d : List ℕ) (at n : ℕ) → Bytes d → Bytes (bytes_at d at n)
unfolding bytes_at
bytes-part d at n h i = go (ltb i n) refl
  where
    go : (b : Bool) → ltb i n ≡ b → get_or (take n (drop at d)) i 0 < 256
    go true e = rw (get_or-take n (drop at d) i 0 (ltb-true i n e), get_or-drop at d i 0) (h (at + i))
    go false e = rw (get_or-eq_default (take n (drop at d)) 0 {n = i} (omega (arith, ltb-false i n e, length-take n (drop at d)))) (omega arith)

-- ---- comparing

pub same-append : (a b c d : List ℕ) → length a ≡ length c → same_list (a ++ b) (c ++ d) ≡ (same_list a c && same_list b d)
same-append [] b [] d h = refl
same-append [] b (y ∷ ys) d h = absurd (omega arith)
same-append (x ∷ xs) b [] d h = absurd (omega arith)
same-append (x ∷ xs) b (y ∷ ys) d h =
    ap (λ (z : Bool). eqb x y && z) (same-append xs b ys d (omega arith)) ∙ sym (and_assoc (eqb x y) (same_list xs ys) (same_list b d))

-- parts one after the other
pub same_parts : (a b : List ℕ) (p q n m : ℕ) → p + n ≤ length a → q + n ≤ length b
    → same_list (bytes_at a p (n + m)) (bytes_at b q (n + m)) ≡ (same_list (bytes_at a p n) (bytes_at b q n)
    && same_list (bytes_at a (p + n) m) (bytes_at b (q + n) m))
same_parts a b p q n m h k =
    ap (λ (z : List ℕ). same_list z (bytes_at b q (n + m))) (part-split a p n m)
    ∙ ap (same_list (bytes_at a p n ++ bytes_at a (p + n) m)) (part-split b q n m)
    ∙ same-append (bytes_at a p n) (bytes_at a (p + n) m) (bytes_at b q n) (bytes_at b (q + n) m) (part_length a p n h ∙ sym (part_length b q n k))

-- a stamp of bytes is printed as it was read
pub stamp-bytes : (d : List ℕ) → Bytes d → 5 ≤ length d → stamp_f.print (stamp_at_def d) ≡ bytes_at d 0 stamp_size
unfolding stamp_at_def bytes_at stamp_f via seq number4 byte run
stamp-bytes [] b h = absurd (omega arith)
stamp-bytes (x ∷ []) b h = absurd (omega arith)
stamp-bytes (x ∷ y ∷ []) b h = absurd (omega arith)
stamp-bytes (x ∷ y ∷ z ∷ []) b h = absurd (omega arith)
stamp-bytes (x ∷ y ∷ z ∷ u ∷ []) b h = absurd (omega arith)
stamp-bytes (x ∷ y ∷ z ∷ u ∷ w ∷ r) b h = ap (λ (l : List ℕ). l ++ (w ∷ take tag_size r)) (print4-value x y z u (b 1) (b 2) (b 3))

pub same-stamps : (a b : List ℕ) → Bytes a → Bytes b → stamp_size ≤ length a → stamp_size ≤ length b
    → same_list (bytes_at a 0 stamp_size) (bytes_at b 0 stamp_size) ≡ same_stamp (stamp_at_def a) (stamp_at_def b)
same-stamps a b p q h k = rw (← stamp-bytes a p (omega arith), ← stamp-bytes b q (omega arith)) (same_printed (stamp_at_def a) (stamp_at_def b))

-- the same, of the first bytes as the code takes them
pub same_heads : (a b : List ℕ) → Bytes a → Bytes b → stamp_size ≤ length a → stamp_size ≤ length b
    → same_list (take stamp_size a) (take stamp_size b) ≡ same_stamp (stamp_at_def a) (stamp_at_def b)
unfolding bytes_at
same_heads a b p q h k = same-stamps a b p q h k

pub same-candidates : (s : Config) (a b : List ℕ) → Bytes a → Bytes b → candidate_size_def s ≤ length a → candidate_size_def s ≤ length b
    → same_list (bytes_at a 0 (candidate_size_def s)) (bytes_at b 0 (candidate_size_def s)) ≡ same_candidate (candidate_at s a) (candidate_at s b)
unfolding candidate_at same_candidate
same-candidates s a b p q h k =
    same_parts a b 0 0 (stamp_size + nonce_size) (tags_size_def s) (omega arith) (omega arith)
    ∙ ap (λ (z : Bool). z && same_list (bytes_at a (stamp_size + nonce_size) (tags_size_def s)) (bytes_at b (stamp_size + nonce_size) (tags_size_def s)))
    (same_parts a b 0 0 stamp_size nonce_size (omega arith) (omega arith)
    ∙ ap (λ (z : Bool). z && same_list (bytes_at a stamp_size nonce_size) (bytes_at b stamp_size nonce_size))
    (same-stamps a b p q (omega arith) (omega arith)))
    ∙ and_assoc (same_stamp (stamp_at_def a) (stamp_at_def b)) (same_list (bytes_at a stamp_size nonce_size) (bytes_at b stamp_size nonce_size))
    (same_list (bytes_at a (stamp_size + nonce_size) (tags_size_def s)) (bytes_at b (stamp_size + nonce_size) (tags_size_def s)))

-- ---- slots

pub candidate_in_lem : (s : Config) (kept : List ℕ) (i : ℕ) → i < most_servers
    → candidates_in s kept (suc i) ≡ candidate_at s (bytes_at kept (candidates_place + candidate_slot * i) candidate_slot)
unfolding candidates_in
candidate_in_lem s kept i h = rw (lt-ltb i most_servers h)

pub reply_in : (s : Config) (ms kept : List ℕ) (i : ℕ) → i < most_servers → marked ms (suc i) ≡ true → replies_in s ms kept (suc i) ≡ held_at s
    (reply_slot_of kept i)
unfolding replies_in
reply_in s ms kept i h e = rw (lt-ltb i most_servers h, e)

-- the rank of a stamp in a slot
pub stamp-rank : (d : List ℕ) (at n : ℕ) → 5 ≤ n → rank (stamp_at_def (bytes_at d at n)) ≡ rank_at d at
unfolding stamp_at_def rank_at bytes_at
stamp-rank d at n h =
    let x = drop at d in
    rw (
      get_or-take n x 0 0 (omega arith),
      get_or-take n x 1 0 (omega arith),
      get_or-take n x 2 0 (omega arith),
      get_or-take n x 3 0 (omega arith),
      get_or-take n x 4 0 (omega arith),
    )
    refl

-- two slots of candidates, compared by as many bytes as a candidate has
pub same_slots : (s : Config) (kept : List ℕ) (i j : ℕ) → s.servers ≤ most_servers → Bytes kept → length kept ≡ kept_size → i < most_servers → j <
    most_servers
    → same_list (bytes_at kept (candidates_place + candidate_slot * i) (candidate_size_def s))
    (bytes_at kept (candidates_place + candidate_slot * j) (candidate_size_def s))
    ≡ same_candidate (candidates_in s kept (suc i)) (candidates_in s kept (suc j))
same_slots s kept i j few b l h k =
    let n : ℕ = candidates_place + candidate_slot * i in
    let m : ℕ = candidates_place + candidate_slot * j in
    let p : bytes_at (bytes_at kept n candidate_slot) 0 (candidate_size_def s) ≡ bytes_at kept n (candidate_size_def s) =
    part-part kept n candidate_slot 0 (candidate_size_def s) (omega arith) ∙ (let e : n + 0 ≡ n = omega arith in ap
    (λ (x : ℕ). bytes_at kept x (candidate_size_def s)) e) in
    let q : bytes_at (bytes_at kept m candidate_slot) 0 (candidate_size_def s) ≡ bytes_at kept m (candidate_size_def s) =
    part-part kept m candidate_slot 0 (candidate_size_def s) (omega arith) ∙ (let e : m + 0 ≡ m = omega arith in ap
    (λ (x : ℕ). bytes_at kept x (candidate_size_def s)) e) in
    rw (← p, ← q, candidate_in_lem s kept i h, candidate_in_lem s kept j k)
    (same-candidates s (bytes_at kept n candidate_slot) (bytes_at kept m candidate_slot) (bytes-part kept n candidate_slot b)
    (bytes-part kept m candidate_slot b)
    (omega (arith, part_length kept n candidate_slot (omega arith))) (omega (arith, part_length kept m candidate_slot (omega arith))))

pub nonce_in : (s : Config) (kept : List ℕ) (i : ℕ) → i < most_servers
    → (candidates_in s kept (suc i)).nonce ≡ bytes_at kept (candidates_place + candidate_slot * i + stamp_size) nonce_size
unfolding candidate_at
nonce_in s kept i h =
    ap (λ (c : Candidate). c.nonce) (candidate_in_lem s kept i h) ∙ part-part kept (candidates_place + candidate_slot * i) candidate_slot stamp_size
    nonce_size
    (omega arith)

pub candidate-tags : (s : Config) (kept : List ℕ) (i : ℕ) → i < most_servers → s.servers ≤ most_servers
    → (candidates_in s kept (suc i)).tags ≡ bytes_at kept (candidates_place + candidate_slot * i + (stamp_size + nonce_size)) (tags_size_def s)
unfolding candidate_at
candidate-tags s kept i h few =
    ap (λ (c : Candidate). c.tags) (candidate_in_lem s kept i h) ∙ part-part kept (candidates_place + candidate_slot * i) candidate_slot
    (stamp_size + nonce_size) (tags_size_def s) (omega arith)
