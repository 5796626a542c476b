-- What a server's step changes in the bytes of its memory: one more stored write, another latest candidate; and the bytes of a blank one.
-- A memory's bytes are its printed fields and then zeros, so each change is one `put`. Nothing is assumed.
use mathlib.Core.Path.{◌≡◌, refl, sym, ap, ◌∙◌}
use mathlib.Core.List.{List, [], ◌∷◌, ◌++◌, append_assoc, append-nil}
use Prim.Native.Nat.{ℕ, suc, ◌+◌, ◌-◌, ◌≤◌, ◌<◌}
use native.Mathlib.Omega.{arith}
use lib.ListN.{length, drop, set, replicate, length-append, length-replicate, replicate-append-replicate}
use lib.Seq.{take_at, drop_at, drop-append-add}
use Rattle.cluster.specs.Config.{Config, shelf}
use Rattle.cluster.specs.Ranges.{memory_size}
use Rattle.format.specs.Format.{Fmt, print_many, byte, number4, run, seq, via, such, or_blank, many}
use Rattle.protocol.specs.Values.{Candidate, Write, blank_candidate, stamp_size, nonce_size, tags_size_def, candidate_size_def}
use Rattle.protocol.specs.Packet.{stamp_f, write_f, candidate_f, any_candidate_f}
use Rattle.protocol.specs.Memory.{Memory, memory_f, encode_memory, blank_memory}
use Rattle.format.specs.Reading.{put}

-- n zeros
abbrev pub noughts : ℕ → List ℕ
noughts n = replicate n 0

-- ---- one more stored write

abbrev pub added : Memory → Write → Memory
added m w = record { t = m.t; server = m.server; latest = m.latest; writes = m.writes ++ w ∷ [] }

pub print_snoc : {A : Type 0} (F : Fmt A) (xs : List A) (w : A) → print_many F (xs ++ w ∷ []) ≡ print_many F xs ++ F.print w
print_snoc F [] w = append-nil (F.print w)
print_snoc F (x ∷ xs) w = ap (λ (y : List ℕ). F.print x ++ y) (print_snoc F xs w) ∙ sym (append_assoc (F.print x) (print_many F xs) (F.print w))

-- bytes over the zeros after a list
put-zeros : (p b : List ℕ) (n : ℕ) → length b ≤ n → put (p ++ noughts n) (length p) b ≡ p ++ (b ++ noughts (n - length b))
unfolding put
put-zeros p b n h =
    let k : n ≡ length b + (n - length b) = omega arith in
    let z : noughts n ≡ noughts (length b) ++ noughts (n - length b) =
    ap noughts k ∙ sym (replicate-append-replicate (length b) (n - length b) 0) in
    let l : length (noughts (length b)) ≡ length b = length-replicate (length b) 0 in
    let q : drop (length p + length b) (p ++ noughts n) ≡ noughts (n - length b) =
    drop-append-add p (noughts n) (length b) ∙ ap (drop (length b)) z
    ∙ drop_at (noughts (length b)) (noughts (n - length b)) (length b) l in
    rw (take_at p (noughts n) (length p) refl, q)

pub append-bytes : (m : Memory) (w : Write) → length (memory_f.print m) + length ((write_f (shelf m.t)).print w) ≤ memory_size
    → put (set (encode_memory m) 2 (length m.writes + 1)) (length (memory_f.print m)) ((write_f (shelf m.t)).print w) ≡ encode_memory (added m w)
unfolding encode_memory memory_f such via seq byte many
append-bytes m w h =
    let F : Fmt Write = write_f (shelf m.t) in
    let W : List ℕ = print_many F m.writes in
    let L : List ℕ = (any_candidate_f (shelf m.t)).print m.latest in
    let B : List ℕ = F.print w in
    let n : ℕ = length m.writes + 1 in
    let P : List ℕ = m.t ∷ m.server ∷ n ∷ (L ++ W) in
    let k : ℕ = memory_size - length (memory_f.print m) in
    let e : length (m.writes ++ w ∷ []) ≡ n = length-append m.writes (w ∷ []) in
    let f : L ++ print_many F (m.writes ++ w ∷ []) ≡ L ++ W ++ B =
    ap (λ (y : List ℕ). L ++ y) (print_snoc F m.writes w) ∙ sym (append_assoc L W B) in
    let r : k - length B ≡ memory_size - length (P ++ B) = omega (arith, length-append P B) in
    let g : m.t ∷ m.server ∷ length (m.writes ++ w ∷ []) ∷ (L ++ print_many F (m.writes ++ w ∷ [])) ≡ P ++ B =
    λ i. m.t ∷ m.server ∷ e i ∷ f i in
    put-zeros P B k (omega arith) ∙ ap (λ (j : ℕ). P ++ (B ++ noughts j)) r ∙ sym (append_assoc P B (noughts (memory_size - length (P ++ B))))
    ∙ sym (ap (λ (y : List ℕ). y ++ noughts (memory_size - length y)) g)

-- ---- another latest candidate

abbrev pub raised : Memory → Candidate → Memory
raised m c = record { t = m.t; server = m.server; latest = c; writes = m.writes }

-- bytes over as many, within a list
put_same : (p a b q : List ℕ) → length a ≡ length b → put (p ++ (a ++ q)) (length p) b ≡ p ++ (b ++ q)
unfolding put
put_same p a b q e =
    let d : drop (length p + length b) (p ++ (a ++ q)) ≡ q = drop-append-add p (a ++ q) (length b) ∙ drop_at a q (length b) e in
    rw (take_at p (a ++ q) (length p) refl, d)

pub latest-bytes : (m : Memory) (c : Candidate)
    → length ((any_candidate_f (shelf m.t)).print m.latest) ≡ length ((any_candidate_f (shelf m.t)).print c)
    → put (encode_memory m) 3 ((any_candidate_f (shelf m.t)).print c) ≡ encode_memory (raised m c)
unfolding encode_memory memory_f such via seq byte many
latest-bytes m c e =
    let W : List ℕ = print_many (write_f (shelf m.t)) m.writes in
    let A : List ℕ = (any_candidate_f (shelf m.t)).print m.latest in
    let B : List ℕ = (any_candidate_f (shelf m.t)).print c in
    let P : List ℕ = m.t ∷ m.server ∷ length m.writes ∷ [] in
    let Z : List ℕ = noughts (memory_size - length (P ++ (A ++ W))) in
    let k : length (P ++ (A ++ W)) ≡ length (P ++ (B ++ W)) = omega (arith, length-append A W, length-append B W, e) in
    let a : P ++ (A ++ W) ++ Z ≡ P ++ (A ++ (W ++ Z)) = ap (λ (y : List ℕ). P ++ y) (append_assoc A W Z) in
    ap (λ (y : List ℕ). put y 3 B) a ∙ put_same P A B (W ++ Z) e ∙ ap (λ (y : List ℕ). P ++ y) (sym (append_assoc B W Z))
    ∙ ap (λ (j : ℕ). P ++ (B ++ W) ++ noughts (memory_size - j)) k

-- ---- the blank memory

pub blank-print : (s : Config) → (any_candidate_f s).print (blank_candidate s) ≡ noughts (candidate_size_def s)
unfolding any_candidate_f candidate_f or_blank stamp_f via seq number4 byte run
blank-print s = replicate-append-replicate (stamp_size + nonce_size) (tags_size_def s) 0

-- a zero, n zeros as L, and zeros to the end
gap : (N : ℕ) (L : List ℕ) (n : ℕ) → L ≡ noughts n → suc n ≤ N → noughts N ≡ 0 ∷ (L ++ noughts ((N + 2) - suc (suc (suc (length L)))))
gap N L n l h =
    let k : ℕ = (N + 2) - suc (suc (suc (length L))) in
    let m : length L ≡ n = ap length l ∙ length-replicate n 0 in
    let e : N ≡ suc (n + k) = omega arith in
    let f : noughts (n + k) ≡ L ++ noughts k = sym (replicate-append-replicate n k 0) ∙ ap (λ (z : List ℕ). z ++ noughts k) (sym l) in
    ap noughts e ∙ ap (λ (z : List ℕ). 0 ∷ z) f

-- bytes after t and the server's number
abbrev pub blank_rest : ℕ
blank_rest = memory_size - 2

pub blank-bytes : (t b : ℕ) → candidate_size_def (shelf t) < blank_rest → encode_memory (blank_memory t b) ≡ t ∷ b ∷ noughts blank_rest
unfolding encode_memory memory_f such via seq byte many
blank-bytes t b h =
    let L : List ℕ = (any_candidate_f (shelf t)).print (blank_candidate (shelf t)) in
    let l : L ++ [] ≡ noughts (candidate_size_def (shelf t)) = append-nil L ∙ blank-print (shelf t) in
    sym (ap (λ (z : List ℕ). t ∷ b ∷ z) (gap blank_rest (L ++ []) (candidate_size_def (shelf t)) l h))
