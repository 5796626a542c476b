-- The rules of collect and filter (Algorithm 6, with Algorithm 3 for COLLECT, FILTER and RESTORE, as document 01, "The client", amends them).
-- Who left the list, who is proven and what is chosen are functions of the list and of the replies; nothing of it is kept.
use Rattle.std.specs.Prelude.{Bool, false, cond, not, ◌&&◌, ◌||◌, List, [], ◌∷◌, ◌++◌, ℕ, zero, suc, ◌+◌, leb, ltb, eqb}
use Rattle.std.proofs.Math.Option.{Option, none, some}
use Rattle.cluster.specs.Config.{Config, quorum}
use Rattle.cluster.specs.Ranges.{top_length}
use Rattle.erasure.specs.Fragments.{Part}
use Rattle.protocol.specs.Values.{Candidate, Share, Held, same_list, nth, digest_size, below, same_stamp, same_candidate, is_blank_def}
use Rattle.protocol.specs.Primitives.{Primitives}

-- ---- what is told of each server by its number; nothing is told of 0

abbrev pub ByServer : Type 0 → Type 0
ByServer A = ℕ → A

unfoldable pub upd : {A : Type 0} → ByServer A → ℕ → A → ByServer A
upd f b x i = cond (eqb i b) x (f i)

unfoldable pub nobody : ByServer Bool
nobody i = false

-- how many of the servers 1 to n are marked
unfoldable pub count_to : ℕ → ByServer Bool → ℕ
count_to zero m = 0
count_to (suc n) m = cond (m (suc n)) 1 0 + count_to n m

unfoldable pub any : {A : Type 0} → (A → Bool) → List A → Bool
any p [] = false
any p (x ∷ xs) = p x || any p xs

unfoldable pub keep : {A : Type 0} → (A → Bool) → List A → List A
keep p [] = []
keep p (x ∷ xs) = cond (p x) (x ∷ keep p xs) (keep p xs)

unfoldable pub first : {A : Type 0} → (A → Bool) → List A → Option A
first p [] = none
first p (x ∷ xs) = cond (p x) (some x) (first p xs)

-- line 150. Amended: the set C is a list by server number, with equal ones once as in a set; this is that of servers 1 to n
unfoldable pub gather : ByServer Candidate → ℕ → List Candidate
gather g zero = []
gather g (suc n) =
    let l = gather g n in
    cond (is_blank_def (g (suc n)).stamp || any (same_candidate (g (suc n))) l) l (l ++ (g (suc n) ∷ []))

-- ---- the filter round: m marks the servers that replied, g is what each replied

module _ (P : Primitives) (s : Config) where
  -- server i replied with a stamp lower than the candidate's
  unfoldable pub lower : ByServer Bool → ByServer Held → Candidate → ByServer Bool
  lower m g c i = m i && below (g i).stamp c.stamp

  -- line 153: a candidate leaves the list when S - t replies are lower (Algorithm 3's `invalid`)
  unfoldable pub live : ByServer Bool → ByServer Held → List Candidate → List Candidate
  live m g cs = keep (λ c. ltb (count_to s.servers (lower m g c)) (quorum s)) cs

  -- the length is in its range, as in every decoded reply: bytes that no packet gave fit nothing
  abbrev pub share_fits : Candidate → ℕ → Option Share → Bool
  share_fits c i none = false
  share_fits c i (some h) =
      leb h.size top_length
      && (same_list h.nonce_digest_def (P.digest c.nonce) && same_list (P.digest h.fragment) (nth digest_size h.digests i))

  -- line 161, of one reply: the candidate's stamp, and a fragment that has its own digest; amended: byte 1, and a nonce digest that is the nonce's
  unfoldable pub fits : ByServer Bool → ByServer Held → Candidate → ByServer Bool
  fits m g c i = m i && (same_stamp (g i).stamp c.stamp && share_fits c i (g i).share)

  -- line 161, of two replies: equal digests and tags and, amended, length and nonce digest
  abbrev pub same_share : Option Share → Option Share → Bool
  same_share none y = false
  same_share (some a) none = false
  same_share (some a) (some b) =
      eqb a.size b.size && (same_list a.digests b.digests && (same_list a.nonce_digest_def b.nonce_digest_def && same_list a.tags b.tags))

  -- server i's reply is of the group of server b's
  unfoldable pub agrees : ByServer Bool → ByServer Held → Candidate → ℕ → ByServer Bool
  agrees m g c b i = fits m g c i && same_share (g b).share (g i).share

  -- k replies of its group: b's own fits too, so that a spoilt reply leads none
  unfoldable pub leads : ByServer Bool → ByServer Held → Candidate → ℕ → Bool
  leads m g c b = fits m g c b && leb s.threshold (count_to s.servers (agrees m g c b))

  -- the lowest server of 1 to n whose group is large enough, or 0. Amended: of two groups the one with the lowest server counts
  unfoldable pub leader : ByServer Bool → ByServer Held → Candidate → ℕ → ℕ
  leader m g c zero = 0
  leader m g c (suc n) = cond (eqb (leader m g c n) 0 && leads m g c (suc n)) (suc n) (leader m g c n)

  -- line 161: safe(c)
  abbrev pub proven : ByServer Bool → ByServer Held → Candidate → Bool
  proven m g c = not (eqb (leader m g c s.servers) 0)

  -- highcand(c) of Algorithm 3: no other one in the list is higher
  unfoldable pub highest : List Candidate → List Candidate
  highest cs = keep (λ c. not (any (λ d. below c.stamp d.stamp) cs)) cs

  -- line 143. Amended: the first proven one among the highest
  unfoldable pub choice : ByServer Bool → ByServer Held → List Candidate → Option Candidate
  choice m g cs = first (proven m g) (highest (live m g cs))

  -- ---- RESTORE, line 144. Amended: from the group alone, by server number

  abbrev pub part_of : ℕ → Option Share → List Part
  part_of i none = []
  part_of i (some h) = record { server = i; bytes = h.fragment } ∷ []

  -- the fragments of b's group among servers 1 to n
  unfoldable pub parts : ByServer Bool → ByServer Held → Candidate → ℕ → ℕ → List Part
  parts m g c b zero = []
  parts m g c b (suc n) = parts m g c b n ++ cond (agrees m g c b (suc n)) (part_of (suc n) (g (suc n)).share) []

  unfoldable pub restored_by : ByServer Bool → ByServer Held → Candidate → ℕ → Option Share → List ℕ
  restored_by m g c b none = []
  restored_by m g c b (some h) = P.restored s.points s.threshold h.size (parts m g c b s.servers)

  -- line 155. Amended: the tags of the proven group
  abbrev pub tags_in : Candidate → Option Share → List ℕ
  tags_in c none = c.tags
  tags_in c (some h) = h.tags
