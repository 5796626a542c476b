-- What private functions promise each other; no public contract names these.
-- The steps to a decision, one for each function of the code, in terms of the rules.
-- Stamps are compared by their ranks.
use Rattle.std.specs.Prelude.{◌≡◌, Bool, true, false, cond, ◌&&◌, List, [], ◌∷◌, ◌++◌, map, ℕ, zero, suc, ◌+◌, ◌-◌, ◌*◌, ◌≤◌, ◌<◌, leb, ltb, eqb, length, take, drop, get_or}
use Rattle.std.specs.Prelude as told
use Rattle.std.proofs.Math.Option.{Option, none, some}
use Rattle.cluster.specs.Config.{Config, quorum, shelf}
use Rattle.cluster.specs.Ranges.{top_length, top_faults}
use Rattle.sha256.specs.Sha256.{sha256}
use Rattle.format.specs.Format.{value2}
use Rattle.protocol.specs.Values.{Candidate, Share, Held, same_list, nth, digest_size, digests_size_def, tags_size_def, stamp_size, rank, same_stamp}
use Rattle.protocol.specs.Primitives.{real}
use Rattle.protocol.specs.Rules.{ByServer, count_to, keep, first, gather, proven, fits, agrees, leads, leader}
use Rattle.protocol.specs.View.{kept_size, marked, candidates_in, replies_in, reply_slot_of, replies_place, reply_slot, stamp_at_def, share_at, held_at}
use Rattle.format.specs.Reading.{bytes_at}
use Rattle.erasure.specs.Fragments.{Part, fragment_size_def, restored}
use Rattle.decide.specs.declared.leading.Choice.{Choice}
use Rattle.decide.specs.declared.leading.Group.{Group}
use Rattle.decide.specs.Listing.{usable, enters}
use Rattle.decide.specs.Decided.{tags_place_def}

-- what the private functions ask of their arguments
pub record Usable (t : ℕ) (kept : List ℕ) : Type 0 where
  pub low : 1 ≤ t
  pub high : t ≤ top_faults
  pub size : length kept ≡ kept_size

-- the test of the arguments, and what it tells
pub record UsableAs (t : ℕ) (kept : List ℕ) (r : Bool) : Type 0 where
  pub same : r ≡ usable t kept
  pub told : r ≡ true → Usable t kept

-- ---- ranks

-- the rank of the stamp at a place
unfoldable pub rank_at : List ℕ → ℕ → ℕ
rank_at d at = rank (stamp_at_def (drop at d))

-- the ranks of blank stamps go up to this one
abbrev pub blank_rank : ℕ
blank_rank = 255

-- server i replied with a stamp of a lower rank
abbrev pub ranks_below : ByServer Bool → ByServer Held → ℕ → ByServer Bool
ranks_below m g key i = m i && ltb (rank (g i).stamp) key

-- a candidate of this rank is still in the list
unfoldable pub stays : Config → ByServer Bool → ByServer Held → ℕ → Bool
stays s m g key = ltb (count_to s.servers (ranks_below m g key)) (quorum s)

-- the higher of a rank and the candidate's, where it stays
unfoldable pub raised : Config → ByServer Bool → ByServer Held → Candidate → ℕ → ℕ
raised s m g c top = cond (ltb top (rank c.stamp) && stays s m g (rank c.stamp)) (rank c.stamp) top

-- the highest rank of the candidates of servers 1 to n that stay, or the blank one
unfoldable pub top_rank : Config → ByServer Bool → ByServer Held → ByServer Candidate → ℕ → ℕ
top_rank s m g held zero = blank_rank
top_rank s m g held (suc n) = raised s m g (held (suc n)) (top_rank s m g held n)

-- ---- groups

-- what a reply shows without a digest of its fragment: the candidate's stamp, a length in its range, and the nonce's digest d
abbrev pub names_share : List ℕ → Option Share → Bool
names_share d none = false
names_share d (some h) = leb h.size top_length && same_list h.nonce_digest_def d

unfoldable pub names : Candidate → List ℕ → Held → Bool
names c d x = same_stamp x.stamp c.stamp && names_share d x.share

-- server i's fragment has its own digest
abbrev pub intact : ℕ → Option Share → Bool
intact i none = false
intact i (some h) = same_list (sha256 h.fragment) (nth digest_size h.digests i)

-- the marked ones of servers 1 to n, in order
unfoldable pub servers_of_def : ℕ → ByServer Bool → List ℕ
servers_of_def zero m = []
servers_of_def (suc n) m = servers_of_def n m ++ cond (m (suc n)) (suc n ∷ []) []

-- the rules at the candidate of slot i, for the servers of slots b and j
unfoldable pub fits_at : ℕ → List ℕ → List ℕ → ℕ → ℕ → Bool
fits_at t marks kept i j = fits real (shelf t) (marked marks) (replies_in (shelf t) marks kept) (candidates_in (shelf t) kept (suc i)) (suc j)

unfoldable pub agrees_at_def : ℕ → List ℕ → List ℕ → ℕ → ℕ → ByServer Bool
agrees_at_def t marks kept i b = agrees real (shelf t) (marked marks) (replies_in (shelf t) marks kept) (candidates_in (shelf t) kept (suc i)) (suc b)

unfoldable pub leads_at : ℕ → List ℕ → List ℕ → ℕ → ℕ → Bool
leads_at t marks kept i b = leads real (shelf t) (marked marks) (replies_in (shelf t) marks kept) (candidates_in (shelf t) kept (suc i)) (suc b)

unfoldable pub leader_at : ℕ → List ℕ → List ℕ → ℕ → ℕ → ℕ
leader_at t marks kept i n = leader real (shelf t) (marked marks) (replies_in (shelf t) marks kept) (candidates_in (shelf t) kept (suc i)) n

unfoldable pub top_at : ℕ → List ℕ → List ℕ → ℕ → ℕ
top_at t marks kept n = top_rank (shelf t) (marked marks) (replies_in (shelf t) marks kept) (candidates_in (shelf t) kept) n

-- the reply in slot j, whoever is marked
unfoldable pub slot_held : ℕ → List ℕ → ℕ → Held
slot_held t kept j = held_at (shelf t) (reply_slot_of kept j)

-- a reply's slot has byte 1 (any but 0) and a length in its range
pub record Full (reply : List ℕ) : Type 0 where
  pub flag : eqb (get_or reply stamp_size 0) 0 ≡ false
  pub top : value2 (get_or reply (stamp_size + 1) 0) (get_or reply (stamp_size + 2) 0) ≤ top_length

-- the servers of b's group, as many as restore a content
unfoldable pub members_at : ℕ → List ℕ → List ℕ → ℕ → ℕ → List ℕ
members_at t marks kept i b = take (shelf t).threshold (servers_of_def (shelf t).servers (agrees_at_def t marks kept i b))

-- ---- what the functions that answer with a group tell

pub record DigestsAt (t n r : ℕ) : Type 0 where
  pub place : r ≡ stamp_size + 3 + fragment_size_def (shelf t).threshold n
  pub room : r + digests_size_def (shelf t) + digest_size + tags_size_def (shelf t) ≤ reply_slot

pub record TagsAt (t n r : ℕ) : Type 0 where
  pub place : r ≡ tags_place_def t n
  pub room : r + tags_size_def (shelf t) ≤ reply_slot

-- the first servers of an array are the members of a group: all that restore a content
pub record Members (t : ℕ) (marks kept : List ℕ) (i b : ℕ) (servers : List ℕ) : Type 0 where
  pub enough : (shelf t).threshold ≤ length (members_at t marks kept i b)
  pub these : take (shelf t).threshold servers ≡ members_at t marks kept i b

-- the members, where there are enough
abbrev pub MembersAs : ℕ → List ℕ → List ℕ → ℕ → ℕ → told.Option (List ℕ) → Type 0
MembersAs t marks kept i b told.None = length (members_at t marks kept i b) < (shelf t).threshold
MembersAs t marks kept i b (told.Some servers) = Members t marks kept i b servers

-- server n leads a group
pub record Leads (t : ℕ) (marks kept : List ℕ) (i n : ℕ) (r : Group) : Type 0 where
  pub leader : n ≡ suc r.leader
  pub these : take (shelf t).threshold r.servers ≡ members_at t marks kept i r.leader

-- the group of server n, where it is not 0
abbrev pub GroupAs : ℕ → List ℕ → List ℕ → ℕ → ℕ → told.Option Group → Type 0
GroupAs t marks kept i n told.None = n ≡ 0
GroupAs t marks kept i n (told.Some r) = Leads t marks kept i n r

-- the candidate of slot i has this rank and is listed
unfoldable pub tried_at : ℕ → List ℕ → ℕ → ℕ → Bool
tried_at t kept key i = eqb (rank (candidates_in (shelf t) kept (suc i)).stamp) key && enters (candidates_in (shelf t) kept) (suc i)

-- the first proven candidate of this rank among those of servers 1 to n
unfoldable pub first_proven : ℕ → List ℕ → List ℕ → ℕ → ℕ → Option Candidate
first_proven t marks kept key n =
    first (proven real (shelf t) (marked marks) (replies_in (shelf t) marks kept))
    (keep (λ c. eqb (rank c.stamp) key) (gather (candidates_in (shelf t) kept) n))

-- it stands in the slot, which is listed, and the group proves it
pub record Hit (t : ℕ) (marks kept : List ℕ) (key : ℕ) (r : Choice) : Type 0 where
  pub slot : r.slot < (shelf t).servers
  pub listed : enters (candidates_in (shelf t) kept) (suc r.slot) ≡ true
  pub chosen : first_proven t marks kept key (shelf t).servers ≡ some (candidates_in (shelf t) kept (suc r.slot))
  pub leader : leader_at t marks kept r.slot (shelf t).servers ≡ suc r.group.leader
  pub members : take (shelf t).threshold r.group.servers ≡ members_at t marks kept r.slot r.group.leader

abbrev pub ChoiceAs : ℕ → List ℕ → List ℕ → ℕ → told.Option Choice → Type 0
ChoiceAs t marks kept key told.None = first_proven t marks kept key (shelf t).servers ≡ none
ChoiceAs t marks kept key (told.Some r) = Hit t marks kept key r

-- ---- restoring

-- server i's fragment of f bytes, as it stands in its slot
unfoldable pub fragment_of : List ℕ → ℕ → ℕ → Part
fragment_of kept f i = record { server = i; bytes = bytes_at kept (replies_place + reply_slot * (i - 1) + (stamp_size + 3)) f }

-- the content that these servers' fragments give, of the length in slot b
unfoldable pub content_of : ℕ → List ℕ → ℕ → List ℕ → List ℕ
content_of t kept b servers =
    let n = (share_at (shelf t) (drop (stamp_size + 1) (reply_slot_of kept b))).size in
    restored (shelf t).points (shelf t).threshold n (map (fragment_of kept (fragment_size_def (shelf t).threshold n)) servers)

-- the first k servers of an array are servers, in rising order
pub record Rising (t : ℕ) (servers : List ℕ) : Type 0 where
  pub lowest : (i : ℕ) → i < (shelf t).threshold → 1 ≤ get_or servers i 0
  pub highest : (i : ℕ) → i < (shelf t).threshold → get_or servers i 0 ≤ (shelf t).servers
  pub rising : (i j : ℕ) → i < j → j < (shelf t).threshold → get_or servers i 0 < get_or servers j 0

-- r holds the fragments of f bytes of the first k servers, one after the other
pub record FragmentsAs (t : ℕ) (kept : List ℕ) (f : ℕ) (servers r : List ℕ) : Type 0 where
  pub long : (shelf t).threshold * f ≤ length r
  pub each : (p : ℕ) → p < (shelf t).threshold → bytes_at r (p * f) f ≡ (fragment_of kept f (get_or servers p 0)).bytes
