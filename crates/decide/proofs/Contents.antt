-- The content of the rules is the one that the first members' fragments give: a member's fragment stands in its slot, and the leader's length is
-- theirs. Nothing is assumed.
use mathlib.Core.Path.{◌≡◌, refl, sym, ap, ◌∙◌}
use mathlib.Core.Bool.{Bool, true, false, cond}
use mathlib.Core.List.{List, [], ◌∷◌, ◌++◌, map, map-append}
use mathlib.Core.Option.{some}
use Prim.Native.Nat.{ℕ, zero, suc, ◌+◌, ◌-◌, ◌*◌, ◌≤◌, ◌<◌}
use native.Mathlib.Omega.{arith}
use lib.ListN.{take, drop}
use lib.Seq.{take-take, get_or-drop}
use Rattle.cluster.specs.Config.{shelf}
use Rattle.cluster.specs.Ranges.{most_servers}
use Rattle.sha256.specs.Sha256.{sha256}
use Rattle.erasure.specs.Fragments.{fragment_size_def, Part, restored}
use Rattle.erasure.proofs.Laws.{take-map}
use Rattle.protocol.specs.Values.{Held, stamp_size}
use Rattle.protocol.specs.Primitives.{real}
use Rattle.protocol.specs.Rules.{agrees, part_of, parts, restored_by}
use Rattle.protocol.specs.View.{share_of_size, share_at, replies_place, reply_slot, marked, candidates_in, replies_in, reply_slot_of}
use Rattle.format.specs.Reading.{bytes_at}
use Rattle.decide.specs.Steps.{servers_of_def, fits_at, agrees_at_def, members_at, fragment_of, content_of}
use Rattle.decide.proofs.Groups.{fits-named, leader_full, member-threshold, agrees_at}
use Rattle.decide.proofs.Places.{reply_in}
use Rattle.decide.proofs.Replies.{size_in_def, held_share, fragment_in_lem, slot-part}

pub restored_first : (points : List ℕ) (k n : ℕ) (ps : List Part) → restored points k n ps ≡ restored points k n (take k ps)
unfolding restored
restored_first points k n ps = rw (take-take k k ps (omega arith))

content_of_lem : (t : ℕ) (ms kept : List ℕ) (i b : ℕ)
    → parts real (shelf t) (marked ms) (replies_in (shelf t) ms kept) (candidates_in (shelf t) kept (suc i)) (suc b) (shelf t).servers
    ≡ map (fragment_of kept (fragment_size_def (shelf t).threshold (size_in_def (reply_slot_of kept b)))) (servers_of_def (shelf t).servers (agrees_at_def t ms kept i b))
    → restored_by real (shelf t) (marked ms) (replies_in (shelf t) ms kept) (candidates_in (shelf t) kept (suc i)) (suc b)
    (some (share_of_size (shelf t) (size_in_def (reply_slot_of kept b)) (drop (stamp_size + 1) (reply_slot_of kept b))))
    ≡ content_of t kept b (members_at t ms kept i b)
unfolding restored_by real content_of members_at share_at share_of_size
content_of_lem t ms kept i b h =
    rw (h, get_or-drop (stamp_size + 1) (reply_slot_of kept b) 0 0, get_or-drop (stamp_size + 1) (reply_slot_of kept b) 1 0)
    (restored_first (shelf t).points (shelf t).threshold (size_in_def (reply_slot_of kept b))
    (map (fragment_of kept (fragment_size_def (shelf t).threshold (size_in_def (reply_slot_of kept b)))) (servers_of_def (shelf t).servers (agrees_at_def t ms kept i b)))
    ∙ ap (restored (shelf t).points (shelf t).threshold (size_in_def (reply_slot_of kept b)))
    (take-map (fragment_of kept (fragment_size_def (shelf t).threshold (size_in_def (reply_slot_of kept b)))) (shelf t).threshold
    (servers_of_def (shelf t).servers (agrees_at_def t ms kept i b))))

module _ (t : ℕ) (ms kept : List ℕ) (i : ℕ) (d : List ℕ) (e : d ≡ sha256 (candidates_in (shelf t) kept (suc i)).nonce) (b : ℕ)
    (small : b < most_servers) (fit : fits_at t ms kept i b ≡ true)
    (few : (shelf t).servers ≤ most_servers) (room : stamp_size + 3 + fragment_size_def (shelf t).threshold (size_in_def (reply_slot_of kept b)) ≤ reply_slot) where
  -- the fragment of a member, as it stands in its slot
  member-part : (j : ℕ) → j < most_servers → agrees_at_def t ms kept i b (suc j) ≡ true
      → part_of real (shelf t) (suc j) (replies_in (shelf t) ms kept (suc j)).share ≡ fragment_of kept
      (fragment_size_def (shelf t).threshold (size_in_def (reply_slot_of kept b))) (suc j) ∷ []
  unfolding fragment_of
  member-part j l h =
      let n : ℕ = size_in_def (reply_slot_of kept j) in
      let z : suc j - 1 ≡ j = omega arith in
      let a = member-threshold t ms kept i d e b small fit j l h in
      let q : size_in_def (reply_slot_of kept j) ≡ size_in_def (reply_slot_of kept b) = a.2 in
      let s : (replies_in (shelf t) ms kept (suc j)).share ≡ some (share_of_size (shelf t) (size_in_def (reply_slot_of kept j))
      (drop (stamp_size + 1) (reply_slot_of kept j))) =
      ap (λ (x : Held). x.share) (reply_in (shelf t) ms kept j l a.0) ∙ held_share (shelf t) (reply_slot_of kept j) a.1 in
      let f : (share_of_size (shelf t) (size_in_def (reply_slot_of kept j)) (drop (stamp_size + 1) (reply_slot_of kept j))).fragment ≡ bytes_at kept
      (replies_place + reply_slot * (suc j - 1) + (stamp_size + 3)) (fragment_size_def (shelf t).threshold (size_in_def (reply_slot_of kept b))) =
      fragment_in_lem (shelf t) (reply_slot_of kept j) (size_in_def (reply_slot_of kept j)) ∙ ap
      (λ (x : ℕ). bytes_at (reply_slot_of kept j) (stamp_size + 3) (fragment_size_def (shelf t).threshold x)) q
      ∙ slot-part kept j (stamp_size + 3) (fragment_size_def (shelf t).threshold (size_in_def (reply_slot_of kept b))) room
      ∙ ap (λ (x : ℕ). bytes_at kept (replies_place + reply_slot * x + (stamp_size + 3))
      (fragment_size_def (shelf t).threshold (size_in_def (reply_slot_of kept b))))
      (sym z) in
      ap (part_of real (shelf t) (suc j)) s ∙ ap (λ (x : List ℕ). record { server = suc j; bytes = x } ∷ []) f

  parts-members : (n : ℕ) → n ≤ most_servers
      → parts real (shelf t) (marked ms) (replies_in (shelf t) ms kept) (candidates_in (shelf t) kept (suc i)) (suc b) n
      ≡ map (fragment_of kept (fragment_size_def (shelf t).threshold (size_in_def (reply_slot_of kept b)))) (servers_of_def n (agrees_at_def t ms kept i b))
  unfolding parts servers_of_def
  parts-members zero l = refl
  parts-members (suc n) l =
      rw (parts-members n (omega arith)) (go (agrees_at_def t ms kept i b (suc n)) refl)
      ∙ sym (map-append (fragment_of kept (fragment_size_def (shelf t).threshold (size_in_def (reply_slot_of kept b)))) (servers_of_def n (agrees_at_def t ms kept i b))
      (cond (agrees_at_def t ms kept i b (suc n)) (suc n ∷ []) []))
    where
      go : (y : Bool) → agrees_at_def t ms kept i b (suc n) ≡ y
          → map (fragment_of kept (fragment_size_def (shelf t).threshold (size_in_def (reply_slot_of kept b)))) (servers_of_def n (agrees_at_def t ms kept i b))
          ++ cond (agrees real (shelf t) (marked ms) (replies_in (shelf t) ms kept) (candidates_in (shelf t) kept (suc i)) (suc b) (suc n))
          (part_of real (shelf t) (suc n) (replies_in (shelf t) ms kept (suc n)).share) []
          ≡ map (fragment_of kept (fragment_size_def (shelf t).threshold (size_in_def (reply_slot_of kept b)))) (servers_of_def n (agrees_at_def t ms kept i b))
          ++ map (fragment_of kept (fragment_size_def (shelf t).threshold (size_in_def (reply_slot_of kept b))))
          (cond (agrees_at_def t ms kept i b (suc n)) (suc n ∷ []) [])
      go true q =
          ap (λ (z : List Part). map (fragment_of kept (fragment_size_def (shelf t).threshold (size_in_def (reply_slot_of kept b))))
          (servers_of_def n (agrees_at_def t ms kept i b)) ++ z)
          (ap (λ (y : Bool). cond y (part_of real (shelf t) (suc n) (replies_in (shelf t) ms kept (suc n)).share) [])
          (agrees_at t ms kept i b (suc n) ∙ q)
          ∙ member-part n (omega arith) q
          ∙ sym (ap (λ (y : Bool). map (fragment_of kept (fragment_size_def (shelf t).threshold (size_in_def (reply_slot_of kept b)))) (cond y (suc n ∷ []) []))
          q))
      go false q =
          ap (λ (z : List Part). map (fragment_of kept (fragment_size_def (shelf t).threshold (size_in_def (reply_slot_of kept b))))
          (servers_of_def n (agrees_at_def t ms kept i b)) ++ z)
          (ap (λ (y : Bool). cond y (part_of real (shelf t) (suc n) (replies_in (shelf t) ms kept (suc n)).share) [])
          (agrees_at t ms kept i b (suc n) ∙ q)
          ∙ sym (ap (λ (y : Bool). map (fragment_of kept (fragment_size_def (shelf t).threshold (size_in_def (reply_slot_of kept b)))) (cond y (suc n ∷ []) []))
          q))

  pub restored-members : restored_by real (shelf t) (marked ms) (replies_in (shelf t) ms kept) (candidates_in (shelf t) kept (suc i)) (suc b)
      (replies_in (shelf t) ms kept (suc b)).share
      ≡ content_of t kept b (members_at t ms kept i b)
  restored-members =
      ap (restored_by real (shelf t) (marked ms) (replies_in (shelf t) ms kept) (candidates_in (shelf t) kept (suc i)) (suc b)) leader-share
      ∙ content_of_lem t ms kept i b (parts-members (shelf t).servers few)
    where
      leader-share : (replies_in (shelf t) ms kept (suc b)).share ≡ some (share_of_size (shelf t) (size_in_def (reply_slot_of kept b))
          (drop (stamp_size + 1) (reply_slot_of kept b)))
      leader-share =
          ap (λ (x : Held). x.share) (reply_in (shelf t) ms kept b small (fits-named t ms kept i d e b small fit).0)
          ∙ held_share (shelf t) (reply_slot_of kept b) (leader_full t ms kept i d e b small fit).flag
