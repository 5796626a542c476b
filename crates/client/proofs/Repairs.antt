-- The candidate for repair, as the code writes it: the stamp and the nonce of a slot and after them the tags of a reply, each within the kept bytes.
-- Its bytes are as many as a candidate's, whatever the slots hold. Assumes nothing.
use mathlib.Core.Path.{◌≡◌, refl, sym, ap, ◌∙◌}
use mathlib.Core.List.{List}
use Prim.Native.Nat.{ℕ, ◌+◌, ◌-◌, ◌*◌, ◌≤◌, ◌<◌}
use native.Mathlib.Omega.{arith}
use lib.ListN.{length, length-append}
use Rattle.cluster.specs.Config.{shelf}
use Rattle.cluster.specs.Ranges.{top_faults, top_length, most_servers}
use Rattle.erasure.specs.Fragments.{fragment_size_def}
use Rattle.protocol.specs.Values.{stamp_size, nonce_size, tags_size_def, candidate_size_def}
use Rattle.protocol.specs.View.{kept_size, candidates_place, candidate_slot, replies_place, reply_slot}
use Rattle.format.specs.Reading.{bytes_at, put}
use Rattle.format.proofs.Puts.{put_put}
use Rattle.format.proofs.Places.{part_same}
use Rattle.decide.specs.Decided.{tags_place_def}
use Rattle.client.specs.Filter.{repair_bytes}
use Rattle.decide.proofs.Places.{part_length}
use Rattle.client.proofs.Printed.{fragment-most}
use Rattle.hmac.specs.Hmac.{tag_size}

pub tags-room : (t n : ℕ) → t ≤ top_faults → n ≤ top_length → tags_place_def t n + tags_size_def (shelf t) ≤ 2048
unfolding shelf
tags-room t n h k = let f : fragment_size_def (t + 1) n ≤ n + t = fragment-most t n (fragment_size_def (t + 1) n) refl in omega arith

module _ (t : ℕ) (kept : List ℕ) (i b n : ℕ) (top : t ≤ top_faults) (size : length kept ≡ kept_size) (slot : i < most_servers) (low : 1 ≤ b)
    (high : b ≤ most_servers) (short : n ≤ top_length) where
  abbrev name : List ℕ
  name = bytes_at kept (candidates_place + candidate_slot * i) (stamp_size + nonce_size)

  abbrev tags : List ℕ
  tags = bytes_at kept (replies_place + reply_slot * (b - 1) + tags_place_def t n) (tags_size_def (shelf t))

  name-length : length name ≡ stamp_size + nonce_size
  name-length = part_length kept (candidates_place + candidate_slot * i) (stamp_size + nonce_size) (omega arith)

  tags-length : length tags ≡ tags_size_def (shelf t)
  tags-length = part_length kept (replies_place + reply_slot * (b - 1) + tags_place_def t n) (tags_size_def (shelf t)) (omega (arith, tags-room t n top short))

  pub repair-length : length (repair_bytes t kept i b n) ≡ candidate_size_def (shelf t)
  unfolding repair_bytes
  repair-length = omega (arith, length-append name tags, name-length, tags-length)

  few : tags_size_def (shelf t) ≤ tag_size * most_servers
  unfolding shelf
  few = omega arith

  -- the tags after the stamp and the nonce
  pub repair_put : (bytes : List ℕ) → candidate_slot ≤ length bytes → put (put bytes 0 name) (stamp_size + nonce_size) tags ≡ put bytes 0
      (repair_bytes t kept i b n)
  unfolding repair_bytes
  repair_put bytes h = put_put bytes 0 (stamp_size + nonce_size) name tags name-length (omega (arith, tags-length, few))

  -- and read back
  pub repair-cut : (bytes : List ℕ) → candidate_slot ≤ length bytes → bytes_at (put bytes 0 (repair_bytes t kept i b n)) 0 (candidate_size_def (shelf t)) ≡
      repair_bytes t kept i b n
  repair-cut bytes h =
      ap (bytes_at (put bytes 0 (repair_bytes t kept i b n)) 0) (sym repair-length) ∙ part_same bytes 0 (repair_bytes t kept i b n)
      (omega (arith, repair-length, few))

  -- the two parts fit their buffer
  pub name-fits : (bytes : List ℕ) → candidate_slot ≤ length bytes → 0 + length name ≤ length bytes
  name-fits bytes h = omega (arith, name-length)

  pub tags_fit : (bytes : List ℕ) → candidate_slot ≤ length bytes → stamp_size + nonce_size + length tags ≤ length bytes
  tags_fit bytes h = omega (arith, tags-length, few)
