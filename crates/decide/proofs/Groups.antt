-- Groups, as the code finds them: a reply fits where it names the candidate and its fragment has its own digest, cheap tests first; it agrees where
-- it also agrees with the leader's; and a leader that fits agrees with itself. Nothing is assumed.
use mathlib.Core.Path.{◌≡◌, refl, sym, ap, ◌∙◌, subst}
use mathlib.Core.Bool.{Bool, true, false, cond, ◌&&◌, and_assoc, and-false, and-true}
use mathlib.Core.List.{List}
use mathlib.Core.Option.{Option, none, some}
use Prim.Native.Nat.{ℕ, zero, suc, ◌+◌, ◌≤◌, ◌<◌}
use native.Mathlib.Numerals.{add-one}
use native.Mathlib.Omega.{arith}
use lib.Dec.{T, leb, eqb}
use Prim.Native.Nat.{min}
use lib.ListN.{length, drop, get_or, length-take}
use borrow.Author.Tests.{leb-true, eqb-true, eqb-false, le-leb, lt-leb, eq-eqb, ne_eqb}
use Rattle.cluster.specs.Config.{Config, shelf}
use Rattle.cluster.specs.Ranges.{top_length, most_servers}
use Rattle.cluster.proofs.Tests.{and_both}
use Rattle.sha256.specs.Sha256.{sha256}
use Rattle.protocol.specs.Values.{Candidate, Share, Held, same_list, same_stamp, nth, stamp_size, digest_size}
use Rattle.protocol.specs.Primitives.{real}
use Rattle.protocol.specs.Rules.{count_to, share_fits, fits, same_share, agrees, leads, leader}
use Rattle.protocol.specs.View.{share_of_size, held_at, marked, candidates_in, replies_in, reply_slot_of}
use Rattle.protocol.proofs.Equal.{same_refl}
use Rattle.decide.specs.Steps.{names_share, names, intact, servers_of_def, fits_at, agrees_at_def, leads_at, leader_at, slot_held, Full, members_at}
use Rattle.decide.proofs.Counted.{servers-length}
use Rattle.decide.proofs.Places.{reply_in}
use Rattle.decide.proofs.Replies.{size_in_def, held_share, names_full, alike-not}

same-share_self : (h : Share) → same_share real (shelf 0) (some h) (some h) ≡ true
same-share_self h = rw (eq-eqb h.size h.size refl, same_refl h.digests, same_refl h.nonce_digest_def) (same_refl h.tags)

module _ (s : Config) (c : Candidate) (d : List ℕ) (e : d ≡ sha256 c.nonce) where
  -- the tests of a share, in the code's order
  share-fits : (i : ℕ) (o : Option Share) → share_fits real s c i o ≡ (names_share d o && intact i o)
  unfolding real
  share-fits i none = refl
  share-fits i (some h) =
      rw e (sym (and_assoc (leb h.size top_length) (same_list h.nonce_digest_def (sha256 c.nonce))
      (same_list (sha256 h.fragment) (nth digest_size h.digests i))))

  pub fits_in : (i : ℕ) (x : Held) → (same_stamp x.stamp c.stamp && share_fits real s c i x.share) ≡ (names c d x && intact i x.share)
  unfolding names
  fits_in i x =
      ap (λ (z : Bool). same_stamp x.stamp c.stamp && z) (share-fits i x.share)
      ∙ sym (and_assoc (same_stamp x.stamp c.stamp) (names_share d x.share) (intact i x.share))

-- ---- at slots

pub unmarked : (ms : List ℕ) (j : ℕ) → get_or ms j 0 ≡ 0 → marked ms (suc j) ≡ false
unfolding marked
unmarked ms j h = rw (eq-eqb (get_or ms j 0) 0 h)

pub is-marked : (ms : List ℕ) (j : ℕ) → (get_or ms j 0 ≡ 0 → ⊥) → marked ms (suc j) ≡ true
unfolding marked
is-marked ms j h = rw (ne_eqb (get_or ms j 0) 0 h)

module _ (t : ℕ) (ms kept : List ℕ) (i : ℕ) where
  pub fits_unmarked : (j : ℕ) → get_or ms j 0 ≡ 0 → fits_at t ms kept i j ≡ false
  unfolding fits_at fits
  fits_unmarked j h = rw (unmarked ms j h)

  module _ (d : List ℕ) (e : d ≡ sha256 (candidates_in (shelf t) kept (suc i)).nonce) where
    pub fits-marked : (j : ℕ) → j < most_servers → marked ms (suc j) ≡ true
        → fits_at t ms kept i j ≡ (names (candidates_in (shelf t) kept (suc i)) d (slot_held t kept j) && intact (suc j) (slot_held t kept j).share)
    unfolding fits_at fits slot_held
    fits-marked j l h =
        rw (h, reply_in (shelf t) ms kept j l h) (fits_in (shelf t) (candidates_in (shelf t) kept (suc i)) d e (suc j)
        (held_at (shelf t) (reply_slot_of kept j)))

    -- what fitting tells: a mark, and a reply that names
    pub fits-named : (j : ℕ) → j < most_servers → fits_at t ms kept i j ≡ true
        → (marked ms (suc j) ≡ true) × (names (candidates_in (shelf t) kept (suc i)) d (slot_held t kept j) ≡ true)
    fits-named j l h = go (marked ms (suc j)) refl
      where
        go : (b : Bool) → marked ms (suc j) ≡ b → (marked ms (suc j) ≡ true) × (names (candidates_in (shelf t) kept (suc i)) d (slot_held t kept j) ≡
            true)
        go true q = (q, (and_both _ _ (sym (fits-marked j l q) ∙ h)).0)
        go false q = absurd (subst T (sym h ∙ never q) tt)
          where
            never : marked ms (suc j) ≡ false → fits_at t ms kept i j ≡ false
            never r = unfold fits_at fits in rw r

  pub agrees_unmarked : (b j : ℕ) → get_or ms j 0 ≡ 0 → agrees_at_def t ms kept i b (suc j) ≡ false
  unfolding agrees_at_def agrees fits
  agrees_unmarked b j h = rw (unmarked ms j h)

  -- agreeing is fitting, and the same share as the leader's
  agrees-fits : (b j : ℕ)
      → agrees_at_def t ms kept i b (suc j) ≡ (fits_at t ms kept i j && same_share real (shelf t) (replies_in (shelf t) ms kept (suc b)).share
      (replies_in (shelf t) ms kept (suc j)).share)
  unfolding agrees_at_def agrees fits_at
  agrees-fits b j = refl

  module _ (d : List ℕ) (e : d ≡ sha256 (candidates_in (shelf t) kept (suc i)).nonce) (b : ℕ) (small : b < most_servers)
      (fit : fits_at t ms kept i b ≡ true) where
    leads-marked : marked ms (suc b) ≡ true
    leads-marked = (fits-named d e b small fit).0

    pub leader_full : Full (reply_slot_of kept b)
    leader_full = names_full (shelf t) (reply_slot_of kept b) (candidates_in (shelf t) kept (suc i)) d (unfold slot_held in (fits-named d e b small fit).1)

    module _ (j : ℕ) (l : j < most_servers) (m : marked ms (suc j) ≡ true) where
      -- the order of the code: names, then the same share, then its own digest
      agrees_in : agrees_at_def t ms kept i b (suc j)
          ≡ ((names (candidates_in (shelf t) kept (suc i)) d (slot_held t kept j) && intact (suc j) (slot_held t kept j).share)
          && same_share real (shelf t) (slot_held t kept b).share (slot_held t kept j).share)
      agrees_in =
          agrees-fits b j
          ∙ rw (fits-marked d e j l m, reply_in (shelf t) ms kept b small leads-marked, reply_in (shelf t) ms kept j l m) (unfold slot_held in refl)

      pub agrees_nameless : names (candidates_in (shelf t) kept (suc i)) d (slot_held t kept j) ≡ false → agrees_at_def t ms kept i b (suc j) ≡ false
      agrees_nameless q = agrees_in ∙ rw q

      pub agrees_unlike : same_share real (shelf t) (slot_held t kept b).share (slot_held t kept j).share ≡ false → agrees_at_def t ms kept i b (suc j) ≡
          false
      agrees_unlike q =
          agrees_in ∙ rw q (and-false (names (candidates_in (shelf t) kept (suc i)) d (slot_held t kept j) && intact (suc j)
          (slot_held t kept j).share))

      pub agrees_last : names (candidates_in (shelf t) kept (suc i)) d (slot_held t kept j) ≡ true
          → same_share real (shelf t) (slot_held t kept b).share (slot_held t kept j).share ≡ true
          → agrees_at_def t ms kept i b (suc j) ≡ intact (suc j) (slot_held t kept j).share
      agrees_last q r = agrees_in ∙ rw (q, r) (and-true (intact (suc j) (slot_held t kept j).share))

    pub agrees_self : agrees_at_def t ms kept i b (suc b) ≡ true
    agrees_self =
        agrees-fits b b ∙ rw (fit, reply_in (shelf t) ms kept b small leads-marked, held_share (shelf t) (reply_slot_of kept b) leader_full.flag)
        (same-share_self (share_of_size (shelf t) (size_in_def (reply_slot_of kept b)) (drop (stamp_size + 1) (reply_slot_of kept b))))

  -- what agreeing tells: a mark, a share, and the leader's length
  pub member-threshold : (d : List ℕ) (e : d ≡ sha256 (candidates_in (shelf t) kept (suc i)).nonce) (b : ℕ) (small : b < most_servers)
      (fit : fits_at t ms kept i b ≡ true) (j : ℕ) → j < most_servers
      → agrees_at_def t ms kept i b (suc j) ≡ true
      → (marked ms (suc j) ≡ true) × (eqb (get_or (reply_slot_of kept j) stamp_size 0) 0 ≡ false) ×
      (size_in_def (reply_slot_of kept j) ≡ size_in_def (reply_slot_of kept b))
  unfolding slot_held
  member-threshold d e b small fit j l h =
      let k = and_both (fits_at t ms kept i j) (same_share real (shelf t) (replies_in (shelf t) ms kept (suc b)).share
      (replies_in (shelf t) ms kept (suc j)).share) (sym (agrees-fits b j) ∙ h) in
      let w = fits-named d e j l k.0 in
      let f = names_full (shelf t) (reply_slot_of kept j) (candidates_in (shelf t) kept (suc i)) d w.1 in
      let g = leader_full d e b small fit in
      let r : same_share real (shelf t) (held_at (shelf t) (reply_slot_of kept b)).share (held_at (shelf t) (reply_slot_of kept j)).share ≡ true =
      subst (λ (x : Held). same_share real (shelf t) (held_at (shelf t) (reply_slot_of kept b)).share x.share ≡ true)
      (reply_in (shelf t) ms kept j l w.0)
      (subst (λ (x : Held). same_share real (shelf t) x.share (replies_in (shelf t) ms kept (suc j)).share ≡ true)
      (reply_in (shelf t) ms kept b small (fits-named d e b small fit).0) k.1) in
      (w.0, f.flag, sizes (eqb (size_in_def (reply_slot_of kept j)) (size_in_def (reply_slot_of kept b))) refl r f g)
    where
      sizes : (y : Bool) → eqb (size_in_def (reply_slot_of kept j)) (size_in_def (reply_slot_of kept b)) ≡ y
          → same_share real (shelf t) (held_at (shelf t) (reply_slot_of kept b)).share (held_at (shelf t) (reply_slot_of kept j)).share ≡ true
          → Full (reply_slot_of kept j) → Full (reply_slot_of kept b) → size_in_def (reply_slot_of kept j) ≡ size_in_def (reply_slot_of kept b)
      sizes true q r f g = eqb-true (size_in_def (reply_slot_of kept j)) (size_in_def (reply_slot_of kept b)) q
      sizes false q r f g =
          absurd (subst T (sym r ∙ alike-not (shelf t) (reply_slot_of kept b) (reply_slot_of kept j) g f
          (eqb-false (size_in_def (reply_slot_of kept j)) (size_in_def (reply_slot_of kept b)) q)) tt)

  pub agrees_at : (b j : ℕ) → agrees real (shelf t) (marked ms) (replies_in (shelf t) ms kept) (candidates_in (shelf t) kept (suc i)) (suc b) j ≡
      agrees_at_def t ms kept i b j
  unfolding agrees_at_def
  agrees_at b j = refl

-- ---- leading

module _ (t : ℕ) (ms kept : List ℕ) (i : ℕ) where
  pub leads_unfit : (b : ℕ) → fits_at t ms kept i b ≡ false → leads_at t ms kept i b ≡ false
  unfolding leads_at leads fits_at
  leads_unfit b h = rw h

  members-length : (b : ℕ) → length (members_at t ms kept i b) ≡ min (shelf t).threshold (count_to (shelf t).servers (agrees_at_def t ms kept i b))
  unfolding members_at
  members-length b =
      length-take (shelf t).threshold (servers_of_def (shelf t).servers (agrees_at_def t ms kept i b))
      ∙ ap (min (shelf t).threshold) (servers-length (shelf t).servers (agrees_at_def t ms kept i b))

  pub members-most : (b : ℕ) → length (members_at t ms kept i b) ≤ (shelf t).threshold
  members-most b = omega (arith, members-length b)

  leads-count : (b : ℕ) → fits_at t ms kept i b ≡ true → leads_at t ms kept i b ≡ leb (shelf t).threshold
      (count_to (shelf t).servers (agrees_at_def t ms kept i b))
  unfolding leads_at leads fits_at agrees_at_def
  leads-count b h = rw h

  pub leads-few : (b : ℕ) → fits_at t ms kept i b ≡ true → length (members_at t ms kept i b) < (shelf t).threshold → leads_at t ms kept i b ≡ false
  leads-few b h l = leads-count b h ∙ lt-leb (shelf t).threshold (count_to (shelf t).servers (agrees_at_def t ms kept i b))
      (omega (arith, members-length b))

  pub leads_enough : (b : ℕ) → fits_at t ms kept i b ≡ true → (shelf t).threshold ≤ length (members_at t ms kept i b) → leads_at t ms kept i b ≡ true
  leads_enough b h l = leads-count b h ∙ le-leb (shelf t).threshold (count_to (shelf t).servers (agrees_at_def t ms kept i b))
      (omega (arith, members-length b))

  pub leads-fits : (b : ℕ) → leads_at t ms kept i b ≡ true → (fits_at t ms kept i b ≡ true) ×
      ((shelf t).threshold ≤ length (servers_of_def (shelf t).servers (agrees_at_def t ms kept i b)))
  unfolding leads_at leads fits_at agrees_at_def
  leads-fits b h =
      let k = and_both (fits real (shelf t) (marked ms) (replies_in (shelf t) ms kept) (candidates_in (shelf t) kept (suc i)) (suc b))
      (leb (shelf t).threshold (count_to (shelf t).servers (agrees real (shelf t) (marked ms) (replies_in (shelf t) ms kept)
      (candidates_in (shelf t) kept (suc i)) (suc b)))) h in (
        k.0,
        omega (
          arith,
          leb-true (shelf t).threshold (count_to (shelf t).servers (agrees real (shelf t) (marked ms) (replies_in (shelf t) ms kept)
              (candidates_in (shelf t) kept (suc i)) (suc b))) k.1,
          servers-length (shelf t).servers (agrees real (shelf t) (marked ms) (replies_in (shelf t) ms kept) (candidates_in (shelf t) kept (suc i))
              (suc b)),
        ),
      )

  -- the lowest leader, one slot more at a time
  pub leader_none : leader_at t ms kept i 0 ≡ 0
  unfolding leader_at leader
  leader_none = refl

  pub leader_more : (n : ℕ) → leader_at t ms kept i n ≡ 0 → leader_at t ms kept i (n + 1) ≡ cond (leads_at t ms kept i n) (suc n) 0
  unfolding leader_at leader leads_at
  leader_more n h = rw (add-one, h)

  pub leader-leads : (n b : ℕ) → leader_at t ms kept i n ≡ suc b → (leads_at t ms kept i b ≡ true) × (b < n)
  unfolding leader_at leader leads_at
  leader-leads zero b h = absurd (omega arith)
  leader-leads (suc n) b h =
      go (leader real (shelf t) (marked ms) (replies_in (shelf t) ms kept) (candidates_in (shelf t) kept (suc i)) n) refl
      (leads real (shelf t) (marked ms) (replies_in (shelf t) ms kept) (candidates_in (shelf t) kept (suc i)) (suc n)) refl h (leader-leads n b)
    where
      go : (x : ℕ) → leader real (shelf t) (marked ms) (replies_in (shelf t) ms kept) (candidates_in (shelf t) kept (suc i)) n ≡ x
          → (y : Bool) → leads real (shelf t) (marked ms) (replies_in (shelf t) ms kept) (candidates_in (shelf t) kept (suc i)) (suc n) ≡ y
          → cond (eqb x 0 && y) (suc n) x ≡ suc b → (leader_at t ms kept i n ≡ suc b → (leads_at t ms kept i b ≡ true) × (b < n)) →
          (leads_at t ms kept i b ≡ true) × (b < suc n)
      go zero e true q w f = let z : n ≡ b = omega arith in (subst (λ (k : ℕ). leads_at t ms kept i k ≡ true) z q, omega arith)
      go zero e false q w f = absurd (omega arith)
      go (suc x) e y q w f =
          let v : suc x ≡ suc b = sym (ap (λ (z : Bool). cond (z && y) (suc n) (suc x)) (ne_eqb (suc x) 0 (λ z. omega arith))) ∙ w in
          let r = f (e ∙ v) in
          (r.0, omega (arith, r.1))

  pub leader-kept : (b n : ℕ) → leader_at t ms kept i n ≡ suc b → (k : ℕ) → leader_at t ms kept i (n + k) ≡ suc b
  leader-kept b n h zero = let e : n + 0 ≡ n = omega arith in ap (leader_at t ms kept i) e ∙ h
  leader-kept b n h (suc k) =
      let e : n + suc k ≡ suc (n + k) = omega arith in
      ap (leader_at t ms kept i) e ∙ step (n + k) (leader-kept b n h k)
    where
      step : (m : ℕ) → leader_at t ms kept i m ≡ suc b → leader_at t ms kept i (suc m) ≡ suc b
      step m q = unfold leader_at leader in rw (q, ne_eqb (suc b) 0 (λ z. omega arith))
