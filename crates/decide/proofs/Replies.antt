-- A reply's slot read by place: its share's fields stand one after the other past the stamp and the byte, so that naming a candidate, having its own
-- digest and agreeing with another reply are comparisons of parts of slots. Stamps are compared by their bytes. Nothing is assumed.
use mathlib.Core.Path.{◌≡◌, refl, sym, ap, ◌∙◌, subst}
use mathlib.Core.Bool.{Bool, true, false, ◌&&◌, and_assoc, and-false}
use mathlib.Core.List.{List}
use mathlib.Core.Option.{Option, some}
use Prim.Native.Nat.{ℕ, suc, ◌+◌, ◌-◌, ◌*◌, ◌≤◌, ◌<◌}
use native.Mathlib.Omega.{arith}
use lib.Dec.{T, leb, eqb}
use lib.ListN.{length, take, drop, get_or}
use lib.Seq.{drop-drop, get_or-drop}
use borrow.Author.Tests.{leb-true, le-leb, lt-leb, eq-eqb, ne_eqb}
use Rattle.cluster.specs.Config.{Config, shelf}
use Rattle.cluster.specs.Ranges.{top_length, most_servers}
use Rattle.cluster.proofs.Tests.{and_both}
use Rattle.sha256.specs.Sha256.{sha256}
use Rattle.erasure.specs.Fragments.{fragment_size_def}
use Rattle.format.specs.Format.{value2}
use Rattle.protocol.specs.Values.{Candidate, Share, same_list, same_stamp, nth, stamp_size, digest_size, digests_size_def, tags_size_def}
use Rattle.protocol.specs.Primitives.{real}
use Rattle.protocol.specs.Rules.{same_share}
use Rattle.protocol.specs.View.{stamp_at_def, candidate_at, share_of_size, share_at, held_at, replies_place, reply_slot, reply_slot_of, kept_size}
use Rattle.format.specs.Reading.{bytes_at}
use Rattle.decide.specs.Decided.{share_of}
use Rattle.decide.specs.Steps.{names_share, names, intact, Full}
use Rattle.decide.proofs.Places.{part-part, same_parts, part_of, part_length}

-- the length in a reply
abbrev pub size_in_def : List ℕ → ℕ
size_in_def d = value2 (get_or d (stamp_size + 1) 0) (get_or d (stamp_size + 2) 0)

-- where the digests begin
abbrev pub digests_in_def : Config → List ℕ → ℕ
digests_in_def s d = stamp_size + 3 + fragment_size_def s.threshold (size_in_def d)

named_range : (x : List ℕ) (h : Share) → names_share x (some h) ≡ true → h.size ≤ top_length
named_range x h e = leb-true h.size top_length (and_both (leb h.size top_length) (same_list h.nonce_digest_def x) e).0

-- an entry of a run within the slot
pub nth-part : (d : List ℕ) (p n w j : ℕ) → w * j + w ≤ n → nth w (bytes_at d p n) (suc j) ≡ bytes_at d (p + w * j) w
unfolding nth bytes_at
nth-part d p n w j h =
    let e : suc j - 1 ≡ j = omega arith in
    ap (λ (k : ℕ). take w (drop (w * k) (take n (drop p d)))) e ∙ part-part d p n (w * j) w h

module _ (s : Config) (d : List ℕ) where
  body-part : (p q n : ℕ) → stamp_size + 1 + p ≡ q → bytes_at (drop (stamp_size + 1) d) p n ≡ bytes_at d q n
  unfolding bytes_at
  body-part p q n e = ap (take n) (drop-drop p (stamp_size + 1) d ∙ ap (λ (k : ℕ). drop k d) e)

  pub held_share : eqb (get_or d stamp_size 0) 0 ≡ false → (held_at s d).share ≡ some (share_of_size s (size_in_def d) (drop (stamp_size + 1) d))
  unfolding held_at share_at
  held_share e = rw (e, get_or-drop (stamp_size + 1) d 0 0, get_or-drop (stamp_size + 1) d 1 0)

  module _ (n : ℕ) where
    pub fragment_in_lem : (share_of_size s n (drop (stamp_size + 1) d)).fragment ≡ bytes_at d (stamp_size + 3) (fragment_size_def s.threshold n)
    unfolding share_of_size
    fragment_in_lem = body-part 2 (stamp_size + 3) (fragment_size_def s.threshold n) refl

    pub digests_in_lem : (share_of_size s n (drop (stamp_size + 1) d)).digests ≡ bytes_at d (stamp_size + 3 + fragment_size_def s.threshold n) (digests_size_def s)
    unfolding share_of_size
    digests_in_lem = body-part (2 + fragment_size_def s.threshold n) (stamp_size + 3 + fragment_size_def s.threshold n) (digests_size_def s) (omega arith)

    pub nonce-digest_in : (share_of_size s n (drop (stamp_size + 1) d)).nonce_digest_def
        ≡ bytes_at d (stamp_size + 3 + fragment_size_def s.threshold n + digests_size_def s)
        digest_size
    unfolding share_of_size
    nonce-digest_in =
        body-part (2 + fragment_size_def s.threshold n + digests_size_def s) (stamp_size + 3 + fragment_size_def s.threshold n + digests_size_def s) digest_size
        (omega arith)

    pub tags_in_lem : (share_of_size s n (drop (stamp_size + 1) d)).tags ≡ bytes_at d
        (stamp_size + 3 + fragment_size_def s.threshold n + digests_size_def s + digest_size)
        (tags_size_def s)
    unfolding share_of_size
    tags_in_lem =
        body-part (2 + fragment_size_def s.threshold n + digests_size_def s + digest_size) (stamp_size + 3 + fragment_size_def s.threshold n + digests_size_def s +
        digest_size) (tags_size_def s) (omega arith)

  -- the fragment as the reader of shares hands it out
  pub fragment-handed : (share_at s (drop (stamp_size + 1) d)).fragment ≡ bytes_at d (stamp_size + 3) (fragment_size_def s.threshold (size_in_def d))
  unfolding share_at
  fragment-handed = rw (get_or-drop (stamp_size + 1) d 0 0, get_or-drop (stamp_size + 1) d 1 0) (fragment_in_lem (size_in_def d))

  -- ---- naming a candidate

  pub names_none : (c : Candidate) (x : List ℕ) → eqb (get_or d stamp_size 0) 0 ≡ true → names c x (held_at s d) ≡ false
  unfolding names held_at
  names_none c x h = rw h (and-false (same_stamp (stamp_at_def d) c.stamp))

  module _ (e x : List ℕ) where
    names_some : eqb (get_or d stamp_size 0) 0 ≡ false
        → names (candidate_at s e) x (held_at s d)
        ≡ (same_stamp (stamp_at_def d) (stamp_at_def e) && (leb (size_in_def d) top_length && same_list
        (bytes_at d (digests_in_def s d + digests_size_def s) digest_size) x))
    unfolding names candidate_at
    names_some h =
        rw (held_share h)
        (unfold held_at share_of_size in (ap (λ (z : List ℕ). same_stamp (stamp_at_def d) (stamp_at_def e) &&
        (leb (size_in_def d) top_length && same_list z x)) (unfold share_of_size in nonce-digest_in (size_in_def d))))

    -- by the tests that fail, or by the last one
    pub names-long : eqb (get_or d stamp_size 0) 0 ≡ false → top_length < size_in_def d → names (candidate_at s e) x (held_at s d) ≡ false
    names-long h l = names_some h ∙ rw (lt-leb (size_in_def d) top_length l) (and-false (same_stamp (stamp_at_def d) (stamp_at_def e)))

    pub names-other : eqb (get_or d stamp_size 0) 0 ≡ false → same_stamp (stamp_at_def d) (stamp_at_def e) ≡ false → names (candidate_at s e) x (held_at s d) ≡ false
    names-other h q = names_some h ∙ rw q

    pub names_last : Full d → same_stamp (stamp_at_def d) (stamp_at_def e) ≡ true
        → names (candidate_at s e) x (held_at s d) ≡ same_list (bytes_at d (digests_in_def s d + digests_size_def s) digest_size) x
    names_last f q = names_some f.flag ∙ rw (q, le-leb (size_in_def d) top_length f.top)

  -- what naming tells of the slot
  pub names_full : (c : Candidate) (x : List ℕ) → names c x (held_at s d) ≡ true → Full d
  unfolding names held_at share_of_size
  names_full c x h = go (eqb (get_or d stamp_size 0) 0) refl
    where
      go : (y : Bool) → eqb (get_or d stamp_size 0) 0 ≡ y → Full d
      go true e = absurd (subst T (sym h ∙ names_none c x e) tt)
      go false e =
          let k = and_both (same_stamp (stamp_at_def d) c.stamp) (names_share x (held_at s d).share) h in
          let w = named_range x (share_of_size s (size_in_def d) (drop (stamp_size + 1) d))
          (subst (λ (z : Option Share). names_share x z ≡ true) (held_share e) k.1) in
          record { flag = e; top = w }

  -- ---- a fragment's own digest
  pub intact_in : Full d → (j : ℕ) → j < s.servers
      → intact (suc j) (held_at s d).share
      ≡ same_list (sha256 (bytes_at d (stamp_size + 3) (fragment_size_def s.threshold (size_in_def d)))) (bytes_at d (digests_in_def s d + digest_size * j) digest_size)
  intact_in f j h =
      rw (held_share f.flag, fragment_in_lem (size_in_def d), digests_in_lem (size_in_def d), nth-part d (digests_in_def s d) (digests_size_def s) digest_size j (omega arith))

-- ---- a slot in the kept bytes

-- as the code lends it
abbrev pub lent_slot : List ℕ → ℕ → List ℕ
lent_slot kept j = take (replies_place + reply_slot * j + reply_slot - (replies_place + reply_slot * j)) (drop (replies_place + reply_slot * j) kept)

pub slot_lent : (kept : List ℕ) (j : ℕ) → lent_slot kept j ≡ reply_slot_of kept j
unfolding reply_slot_of
slot_lent kept j = part_of kept (replies_place + reply_slot * j) reply_slot

pub lent_length : (kept : List ℕ) (j : ℕ) → length kept ≡ kept_size → j < most_servers → length (lent_slot kept j) ≡ reply_slot
lent_length kept j l h = ap length (part_of kept (replies_place + reply_slot * j) reply_slot) ∙ part_length kept (replies_place + reply_slot * j) reply_slot
    (omega arith)

-- a part of a slot, and the share in a slot
pub slot-part : (kept : List ℕ) (j p n : ℕ) → p + n ≤ reply_slot → bytes_at (reply_slot_of kept j) p n ≡ bytes_at kept (replies_place + reply_slot * j + p) n
unfolding reply_slot_of
slot-part kept j p n h = part-part kept (replies_place + reply_slot * j) reply_slot p n h

pub share_in : (t : ℕ) (kept : List ℕ) (j : ℕ)
    → share_of t kept (suc j) ≡ share_of_size (shelf t) (size_in_def (reply_slot_of kept j)) (drop (stamp_size + 1) (reply_slot_of kept j))
unfolding share_of share_at
share_in t kept j =
    let z : suc j - 1 ≡ j = omega arith in
    rw (z, get_or-drop (stamp_size + 1) (reply_slot_of kept j) 0 0, get_or-drop (stamp_size + 1) (reply_slot_of kept j) 1 0)

pub share-size : (t : ℕ) (kept : List ℕ) (j : ℕ) → (share_of t kept (suc j)).size ≡ size_in_def (reply_slot_of kept j)
unfolding share_of_size
share-size t kept j = ap (λ (h : Share). h.size) (share_in t kept j)

-- the tags of a reply in the kept bytes
pub reply-tags : (t : ℕ) (kept : List ℕ) (j n at : ℕ) → n ≡ (share_of t kept (suc j)).size
    → at ≡ replies_place + reply_slot * j + (stamp_size + 3 + fragment_size_def (shelf t).threshold n + digests_size_def (shelf t) + digest_size)
    → stamp_size + 3 + fragment_size_def (shelf t).threshold n + digests_size_def (shelf t) + digest_size + tags_size_def (shelf t) ≤ reply_slot
    → (share_of t kept (suc j)).tags ≡ bytes_at kept at (tags_size_def (shelf t))
reply-tags t kept j n at e q l =
    let w : share_of t kept (suc j) ≡ share_of_size (shelf t) n (drop (stamp_size + 1) (reply_slot_of kept j)) =
    share_in t kept j ∙ ap (λ (x : ℕ). share_of_size (shelf t) x (drop (stamp_size + 1) (reply_slot_of kept j))) (sym (e ∙ share-size t kept j)) in
    let p : bytes_at (reply_slot_of kept j) (stamp_size + 3 + fragment_size_def (shelf t).threshold n + digests_size_def (shelf t) + digest_size)
    (tags_size_def (shelf t)) ≡
    bytes_at kept (replies_place + reply_slot * j + (stamp_size + 3 + fragment_size_def (shelf t).threshold n + digests_size_def (shelf t) + digest_size))
    (tags_size_def (shelf t)) =
    slot-part kept j (stamp_size + 3 + fragment_size_def (shelf t).threshold n + digests_size_def (shelf t) + digest_size) (tags_size_def (shelf t)) l in
    ap (λ (h : Share). h.tags) w ∙ tags_in_lem (shelf t) (reply_slot_of kept j) n
    ∙ p ∙ ap (λ (x : ℕ). bytes_at kept x (tags_size_def (shelf t))) (sym q)

-- ---- two replies

module _ (s : Config) (a b : List ℕ) (f : Full a) (g : Full b) where
  pub alike-not : (size_in_def b ≡ size_in_def a → ⊥) → same_share real s (held_at s a).share (held_at s b).share ≡ false
  unfolding share_of_size
  alike-not h = rw (held_share s a f.flag, held_share s b g.flag, ne_eqb (size_in_def a) (size_in_def b) (λ e. h (sym e)))

  module _ (D : ℕ) where
    -- the three runs, one after the other
    three-runs : (l : D + digests_size_def s + digest_size + tags_size_def s ≤ length a) (k : D + digests_size_def s + digest_size + tags_size_def s ≤ length b)
        → same_list (bytes_at a D (digests_size_def s + digest_size + tags_size_def s)) (bytes_at b D (digests_size_def s + digest_size + tags_size_def s))
        ≡ (same_list (bytes_at a D (digests_size_def s)) (bytes_at b D (digests_size_def s))
        && (same_list (bytes_at a (D + digests_size_def s) digest_size) (bytes_at b (D + digests_size_def s) digest_size)
        && same_list (bytes_at a (D + digests_size_def s + digest_size) (tags_size_def s)) (bytes_at b (D + digests_size_def s + digest_size) (tags_size_def s))))
    three-runs l k =
        let e : D + (digests_size_def s + digest_size) ≡ D + digests_size_def s + digest_size = omega arith in
        same_parts a b D D (digests_size_def s + digest_size) (tags_size_def s) (omega arith) (omega arith)
        ∙ rw (same_parts a b D D (digests_size_def s) digest_size (omega arith) (omega arith), e)
        (and_assoc (same_list (bytes_at a D (digests_size_def s)) (bytes_at b D (digests_size_def s)))
        (same_list (bytes_at a (D + digests_size_def s) digest_size) (bytes_at b (D + digests_size_def s) digest_size))
        (same_list (bytes_at a (D + digests_size_def s + digest_size) (tags_size_def s)) (bytes_at b (D + digests_size_def s + digest_size) (tags_size_def s))))

  pub alike_in : size_in_def b ≡ size_in_def a → digests_in_def s a + digests_size_def s + digest_size + tags_size_def s ≤ length a → digests_in_def s a + digests_size_def s +
      digest_size + tags_size_def s ≤ length b
      → same_share real s (held_at s a).share (held_at s b).share
      ≡ same_list (bytes_at a (digests_in_def s a) (digests_size_def s + digest_size + tags_size_def s))
      (bytes_at b (digests_in_def s a) (digests_size_def s + digest_size + tags_size_def s))
  alike_in e l k =
      let n : ℕ = size_in_def a in
      let p : (held_at s b).share ≡ some (share_of_size s n (drop (stamp_size + 1) b)) = held_share s b g.flag ∙ ap
      (λ (z : ℕ). some (share_of_size s z (drop (stamp_size + 1) b))) e in
      rw (
        held_share s a f.flag,
        p,
        digests_in_lem s a n,
        digests_in_lem s b n,
        nonce-digest_in s a n,
        nonce-digest_in s b n,
        tags_in_lem s a n,
        tags_in_lem s b n,
        sizes n,
        three-runs (digests_in_def s a) l k,
      )
    where
      sizes : (n : ℕ) → eqb (share_of_size s n (drop (stamp_size + 1) a)).size (share_of_size s n (drop (stamp_size + 1) b)).size ≡ true
      sizes n = unfold share_of_size in eq-eqb n n refl
