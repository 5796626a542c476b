-- Restoring from rising servers is never refused and uses all their fragments: the fragments stand one after the other, each as its slot has it.
-- Nothing is assumed.
use mathlib.Core.Path.{◌≡◌, refl, sym, ap, ◌∙◌, subst}
use mathlib.Core.Bool.{Bool, true, false}
use mathlib.Core.List.{List, ◌++◌, map}
use Prim.Native.Nat.{ℕ, ◌+◌, ◌-◌, ◌*◌, ◌≤◌, ◌<◌}
use native.Mathlib.Omega.{arith}
use lib.Dec.{eqb}
use lib.ListN.{length, take, drop, get_or}
use lib.Seq.{take_all, get_or-take, get_or-drop, length-take-le}
use borrow.Author.Tests.{eqb-true, eqb-false, le-ltb, le-leb, eq-eqb}
use Rattle.cluster.specs.Config.{shelf}
use Rattle.cluster.specs.Ranges.{top_length, top_faults, most_servers, content_room}
use Rattle.cluster.specs.declared.Outcome.{Outcome}
use Rattle.erasure.specs.Fragments.{fragment_size_def, Part, restored}
use Rattle.format.specs.Format.{value2}
use Rattle.protocol.specs.Values.{stamp_size}
use Rattle.protocol.specs.Rules.{fits}
use Rattle.format.specs.Reading.{over, bytes_at, put}
use Rattle.protocol.specs.View.{share_of_size, share_at, replies_place, reply_slot, reply_slot_of}
use Rattle.protocol.specs.Packet.{share_size_def}
use Rattle.protocol.proofs.Room.{shelf-fits}
use native.Mathlib.Nat.{le_trans, mul-le-mul_right, suc-mul}
use Rattle.erasure.specs.Choice.{first_different, parts_at}
use Rattle.erasure.specs.Steps.{each, argument_checks, restore_refusal_def, restored_bytes, restore_step}
use Rattle.erasure.proofs.Laws.{restored-length, runs-most}
use Rattle.format.proofs.Places.{part-below, part_inside}
use Rattle.format.proofs.Puts.{put-length}
use Rattle.decide.specs.Steps.{Usable, fragment_of, content_of, Rising, FragmentsAs}
use Rattle.decide.proofs.Rises.{places, all-chosen, chosen-length, parts_all, each_within}
use Rattle.decide.proofs.Places.{part-part, part_length, part_of}
use Rattle.decide.proofs.Replies.{size_in_def}

-- ---- room

-- bytes of the array that the fragments are put into: k fragments are at most k - 1 more than a content's
abbrev pub fragments_room : ℕ
fragments_room = top_length + top_faults

pub fragments-room : (t n : ℕ) → t ≤ top_faults → n ≤ top_length → (shelf t).threshold * fragment_size_def (shelf t).threshold n ≤ fragments_room
unfolding shelf
fragments-room t n h k = le_trans (runs-most (t + 1) n (omega arith)) (omega arith)

pub place-room : (p k f : ℕ) → p < k → p * f + f ≤ k * f
place-room p k f h = omega (arith, suc-mul p f, mul-le-mul_right f h)

-- one fragment more is put behind the others
pub fragment_put : (out : List ℕ) (f p : ℕ) (g : ℕ → List ℕ) (x : List ℕ) → p * f + length x ≤ length out → length x ≡ f → x ≡ g p
    → ((q : ℕ) → q < p → bytes_at out (q * f) f ≡ g q) → (q : ℕ) → q < p + 1 → bytes_at (put out (p * f) x) (q * f) f ≡ g q
fragment_put out f p g x fits s e h q m = go (eqb q p) refl
  where
    go : (b : Bool) → eqb q p ≡ b → bytes_at (put out (p * f) x) (q * f) f ≡ g q
    go true w =
        let z : q ≡ p = eqb-true q p w in
        let o : p * f + 0 ≡ p * f = omega arith in
        let i : bytes_at (put out (p * f) x) (p * f + 0) f ≡ bytes_at x 0 f = part_inside out (p * f) x fits 0 f (omega arith) in
        subst (λ (y : ℕ). bytes_at (put out (p * f) x) (y * f) f ≡ g y) (sym z)
        (ap (λ (y : ℕ). bytes_at (put out (p * f) x) y f) (sym o) ∙ i ∙ whole x f s ∙ e)
      where
        whole : (y : List ℕ) (n : ℕ) → length y ≡ n → bytes_at y 0 n ≡ y
        whole y n w = unfold bytes_at in take_all n y (omega arith)
    go false w =
        let z = eqb-false q p w in
        let n : q < p = omega arith in
        part-below out (p * f) x fits (q * f) f (place-room q p f n) ∙ h q n

-- ---- the operation

pub cut-part : (d : List ℕ) (p n m : ℕ) → p + n ≤ m → take n (drop p (take m d)) ≡ bytes_at d p n
unfolding bytes_at
cut-part d p n m h = let e : 0 + p ≡ p = omega arith in part-part d 0 m p n h ∙ ap (λ (x : ℕ). take n (drop x d)) e

threshold-few : (t : ℕ) → t ≤ top_faults → (shelf t).threshold ≤ most_servers
unfolding shelf
threshold-few t h = omega arith

pub restores : (t n : ℕ) (ss frs out : List ℕ) (g : ℕ → Part) → 1 ≤ t → t ≤ top_faults → n ≤ top_length → length ss
    ≡ (shelf t).threshold
    → ((i : ℕ) → i < length ss → (1 ≤ get_or ss i 0) × (get_or ss i 0 ≤ (shelf t).servers)) →
    ((i j : ℕ) → i < j → j < length ss → get_or ss i 0 < get_or ss j 0)
    → length frs ≡ length ss * fragment_size_def (shelf t).threshold n → content_room ≤ length out
    → ((p : ℕ) → p < length ss → record {
      server = get_or ss p 0;
      bytes = take (fragment_size_def (shelf t).threshold n)
          (drop (p * fragment_size_def (shelf t).threshold n) frs);
    } ≡ g (get_or ss p 0))
    → restore_step t n ss frs out ≡ (record { number = 0; count = n }, restored (shelf t).points (shelf t).threshold n (map g ss) ++ drop n out)
unfolding restore_step restore_refusal_def argument_checks restored_bytes
restores t n ss frs out g lo hi most size within-range rise given room each_part =
    let d : first_different (shelf t).threshold ss ≡ places (length ss) = ap (λ (k : ℕ). first_different k ss) (sym size) ∙ all-chosen ss rise in
    let w : length (first_different (shelf t).threshold ss) ≡ (shelf t).threshold = ap (λ (k : ℕ). length (first_different k ss)) (sym size)
    ∙ chosen-length
    ss rise ∙ size in
    let p : parts_at (fragment_size_def (shelf t).threshold n) ss frs (first_different (shelf t).threshold ss) ≡ map g ss =
    ap (parts_at (fragment_size_def (shelf t).threshold n) ss frs) d ∙ parts_all (fragment_size_def (shelf t).threshold n) ss frs g each_part in
    rw (
      le-leb 1 t lo,
      le-leb t top_faults hi,
      each_within 1 (shelf t).servers ss within-range,
      le-ltb top_length n most,
      le-ltb (length out) content_room room,
      eq-eqb (length frs) (length ss * fragment_size_def (shelf t).threshold n) given,
      w,
      le-ltb (shelf t).threshold (shelf t).threshold (omega arith),
      p,
    )

-- ---- one loop's turn, and the whole, at the kept bytes

length_read : (d : List ℕ) → value2 (get_or (drop (stamp_size + 1) d) 0 0) (get_or (drop (stamp_size + 1) d) 1 0) ≡ size_in_def d
length_read d =
    let x = get_or-drop (stamp_size + 1) d 0 0 in
    let y = get_or-drop (stamp_size + 1) d 1 0 in
    λ i. value2 (x i) (y i)

-- the server x of the turn p is one, its fragment lies within the kept bytes, and there is room for it
pub record Turn (kept : List ℕ) (x f p : ℕ) : Type 0 where
  pub lowest : 1 ≤ x
  pub highest : x ≤ most_servers
  pub inside : replies_place + reply_slot * (x - 1) + (stamp_size + 3) + f ≤ length kept
  pub room : p * f + f ≤ fragments_room

module _ (t : ℕ) (kept servers : List ℕ) (n : ℕ) (u : Usable t kept) (most : n ≤ top_length) (r : Rising t servers) where
  -- what every number of the turn p rests on
  pub turn : (f p : ℕ) → f ≡ fragment_size_def (shelf t).threshold n → p < (shelf t).threshold → Turn kept (get_or servers p 0) f p
  unfolding share_size_def
  turn f p e l =
      let w = shelf-fits t u.low u.high in
      record {
        lowest = r.lowest p l;
        highest = omega (arith, w.few, r.highest p l);
        inside = omega (arith, u.size, w.few, w.room n most, r.lowest p l, r.highest p l);
        room = rw e (omega (
          arith,
          place-room p (shelf t).threshold (fragment_size_def (shelf t).threshold n) l,
          fragments-room t n u.high
              most,
        ));
      }

  -- a server's fragment is lent whole
  pub source-length : (f p at : ℕ) → f ≡ fragment_size_def (shelf t).threshold n → p < (shelf t).threshold → at ≡ replies_place + reply_slot *
      (get_or servers p 0 - 1) + (stamp_size + 3)
      → length (take (at + f - at) (drop at kept)) ≡ f
  source-length f p at e l q = ap length (part_of kept at f) ∙ part_length kept at f (omega (arith, (turn f p e l).inside))

  pub fragments_more : (out out' : List ℕ) (f p at : ℕ) → f ≡ fragment_size_def (shelf t).threshold n → p < (shelf t).threshold → at
      ≡ replies_place + reply_slot *
      (get_or servers p 0 - 1) + (stamp_size + 3)
      → length out ≡ fragments_room → ((q : ℕ) → q < p → bytes_at out (q * f) f ≡ (fragment_of kept f (get_or servers q 0)).bytes) → out' ≡ put out (p * f)
      (take (at + f - at) (drop at kept))
      → (length out' ≡ fragments_room) × ((q : ℕ) → q < p + 1 → bytes_at out' (q * f) f ≡ (fragment_of kept f (get_or servers q 0)).bytes)
  fragments_more out out' f p at e l q s h w =
      let x : List ℕ = take (at + f - at) (drop at kept) in
      let z : length x ≡ f = source-length f p at e l q in
      let fits : p * f + length x ≤ length out = omega (arith, (turn f p e l).room) in (
        ap length w ∙ put-length out (p * f) x fits ∙ s,
        λ y k.
            ap (λ (d : List ℕ). bytes_at d (y * f) f) w
            ∙ fragment_put out f p (λ j. (fragment_of kept f (get_or servers j 0)).bytes) x fits z (here f p at q) h y k,
      )
    where
      here : (f p at : ℕ) → at ≡ replies_place + reply_slot * (get_or servers p 0 - 1) + (stamp_size + 3) → take (at + f - at) (drop at kept) ≡ (fragment_of
          kept f (get_or servers p 0)).bytes
      here f p at q = part_of kept at f ∙ (unfold fragment_of in ap (λ (k : ℕ). bytes_at kept k f) q)

  pub rebuilt : (b : ℕ) (frs out out' : List ℕ) (o : Outcome) → n ≡ size_in_def (reply_slot_of kept b) → length servers ≡ most_servers
      → FragmentsAs t kept (fragment_size_def (shelf t).threshold n) servers frs → content_room ≤ length out
      → (o, out') ≡ restore_step t n (take (shelf t).threshold servers) (take ((shelf t).threshold * fragment_size_def (shelf t).threshold n) frs) out
      → (o.number ≡ 0) × (o.count ≡ length (content_of t kept b (take (shelf t).threshold servers))) ×
      (out' ≡ over (content_of t kept b (take (shelf t).threshold servers)) out)
  unfolding over content_of share_at share_of_size
  rebuilt b frs out out' o size wide each room h =
      let c : (shelf t).threshold ≤ most_servers = threshold-few t u.high in
      let l : length (take (shelf t).threshold servers) ≡ (shelf t).threshold = length-take-le (shelf t).threshold servers (omega arith) in
      let v : length (take ((shelf t).threshold * fragment_size_def (shelf t).threshold n) frs)
      ≡ (shelf t).threshold * fragment_size_def (shelf t).threshold n =
      length-take-le ((shelf t).threshold * fragment_size_def (shelf t).threshold n) frs each.long in
      let at : (i : ℕ) → i < length (take (shelf t).threshold servers) → get_or (take (shelf t).threshold servers) i 0 ≡ get_or servers i 0 =
      λ i q. get_or-take (shelf t).threshold servers i 0 (omega arith) in
      let z =
      restores t n (take (shelf t).threshold servers) (take ((shelf t).threshold * fragment_size_def (shelf t).threshold n) frs) out
      (fragment_of kept (fragment_size_def (shelf t).threshold n))
      u.low u.high most l
      (λ i q. rw (at i q) (r.lowest i (omega arith), r.highest i (omega arith)))
      (λ i j q p. rw (at i (omega arith), at j p) (r.rising i j q (omega arith)))
      (v ∙ ap (λ (x : ℕ). x * fragment_size_def (shelf t).threshold n) (sym l)) room
      (λ p q. rw (at p q) (standing frs p (fragment_size_def (shelf t).threshold n) (shelf t).threshold (omega arith) (each.each p (omega arith)))) in
      let y = h ∙ z in
      let e : n ≡ value2 (get_or (drop (stamp_size + 1) (reply_slot_of kept b)) 0 0) (get_or (drop (stamp_size + 1) (reply_slot_of kept b)) 1 0) =
      size ∙ sym (length_read (reply_slot_of kept b)) in
      rw (← e) (
        ap (λ (x : Outcome × List ℕ). x.0.number) y,
        ap (λ (x : Outcome × List ℕ). x.0.count) y ∙ sym (restored-length (shelf t).points (shelf t).threshold n
            (map (fragment_of kept (fragment_size_def (shelf t).threshold n)) (take (shelf t).threshold servers))),
        ap (λ (x : Outcome × List ℕ). x.1) y
            ∙ ap (λ (x : ℕ). restored (shelf t).points (shelf t).threshold n (map (fragment_of kept (fragment_size_def (shelf t).threshold n))
            (take (shelf t).threshold servers)) ++ drop x out)
            (sym (restored-length (shelf t).points (shelf t).threshold n (map (fragment_of kept (fragment_size_def (shelf t).threshold n))
            (take (shelf t).threshold servers)))),
      )
    where
      standing : (frs : List ℕ) (p f k : ℕ) → p < k → bytes_at frs (p * f) f ≡ (fragment_of kept f (get_or servers p 0)).bytes
          → record { server = get_or servers p 0; bytes = take f (drop (p * f) (take (k * f) frs)) } ≡ fragment_of kept f (get_or servers p 0)
      standing frs p f k q e =
          let x : take f (drop (p * f) (take (k * f) frs)) ≡ (fragment_of kept f (get_or servers p 0)).bytes = cut-part frs (p * f) f (k * f)
          (place-room p k f q) ∙ e in
          (λ i. record { server = get_or servers p 0; bytes = x i }) ∙ (unfold fragment_of in refl)
