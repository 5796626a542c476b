-- A filter round with a quorum of correct replies is decided. Take the highest stamp among them. If it is blank, all candidates leave the
-- list. Else it is that of a genuine candidate: all above it leave, it stays, and k correct servers that held it replied with its write's
-- shares, so it is proven.
-- Assumes nothing.
use mathlib.Core.Path.{◌≡◌, refl, sym, ap, ◌∙◌, subst}
use mathlib.Core.Bool.{Bool, true, false, not, ◌&&◌}
use mathlib.Core.List.{List}
use mathlib.Core.Option.{Option, some}
use mathlib.Core.Logic.{◌⊎◌, inl, inr}
use Prim.Native.Nat.{ℕ, ◌≤◌}
use native.Mathlib.Omega.{arith}
use lib.Dec.{leb, ltb, eqb}
use lib.ListN.{length}
use borrow.Author.Tests.{le-ltb, leb-true, leb-false, le-leb, eqb-false, eq-eqb, ne_eqb}
use Rattle.protocol.specs.declared.Stamp.{Stamp}
use Rattle.protocol.specs.Values.{Candidate, Share, Held, below, blank_stamp, blank_candidate, is_blank_def, same_stamp}
use Rattle.protocol.specs.Memory.{lookup}
use Rattle.protocol.specs.Rules.{ByServer, any, count_to, lower, live, share_fits, fits, same_share, agrees, leads, leader, proven, highest, choice}
use Rattle.protocol.specs.Server.{act}
use Rattle.protocol.proofs.Equal.{same_refl, stamp-refl}
use Rattle.atomicity.specs.Lists.{In}
use Rattle.atomicity.specs.Steps.{Stamped}
use Rattle.atomicity.proofs.Util.{bool_case, clash, not_f, and_left, and_right, and_intro, in-keep, keep_in, any_in}
use Rattle.atomicity.proofs.Stamps.{below_num, num-le, le-view, same_is}
use Rattle.atomicity.proofs.Counting.{count_mono, found}
use Rattle.atomicity.proofs.Model.{marks, share_for, fragment_for}
use Rattle.atomicity.proofs.Setup.{Setup, Steps, Fair, hist, right, right_range}
use Rattle.atomicity.proofs.Marks.{mark_num, marks-up}
use Rattle.atomicity.proofs.Rising.{by_parts, by-stamp}
use Rattle.atomicity.proofs.Begun.{mark-length}
use Rattle.atomicity.proofs.Covers.{Covers, covers-held, covers_up, not_lower}
use Rattle.atomicity.proofs.Genuine.{Genuine, genuine-up}
use Rattle.atomicity.proofs.Quorums.{S, Q, Many, many_at, meets-k}
use Rattle.atomicity.proofs.Telling.{piece_of}
use Rattle.atomicity.proofs.Groups.{leader_some}
use Rattle.atomicity.proofs.Choosing.{q_pos, Live, live_by}
use Rattle.atomicity.proofs.Suffixes.{Suf, suf-up}
use Rattle.atomicity.proofs.Waiting.{best, Waits}
use Rattle.atomicity.proofs.Moments.{told, Moment, before_now, earliest, best-real, then_genuine}
use Rattle.atomicity.proofs.Highest.{Most, both-le, first_some, keep_none, le-lt, most}
use Rattle.cluster.proofs.Tests.{untrue}

module _ (K : Setup) (xs : Steps K) (fair : Fair K xs) (cs : List Candidate) (g : ByServer Held) (m : ByServer Bool) (W : Waits K xs cs g m)
    (enough : Q K ≤ count_to (S K) (λ j. right K xs j && m j)) where
  abbrev tells : ℕ → Bool
  tells = told K xs fair cs g m W

  some-told : 1 ≤ count_to (S K) tells
  some-told = omega (arith, enough, q_pos K)

  all-marked : Q K ≤ count_to (S K) m
  all-marked = omega (arith, enough, count_mono tells m (S K) (λ j lo hi e. and_right (right K xs j) (m j) e))

  -- all correct replies are below d: it leaves the list
  excluded : (d : Candidate) → ((j : ℕ) → 1 ≤ j → j ≤ S K → tells j ≡ true → below (g j).stamp d.stamp ≡ true) →
      ltb (count_to (S K) (lower K.s.P K.s.config m g d)) (Q K) ≡ false
  unfolding lower
  excluded d f = le-ltb (count_to (S K) (lower K.s.P K.s.config m g d)) (Q K)
      (omega (
        arith,
        enough,
        count_mono tells (lower K.s.P K.s.config m g d) (S K)
            (λ j lo hi e. and_intro _ _ (and_right (right K xs j) (m j) e) (f j lo hi e)),
      ))

  top : Most tells (λ j. (g j).stamp) (S K)
  top = most tells (λ j. (g j).stamp) (S K) some-told

  first_moment : (z : ℕ) × (M : Moment K xs fair cs g m W z)
      × ((u : ℕ) → 1 ≤ u → u ≤ S K → tells u ≡ true → (N : Moment K xs fair cs g m W u) × Suf M.ys N.ys)
  first_moment = earliest K xs fair cs g m W (S K) some-told

  -- all correct replies are blank
  all-blank : (g top.0).stamp ≡ blank_stamp → ⊥
  unfolding live is_blank_def
  all-blank e = (W.undecided all-marked).1
      (keep_none (λ c. ltb (count_to (S K) (lower K.s.P K.s.config m g c)) (Q K)) cs (λ d i. excluded d (λ j lo hi t.
      below_num (g j).stamp d.stamp
      (omega (arith, num-le (g j).stamp (g top.0).stamp (top.4 j lo hi t), ap (λ (a : Stamp). a.number) e, pos_num d (W.listed d i))))))
    where
      pos_num : (d : Candidate) → eqb d.stamp.number 0 ≡ false → 1 ≤ d.stamp.number
      pos_num d k = bool_case (leb 1 d.stamp.number) (λ t. leb-true 1 d.stamp.number t)
          (λ t. absurd (eqb-false d.stamp.number 0 k (omega (arith, leb-false 1 d.stamp.number t))))

  -- the highest correct reply is a genuine candidate's
  module _ (d : Candidate) (ind : In d cs) (gen : Genuine K xs d) (is-top : (g top.0).stamp ≡ d.stamp) where
    abbrev holds : ℕ → Bool
    holds j = Covers K first_moment.1.ys j d.stamp

    -- who was correct then is correct now
    full0 : Many K xs holds
    full0 = many_at K first_moment.1.ys xs holds first_moment.1.sat.phase
        (then_genuine K xs fair cs g m W first_moment.0 first_moment.1 d ind gen).1

    record Reply (j : ℕ) : Type 0 where
      low : 1 ≤ j
      high : j ≤ S K
      tell : tells j ≡ true
      hold : holds j ≡ true

    at_of : (j : ℕ) → Reply j → Moment K xs fair cs g m W j
    at_of j r = (first_moment.2 j r.low r.high r.tell).0

    covered_then : (j : ℕ) (r : Reply j) → Covers K (at_of j r).ys j d.stamp ≡ true
    unfolding at_of
    covered_then j r = suf-up (λ (zs : Steps K). Covers K zs j d.stamp ≡ true) (λ x zs k. covers_up K x zs j d.stamp k)
        first_moment.1.ys (at_of j r).ys (first_moment.2 j r.low r.high r.tell).1 r.hold

    -- a holder's reply is not below d
    high_then : (j : ℕ) → Reply j → below (g j).stamp d.stamp ≡ false
    unfolding act
    high_then j r = let N = at_of j r in let T = N.sat in let G = (then_genuine K xs fair cs g m W j N d ind gen).0 in
        subst (λ (a : Stamp). below a d.stamp ≡ false) (sym T.stamp_is)
        (not_lower K N.ys T.old j d G.origin.write G.origin.made G.origin.stamp_is G.nonce_is (covered_then j r) cs ind)

    is_live : In d (Live K m g cs)
    is_live = live_by K xs g m cs d holds ind full0 (λ j h p k. let rg = right_range K xs j h in
        high_then j (record { low = rg.0; high = rg.1; tell = and_intro _ _ h k; hold = p }))

    is-highest : In d (highest K.s.P K.s.config (Live K m g cs))
    unfolding highest live
    is-highest = in-keep (λ c. not (any (λ e. below c.stamp e.stamp) (Live K m g cs))) (Live K m g cs) d is_live
        (not_f _ (untrue _ (λ t. bad (any_in (λ e. below d.stamp e.stamp) (Live K m g cs) t))))
      where
        bad : (e : Candidate) × In e (Live K m g cs) × (below d.stamp e.stamp ≡ true) → ⊥
        bad e = clash (keep_in (λ c. ltb (count_to (S K) (lower K.s.P K.s.config m g c)) (Q K)) cs e.0 e.1).1
            (excluded e.0 (λ j lo hi t.
            le-lt (g j).stamp (g top.0).stamp e.0.stamp (top.4 j lo hi t)
            (subst (λ (a : Stamp). below a e.0.stamp ≡ true) (sym is-top) e.2)))

    -- ---- a holder among the repliers gave the write's share

    abbrev share : ℕ → Share
    share j = share_for K.s gen.origin.write j

    same-stamp : (j : ℕ) (N : Moment K xs fair cs g m W j) → (g j).stamp ≡ (best K cs j N.ys).stamp → below (g j).stamp d.stamp ≡ false →
        below d.stamp (g j).stamp ≡ false → Genuine K N.ys d →
        (best K cs j N.ys ≡ blank_candidate K.s.config) ⊎ (In (best K cs j N.ys) cs × Genuine K N.ys (best K cs j N.ys)) →
        (g j).stamp ≡ d.stamp
    same-stamp j N q hi lo G (inl z) =
        absurd (omega (
          arith,
          num-le d.stamp (g j).stamp hi,
          ap (λ (a : Stamp). a.number) q,
          ap (λ (c : Candidate). c.stamp.number) z,
          mark_num K.s N.ys G.origin.write G.origin.made,
          ap (λ (a : Stamp). a.number) G.origin.stamp_is,
        ))
    same-stamp j N q hi lo G (inr z) =
        let B = z.1.origin in let O = G.origin in
        let r = both-le d.stamp (g j).stamp (le-view d.stamp (g j).stamp hi) (le-view (g j).stamp d.stamp lo) in
        let k : B.write.stamp ≡ (g j).stamp = B.stamp_is ∙ sym q in
        let eq : B.write ≡ O.write = by_parts K.s N.ys B.write O.write B.made O.made
        (ap (λ (a : Stamp). a.number) k ∙ sym r.0 ∙ sym (ap (λ (a : Stamp). a.number) O.stamp_is))
        (ap (λ (a : Stamp). a.writer) k ∙ sym r.1 ∙ sym (ap (λ (a : Stamp). a.writer) O.stamp_is)) in
        sym k ∙ ap (λ (w : Stamped). w.stamp) eq ∙ O.stamp_is

    votes : (j : ℕ) → Reply j → ((g j).stamp ≡ d.stamp) × ((g j).share ≡ some (share j))
    votes j r =
        let N = at_of j r in let T = N.sat in
        let G = (then_genuine K xs fair cs g m W j N d ind gen).0 in
        let low : below d.stamp (g j).stamp ≡ false =
        subst (λ (a : Stamp). below a (g j).stamp ≡ false) is-top (top.4 j r.low r.high r.tell) in
        let sq : (g j).stamp ≡ d.stamp = same-stamp j N T.stamp_is (high_then j r) low G (best-real K xs fair cs g m W j N) in
        let hs = covers-held K N.ys j d.stamp (covered_then j r) in
        let fq : (g j).share ≡ some hs.0 = T.share_is ∙ ap (λ (a : Stamp). lookup a (hist K N.ys j)) (sym T.stamp_is ∙ sq) ∙ hs.1 in
        let P = piece_of K N.ys T.old j d G hs.0 hs.1 in let O = P.origin in
        let pw : O.write ≡ gen.origin.write = by-stamp K.s xs O.write gen.origin.write
        (suf-up (λ (zs : Steps K). In O.write (marks K.s zs)) (marks-up K.s O.write) N.ys xs (before_now K xs fair cs g m W j N)
        O.made)
        gen.origin.made (O.stamp_is ∙ sym gen.origin.stamp_is) in
        (sq, fq ∙ ap some (P.share_is ∙ ap (λ (w : Stamped). share_for K.s w j) pw))

    fits_one : (j : ℕ) → Reply j → fits K.s.P K.s.config m g d j ≡ true
    unfolding fits
    fits_one j r = let v = votes j r in
        and_intro _ _ (and_right (right K xs j) (m j) r.tell)
        (and_intro _ _ (subst (λ (a : Stamp). same_stamp a d.stamp ≡ true) (sym v.0) (stamp-refl d.stamp))
        (subst (λ (o : Option Share). share_fits K.s.P K.s.config d j o ≡ true) (sym v.1)
        (and_intro _ _ (le-leb _ _ (mark-length K.s xs gen.origin.write gen.origin.made))
        (and_intro _ _ (same_is _ _ (ap K.s.P.digest gen.nonce_is))
        (same_is _ _ (sym (K.laws.digest_at (fragment_for K.s gen.origin.write.content) j r.low r.high)))))))

    agrees_one : (i j : ℕ) → Reply i → Reply j → agrees K.s.P K.s.config m g d i j ≡ true
    unfolding agrees
    agrees_one i j r t = and_intro _ _ (fits_one j t)
        (subst (λ (o : Option Share). same_share K.s.P K.s.config o (g j).share ≡ true) (sym (votes i r).1)
        (subst (λ (o : Option Share). same_share K.s.P K.s.config (some (share i)) o ≡ true) (sym (votes j t).1)
        (and_intro _ _ (eq-eqb (length gen.origin.write.content) (length gen.origin.write.content) refl)
        (and_intro _ _ (same_refl (share i).digests) (and_intro _ _ (same_refl (share i).nonce_digest_def) (same_refl (share i).tags))))))

    -- the correct servers that held it and replied
    abbrev voter : ℕ → Bool
    voter j = right K xs j && (holds j && m j)

    many_voters : K.s.config.threshold ≤ count_to (S K) voter
    many_voters = meets-k K xs holds m full0 enough

    reply_of_lem : (j : ℕ) → 1 ≤ j → j ≤ S K → voter j ≡ true → Reply j
    reply_of_lem j lo hi e = let a = and_left (right K xs j) _ e in let b = and_right (right K xs j) _ e in
        record { low = lo; high = hi; tell = and_intro _ _ a (and_right (holds j) (m j) b); hold = and_left (holds j) (m j) b }

    is-proven : proven K.s.P K.s.config m g d ≡ true
    unfolding leads
    is-proven =
        let w = found voter (S K) (omega (arith, many_voters, K.legal.restores)) in
        let r = reply_of_lem w.0 w.1 w.2 w.3 in
        let big : K.s.config.threshold ≤ count_to (S K) (agrees K.s.P K.s.config m g d w.0) =
        omega (
          arith,
          many_voters,
          count_mono voter (agrees K.s.P K.s.config m g d w.0) (S K)
              (λ j lo hi e. agrees_one w.0 j r (reply_of_lem j lo hi e)),
        ) in
        not_f _ (ne_eqb (leader K.s.P K.s.config m g d (S K)) 0
        (leader_some K.s m g d (S K) w.0 w.1 w.2 (and_intro _ _ (fits_one w.0 r) (le-leb _ _ big))))

    decided : ⊥
    unfolding choice
    decided = first_some (proven K.s.P K.s.config m g) (highest K.s.P K.s.config (Live K m g cs)) d is-highest is-proven
        (W.undecided all-marked).0

  pub decides : ⊥
  decides = let M = (first_moment.2 top.0 top.1 top.2 top.3).0 in go M M.sat.stamp_is (best-real K xs fair cs g m W top.0 M)
    where
      go : (M : Moment K xs fair cs g m W top.0) → (g top.0).stamp ≡ (best K cs top.0 M.ys).stamp →
          (best K cs top.0 M.ys ≡ blank_candidate K.s.config)
          ⊎ (In (best K cs top.0 M.ys) cs × Genuine K M.ys (best K cs top.0 M.ys)) → ⊥
      go M q (inl e) = all-blank (q ∙ ap (λ (c : Candidate). c.stamp) e)
      go M q (inr r) = decided (best K cs top.0 M.ys) r.0
          (suf-up (λ (zs : Steps K). Genuine K zs (best K cs top.0 M.ys)) (genuine-up K (best K cs top.0 M.ys)) M.ys xs
          (before_now K xs fair cs g m W top.0 M) r.1) q
