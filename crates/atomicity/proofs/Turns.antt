-- A client's hand after each reply, and what a call gives when it ends: round by round, what is known of the hand and what the reply says give
-- what is known after it; a quorum of replies, less the liars, is so many correct servers.
-- Assumes nothing.
use mathlib.Core.Path.{◌≡◌, refl, sym, ap, ◌∙◌, subst}
use mathlib.Core.Bool.{Bool, true, false, not}
use mathlib.Core.List.{List, ◌∷◌}
use mathlib.Core.Logic.{◌⊎◌, inl, inr}
use Prim.Native.Nat.{ℕ, suc, ◌≤◌, ◌<◌}
use native.Mathlib.Omega.{arith}
use lib.Dec.{eqb}
use borrow.Author.Tests.{ne_eqb, eqb-true, not-true}
use Rattle.protocol.specs.declared.Stamp.{Stamp}
use Rattle.protocol.specs.Values.{Candidate, Share, Held, below, blank_candidate, is_blank_def}
use Rattle.protocol.specs.Packet.{Body}
use Rattle.protocol.specs.Rules.{ByServer, upd, count_to, gather, choice}
use Rattle.protocol.specs.Client.{Client, Hand, idle, clocking, storing, completing, collecting, filtering, repairing}
use Rattle.protocol.specs.Client.{update, onto, prepared, candidate_made, stamp_of, higher, stamp_in, code_in, candidate_in, held_in_def}
use Rattle.format.proofs.Answers.{at-cond}
use Rattle.atomicity.specs.Lists.{In}
use Rattle.atomicity.specs.Steps.{proving}
use Rattle.atomicity.proofs.Util.{bool_case, not_f, upd_here, upd_else}
use Rattle.atomicity.proofs.Stamps.{num-le}
use Rattle.atomicity.proofs.Model.{updated}
use Rattle.atomicity.proofs.Setup.{Setup, Steps, StepOf, Fair, right, right_range, Same, same_right, right_step, lat}
use Rattle.atomicity.proofs.Rounds.{higher-le}
use Rattle.atomicity.proofs.Positions.{stage}
use Rattle.atomicity.proofs.Marks.{mark_num}
use Rattle.atomicity.proofs.Genuine.{Genuine}
use Rattle.atomicity.proofs.Covers.{Covers, covers_up}
use Rattle.atomicity.proofs.Heard.{lat-up}
use Rattle.atomicity.proofs.States.{Coll, coll-up, Sift, sift-up, proved-up, Filters, HandOk, Says}
use Rattle.atomicity.proofs.Quorums.{S, Q, FullAt, WBeats, many-marks, meets-marks, full-up}
use Rattle.atomicity.proofs.Gathered.{in-gather}
use Rattle.atomicity.proofs.Choosing.{Digests}
use Rattle.atomicity.proofs.Results.{ResultOk, Outcome, same_outcome, none_short, unmarked, judged}

module _ (K : Setup) where
  -- b replied v: what holds of v, and held of the replies g before, holds of all
  on_replies : {A : Type 0} (x : StepOf K) (xs : Steps K) (P : ℕ → A → Type 0) (m : ByServer Bool) (g : ByServer A) (b : ℕ) (v : A) →
      (right K (x ∷ xs) b ≡ true → P b v) → ((j : ℕ) → right K xs j ≡ true → m j ≡ true → P j (g j)) →
      (j : ℕ) → right K (x ∷ xs) j ≡ true → upd m b true j ≡ true → P j (upd g b v j)
  on_replies x xs P m g b v f k j r e = bool_case (eqb j b)
      (λ q. let z = eqb-true j b q in
      subst (λ (i : ℕ). right K (x ∷ xs) i ≡ true → P i (upd g b v i)) (sym z) (λ h. subst (P b) (sym (upd_here g b v)) (f h)) r)
      (λ q. subst (P j) (sym (upd_else g b v j q)) (k j (right_step K x xs j ∙ r) (sym (upd_else m b true j q) ∙ e)))

  on-marks : (x : StepOf K) (xs : Steps K) (P : ℕ → Type 0) (m : ByServer Bool) (b : ℕ) → (right K (x ∷ xs) b ≡ true → P b) →
      ((j : ℕ) → right K xs j ≡ true → m j ≡ true → P j) → (j : ℕ) → right K (x ∷ xs) j ≡ true → upd m b true j ≡ true → P j
  on-marks x xs P m b = on_replies x xs (λ j u. P j) m m b true

  -- ---- a reply y of server b to the hand h

  module _ (x : StepOf K) (xs z0 z1 : Steps K) (p0 : Same K z0 (x ∷ xs)) (p1 : Same K z1 (x ∷ xs)) (fair : Fair K (x ∷ xs))
      (held_by : (d : Candidate) → Genuine K (x ∷ xs) d → FullAt K (x ∷ xs) d.stamp) (c : ℕ) (cl : Client) (b : ℕ) (y : Body)
      (dig : (cs : List Candidate) (g : ByServer Held) → cl.hand ≡ filtering cs g → Q K ≤ count_to (S K) (upd cl.marks b true) →
      Digests K (x ∷ xs) (proving K.s (upd cl.marks b true) (upd g b (held_in_def y))
      (choice K.s.P K.s.config (upd cl.marks b true) (upd g b (held_in_def y)) cs))) where
    abbrev m : ByServer Bool
    m = cl.marks

    abbrev m' : ByServer Bool
    m' = upd cl.marks b true

    -- what y says if b is correct
    abbrev Said : Hand → Type 0
    Said h = right K (x ∷ xs) b ≡ true → Says K (x ∷ xs) z0 z1 b y h

    clock_on : (r n : List ℕ) (k : ℕ) → HandOk K xs z0 z1 m (clocking r n k) → Said (clocking r n k) →
        (j : ℕ) → right K (x ∷ xs) j ≡ true → m' j ≡ true → (lat K z0 j).number ≤ higher K.s.P K.s.writers k (stamp_in y)
    unfolding HandOk Says
    clock_on r n k ok say = on-marks x xs (λ j. (lat K z0 j).number ≤ higher K.s.P K.s.writers k (stamp_in y)) m b (λ h. say h k)
        (λ j h i. omega (arith, ok.low j h i, higher-le K.s k (stamp_in y)))

    clock_beats : (r n : List ℕ) (k : ℕ) → HandOk K xs z0 z1 m (clocking r n k) → Said (clocking r n k) → Q K ≤ count_to (S K) m' →
        (a : Stamp) → a.number ≡ suc (higher K.s.P K.s.writers k (stamp_in y)) → WBeats K z0 a
    unfolding WBeats
    clock_beats r n k ok say l a e τ top = let v = meets-marks K z0 (λ j. not (below (lat K z0 j) τ)) m' top l in
        let good = sym (same_right K z0 (x ∷ xs) p0 v.0) ∙ v.1 in
        omega (arith, e, clock_on r n k ok say v.0 good v.3, num-le τ (lat K z0 v.0) (not-true _ v.2))

    store_on : (d : Candidate) (g : ByServer Share) → HandOk K xs z0 z1 m (storing d g) → Said (storing d g) → eqb (code_in y) 11 ≡ false →
        (j : ℕ) → right K (x ∷ xs) j ≡ true → m' j ≡ true → Covers K (x ∷ xs) j d.stamp ≡ true
    unfolding HandOk Says
    store_on d g ok say k = on-marks x xs (λ j. Covers K (x ∷ xs) j d.stamp ≡ true) m b (λ h. say h k)
        (λ j h i. covers_up K x xs j d.stamp (ok.holds j h i))

    complete_on : (d : Candidate) → HandOk K xs z0 z1 m (completing d) → Said (completing d) →
        (j : ℕ) → right K (x ∷ xs) j ≡ true → m' j ≡ true → below (lat K (x ∷ xs) j) d.stamp ≡ false
    unfolding HandOk Says
    complete_on d ok say = on-marks x xs (λ j. below (lat K (x ∷ xs) j) d.stamp ≡ false) m b say
        (λ j h i. lat-up K x xs j d.stamp (ok.high j h i))

    repair_on : (d : Candidate) (r : List ℕ) → 1 ≤ b → b ≤ S K → HandOk K xs z0 z1 m (repairing d r) → Said (repairing d r) →
        (j : ℕ) → right K (x ∷ xs) j ≡ true → m' j ≡ true → below (lat K (x ∷ xs) j) d.stamp ≡ false
    unfolding HandOk Says
    repair_on d r lo hi ok say = on-marks x xs (λ j. below (lat K (x ∷ xs) j) d.stamp ≡ false) m b (λ h. say h (ok.tagged b lo hi))
        (λ j h i. lat-up K x xs j d.stamp (ok.high j h i))

    abbrev sent : Candidate
    sent = candidate_in K.s.config y

    collect_on : (g : ByServer Candidate) → HandOk K xs z0 z1 m (collecting g) → Said (collecting g) →
        (j : ℕ) → right K (x ∷ xs) j ≡ true → m' j ≡ true → Coll K (x ∷ xs) z0 j (upd g b sent j)
    unfolding HandOk Says
    collect_on g ok say = on_replies x xs (Coll K (x ∷ xs) z0) m g b sent say (λ j h i. coll-up K z0 j (g j) x xs (ok.coll j h i))

    -- a genuine candidate is in the list that collect leaves
    listed : (g : ByServer Candidate) (j : ℕ) → right K (x ∷ xs) j ≡ true → (g j ≡ blank_candidate K.s.config) ⊎ Genuine K (x ∷ xs) (g j) →
        (g j ≡ blank_candidate K.s.config) ⊎ (In (g j) (gather g (S K)) × Genuine K (x ∷ xs) (g j) × FullAt K (x ∷ xs) (g j).stamp)
    unfolding is_blank_def
    listed g j h (inl e) = inl e
    listed g j h (inr gd) = let rg = right_range K (x ∷ xs) j h in
        inr (
          in-gather g (S K) j rg.0 rg.1
              (ne_eqb (g j).stamp.number 0 (λ z. omega
              (arith, z, mark_num K.s (x ∷ xs) gd.origin.write gd.origin.made, ap (λ (a : Stamp). a.number) gd.origin.stamp_is))),
          gd,
          held_by (g j) gd,
        )

    filter_on : (cs : List Candidate) (g : ByServer Held) → HandOk K xs z0 z1 m (filtering cs g) → Said (filtering cs g) →
        Filters K (x ∷ xs) z0 z1 cs (upd g b (held_in_def y)) m'
    unfolding HandOk Says
    filter_on cs g ok say = record {
      first = ok.first;
      sift = on_replies x xs (λ j v. Sift K (x ∷ xs) z1 j cs v) m g b (held_in_def y) say (λ j h i. sift-up K z1 j cs (g j) x xs (ok.sift j h i));
    }

    pub turn-ok : 1 ≤ b → b ≤ S K → (full : Bool) → (full ≡ true → Q K ≤ count_to (S K) m') → (full ≡ false → count_to (S K) m' < Q K) → (h : Hand) →
        cl.hand ≡ h → HandOk K xs z0 z1 m h → Said h → Outcome K x xs z0 z1 h (updated K.s c cl b y m' full h)
    unfolding update Outcome ResultOk HandOk stage onto prepared candidate_made stamp_of
    turn-ok lo hi full yes-full no-full idle e ok say = same_outcome K x xs z0 z1 idle cl e tt
    turn-ok lo hi true yes-full no-full (clocking r n k) e ok say =
        (record { short = none_short K; beats = clock_beats r n k ok say (yes-full refl) _ refl; holds = λ j h i. unmarked K j i }, tt)
    turn-ok lo hi false yes-full no-full (clocking r n k) e ok say = (record { short = no-full refl; low = clock_on r n k ok say }, tt)
    turn-ok lo hi full yes-full no-full (storing d g) e ok say = at-cond (eqb (code_in y) 11) _ _ (Outcome K x xs z0 z1 (storing d g))
        (λ q. same_outcome K x xs z0 z1 (storing d g) cl e ok)
        (λ k. at-cond full _ _ (Outcome K x xs z0 z1 (storing d g))
        (λ q. (
          record { short = none_short K; full = many-marks K (x ∷ xs) _ m' (yes-full q) (store_on d g ok say k); high = λ j h i. unmarked K j i },
          tt,
        ))
        (λ q. (record { short = no-full q; beats = ok.beats; holds = store_on d g ok say k }, tt)))
    turn-ok lo hi true yes-full no-full (completing d) e ok say =
        (tt, (d, refl, many-marks K (x ∷ xs) _ m' (yes-full refl) (λ j h i. not_f _ (complete_on d ok say j h i))))
    turn-ok lo hi false yes-full no-full (completing d) e ok say =
        (record { short = no-full refl; full = full-up K d.stamp x xs ok.full; high = complete_on d ok say }, tt)
    turn-ok lo hi true yes-full no-full (collecting g) e ok say = (
      record {
        first = record {
          whom = m';
          what = upd g b sent;
          enough = yes-full refl;
          each = λ j h i. let t = collect_on g ok say j h i in (t.high, listed (upd g b sent) j h t.real);
        };
        sift = λ j h i. unmarked K j i;
      },
      tt,
    )
    turn-ok lo hi false yes-full no-full (collecting g) e ok say = (record { short = no-full refl; coll = collect_on g ok say }, tt)
    turn-ok lo hi true yes-full no-full (filtering cs g) e ok say =
        judged K x xs z0 z1 cs g (upd g b (held_in_def y)) m' p0 p1 fair (filter_on cs g ok say)
        (yes-full refl) c cl _ refl _ (dig cs g e (yes-full refl)) refl
    turn-ok lo hi false yes-full no-full (filtering cs g) e ok say = (filter_on cs g ok say, tt)
    turn-ok lo hi true yes-full no-full (repairing d r) e ok say = (
      tt,
      (
        d,
        many-marks K (x ∷ xs) _ m' (yes-full refl) (λ j h i. not_f _ (repair_on d r lo hi ok say j h i)),
        proved-up K z0 d r x xs
            ok.proved,
      ),
    )
    turn-ok lo hi false yes-full no-full (repairing d r) e ok say =
        (record { short = no-full refl; proved = proved-up K z0 d r x xs ok.proved; tagged = ok.tagged; high = repair_on d r lo hi ok say }, tt)
