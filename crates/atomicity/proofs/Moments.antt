-- The moments when correct servers replied to an undecided filter round: a genuine candidate of the list was shown, and held by a quorum,
-- before each of them. Here the premise enters that no nonce is seen before its write begins. And the earliest of the moments.
-- Assumes nothing.
use mathlib.Core.Path.{◌≡◌, refl, sym, ap, ◌∙◌, subst}
use mathlib.Core.Bool.{Bool, true, false, cond, ◌&&◌}
use mathlib.Core.List.{List, [], ◌∷◌, map}
use mathlib.Core.Option.{Option}
use mathlib.Core.Logic.{◌⊎◌, inl, inr}
use Prim.Native.Nat.{ℕ, zero, suc, ◌+◌, ◌≤◌}
use native.Mathlib.Omega.{arith}
use lib.Dec.{leb}
use borrow.Author.Tests.{leb-true, leb-false}
use Rattle.protocol.specs.Values.{Candidate, Held, blank_candidate}
use Rattle.protocol.specs.Packet.{Body, Packet, filter}
use Rattle.protocol.specs.Rules.{ByServer, count_to}
use Rattle.atomicity.specs.Lists.{Ever, Always, In}
use Rattle.atomicity.specs.Steps.{Stamped, serves, judged, offered, of_packet, nonces_by, nonces_got}
use Rattle.atomicity.specs.Premises.{Begins, FreshNonce, NoEarlyNonce}
use Rattle.atomicity.proofs.Util.{bool_case, clash, and_left, and_right, in_map, all_in}
use Rattle.atomicity.proofs.Model.{account, marks, is_valid}
use Rattle.atomicity.proofs.Setup.{Setup, Steps, StepOf, Fair, Begin, Show, srv, right}
use Rattle.atomicity.proofs.Marks.{marks-up}
use Rattle.atomicity.proofs.Nonces.{begins, by-nonce}
use Rattle.atomicity.proofs.Best.{best_case}
use Rattle.atomicity.proofs.Genuine.{at-serve, Genuine, genuine}
use Rattle.atomicity.proofs.Quorums.{FullAt}
use Rattle.atomicity.proofs.Invariant.{hands_all, shown_since}
use Rattle.atomicity.proofs.Listed.{counted_one}
use Rattle.atomicity.proofs.Suffixes.{Suf, suf-refl, suf-total, suf-up, suf-trans, suf-tail, ever_suf, suf_ever}
use Rattle.atomicity.proofs.Waiting.{best, Sat, Waits}

module _ (K : Setup) (xs : Steps K) (fair : Fair K xs) (cs : List Candidate) (g : ByServer Held) (m : ByServer Bool) (W : Waits K xs cs g m) where
  -- a correct server that replied
  abbrev pub told : ℕ → Bool
  told j = right K xs j && m j

  pub record Moment (j : ℕ) : Type 0 where
    pub y : StepOf K
    pub ys : Steps K
    pub sat : Sat K xs cs j (g j) y ys
    pub suf : Suf (y ∷ ys) xs

  moment : (j : ℕ) → told j ≡ true → Moment j
  moment j e = let r = ever_suf (Sat K xs cs j (g j)) xs (W.told j (and_left (right K xs j) (m j) e) (and_right (right K xs j) (m j) e)) in
      record { y = r.0; ys = r.1; sat = r.2; suf = r.3 }

  pub before_now : (j : ℕ) (M : Moment j) → Suf M.ys xs
  before_now j M = suf-tail M.y M.ys xs M.suf

  -- ---- the earliest of the moments

  abbrev Earliest : ℕ → Type 0
  Earliest n = (z : ℕ) × (M : Moment z) × ((u : ℕ) → 1 ≤ u → u ≤ n → told u ≡ true → (N : Moment u) × Suf M.ys N.ys)

  pub earliest : (n : ℕ) → 1 ≤ count_to n told → Earliest n
  unfolding count_to
  earliest zero l = absurd (omega arith)
  earliest (suc n) l = go (told (suc n)) refl (leb 1 (count_to n told)) refl l (λ k. earliest n k)
    where
      go : (t : Bool) → told (suc n) ≡ t → (o : Bool) → leb 1 (count_to n told) ≡ o → 1 ≤ cond t 1 0 + count_to n told →
          (1 ≤ count_to n told → Earliest n) → Earliest (suc n)
      go false e o q l f = let r = f (omega arith) in (
        r.0,
        r.1,
        λ u lo hi h. bool_case (leb u n) (λ t. r.2 u lo (leb-true u n t) h)
            (λ t. let z : u ≡ suc n = omega (arith, leb-false u n t) in clash (subst (λ (i : ℕ). told i ≡ true) z h) e),
      )
      go true e false q l f = let M = moment (suc n) e in (
        suc n,
        M,
        λ u lo hi h. bool_case (leb u n) (λ t. absurd (omega (arith, leb-false 1 (count_to n told) q, counted_one n told u lo (leb-true u n t) h)))
            (λ t. let z : u ≡ suc n = omega (arith, leb-false u n t) in
            subst (λ (i : ℕ). (N : Moment i) × Suf M.ys N.ys) (sym z) (M, suf-refl M.ys)),
      )
      go true e true q l f = let r = f (leb-true 1 (count_to n told) q) in let M = moment (suc n) e in
          pick r M (suf-total M.ys r.1.ys xs (before_now (suc n) M) (before_now r.0 r.1))
        where
          pick : (r : Earliest n) (M : Moment (suc n)) → Suf M.ys r.1.ys ⊎ Suf r.1.ys M.ys → Earliest (suc n)
          pick r M (inl s) = (
            suc n,
            M,
            λ u lo hi h. bool_case (leb u n) (λ t. let k = r.2 u lo (leb-true u n t) h in (k.0, suf-trans M.ys r.1.ys k.0.ys s k.1))
                (λ t. let z : u ≡ suc n = omega (arith, leb-false u n t) in
                subst (λ (i : ℕ). (N : Moment i) × Suf M.ys N.ys) (sym z) (M, suf-refl M.ys)),
          )
          pick r M (inr s) = (
            r.0,
            r.1,
            λ u lo hi h. bool_case (leb u n) (λ t. r.2 u lo (leb-true u n t) h)
                (λ t. let z : u ≡ suc n = omega (arith, leb-false u n t) in
                subst (λ (i : ℕ). (N : Moment i) × Suf r.1.ys N.ys) (sym z) (M, s)),
          )

  -- ---- what a server found at its moment

  pub best-real : (j : ℕ) (M : Moment j) → (best K cs j M.ys ≡ blank_candidate K.s.config)
      ⊎ (In (best K cs j M.ys) cs × Genuine K M.ys (best K cs j M.ys))
  best-real j M = go (best_case K.s j (srv K M.ys j) (filter cs))
    where
      b : Candidate
      b = best K cs j M.ys

      go : (b ≡ blank_candidate K.s.config)
          ⊎ (In b (judged K.s j (srv K M.ys j) (filter cs)) × (In b cs × (is_valid K.s j (srv K M.ys j) b ≡ true))) →
          (b ≡ blank_candidate K.s.config) ⊎ (In b cs × Genuine K M.ys b)
      go (inl e) = inl e
      go (inr v) = let T = M.sat in inr (
        v.1.0,
        genuine K M.y M.ys T.old j T.ask T.judging b
            (subst (λ (z : Body). In b (judged K.s j (srv K M.ys j) z)) (sym T.asked) v.0) v.1.1,
      )

  -- a nonce that a server got belongs to a write that was begun before
  born : (n : List ℕ) (c j : ℕ) (y : StepOf K) (ys zs : Steps K) → serves j y.step ≡ true → In n (nonces_got K.s (account K.s) y ys) →
      Fair K zs → Suf (y ∷ ys) zs → Ever (Begin K c n) zs → Ever (Begin K c n) ys
  unfolding Suf Ever Begins Always FreshNonce
  born n c j y ys [] e i f s h = absurd h
  born n c j y ys (x ∷ zs) e i f (inl q) (inl h) =
      absurd (let a : y ≡ x = head_inj q in clash (subst (λ (z : StepOf K). serves j z.step ≡ true) a e) (ap (serves j) h.1))
    where
      head_inj : y ∷ ys ≡ x ∷ zs → y ≡ x
      head_inj q = cc
  born n c j y ys (x ∷ zs) e i f (inl q) (inr h) = let a : ys ≡ zs = tail_inj q in subst (Ever (Begin K c n)) (sym a) h
    where
      tail_inj : y ∷ ys ≡ x ∷ zs → ys ≡ zs
      tail_inj q = cc
  born n c j y ys (x ∷ zs) e i f (inr s) (inl h) =
      absurd ((f.0.fresh c n h).1 (suf_ever (λ y ys. In n (nonces_got K.s (account K.s) y ys)) y ys zs s i))
  born n c j y ys (x ∷ zs) e i f (inr s) (inr h) = born n c j y ys zs e i f.1 s h

  -- a genuine candidate of the list was shown, and held by a quorum, before every correct reply
  pub then_genuine : (j : ℕ) (M : Moment j) (d : Candidate) → In d cs → Genuine K xs d → Genuine K M.ys d × FullAt K M.ys d.stamp
  unfolding NoEarlyNonce nonces_by
  then_genuine j M d i gen =
      let T = M.sat in let w = gen.origin.write in let y = M.y in let ys = M.ys in
      let seen : In w.nonce (nonces_got K.s (account K.s) y ys) = at-serve K w.nonce y ys j T.ask T.judging (nonces_by K.s)
      (λ b o e. subst (λ (q : Option Packet). In w.nonce (map (λ (c : Candidate). c.nonce) (of_packet (λ z. offered z.body) q))) (sym e)
      (subst (λ (z : Body). In w.nonce (map (λ (c : Candidate). c.nonce) (offered z))) (sym T.asked)
      (subst (λ (z : List ℕ). In z (map (λ (c : Candidate). c.nonce) cs)) (sym gen.nonce_is)
      (in_map (λ (c : Candidate). c.nonce) cs d i)))) in
      let beg = born w.nonce w.client j y ys xs T.judging.by seen fair M.suf (begins K xs w gen.origin.made) in
      let showed : Ever (Show K w.client w.nonce) ys =
      all_in (λ n. (c : ℕ) → Ever (Begin K c n) ys → Ever (Show K c n) ys) (nonces_got K.s (account K.s) y ys) T.judging.prem.unshown
      w.nonce seen w.client beg in
      let Sh = shown_since K ys T.old (hands_all K ys T.old).1 w.client w.nonce showed in
      let eq : Sh.write ≡ w = by-nonce K xs fair Sh.write w
      (suf-up (λ (zs : Steps K). In Sh.write (marks K.s zs)) (marks-up K.s Sh.write) ys xs (before_now j M) Sh.made)
      gen.origin.made Sh.nonce_is in (
        record {
          origin = record {
            write = w;
            made = subst (λ (z : Stamped). In z (marks K.s ys)) eq Sh.made;
            stamp_is = gen.origin.stamp_is;
            shown = showed;
          };
          nonce_is = gen.nonce_is;
        },
        subst (FullAt K ys) (ap (λ (z : Stamped). z.stamp) eq ∙ gen.origin.stamp_is) Sh.full,
      )
