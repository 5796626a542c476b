-- The filter round's rules on tables: what a fitting reply and a group's leader are, the group's fragments as a list of different servers, and
-- the tags of a write. And that no two inputs with one digest were digested.
-- Assumes nothing.
use mathlib.Core.Path.{◌≡◌, refl, sym, ap, ap₂, ◌∙◌, subst}
use mathlib.Core.Bool.{Bool, true, false, cond, ◌&&◌}
use mathlib.Core.List.{List, [], ◌∷◌, ◌++◌, map, map-append}
use mathlib.Core.Option.{Option, none, some}
use mathlib.Core.Logic.{◌⊎◌, inl, inr}
use Prim.Native.Nat.{ℕ, zero, suc, ◌≤◌}
use native.Mathlib.Omega.{arith}
use lib.Dec.{leb, eqb}
use borrow.Author.Tests.{leb-true, leb-false, eqb-true, eqb-false}
use Rattle.erasure.specs.Fragments.{Part}
use Rattle.hmac.specs.Hmac.{tag_size}
use Rattle.protocol.specs.declared.Stamp.{Stamp}
use Rattle.protocol.specs.Values.{Candidate, Share, Held, same_list, same_stamp, nth, digest_size}
use Rattle.protocol.specs.Primitives.{candidate_message}
use Rattle.cluster.specs.Ranges.{top_length}
use Rattle.protocol.specs.Rules.{ByServer, share_fits, fits, same_share, agrees, leads, leader, part_of, parts}
use Rattle.protocol.specs.Server.{by_tag}
use Rattle.protocol.specs.Client.{tags_of}
use Rattle.protocol.proofs.Equal.{same_true, stamp-same}
use Rattle.format.proofs.Answers.{at-cond}
use Rattle.atomicity.specs.Lists.{Always, All, In}
use Rattle.atomicity.specs.Steps.{System, Stamped, digested, all_digested}
use Rattle.atomicity.specs.Premises.{NoCollision}
use Rattle.atomicity.proofs.Util.{bool_case, clash, and_left, and_right, left_in, right_in, split_in, all_in}
use Rattle.atomicity.proofs.Stamps.{same_is}
use Rattle.atomicity.proofs.Model.{account, tags_for}
use Rattle.atomicity.proofs.Setup.{Setup, Steps, Fair}
use Rattle.atomicity.proofs.States.{Tagged}
use Rattle.atomicity.proofs.Gathered.{members}

-- ---- replies that fit, and groups

module _ (s : System) (m : ByServer Bool) (g : ByServer Held) (c : Candidate) where
  -- server i's reply fits
  pub record Fit (i : ℕ) : Type 0 where
    pub marked : m i ≡ true
    pub share : Share
    pub share_is : (g i).share ≡ some share
    pub stamp_is : (g i).stamp ≡ c.stamp
    pub nonce_is : share.nonce_digest_def ≡ s.P.digest c.nonce
    pub digest_is : s.P.digest share.fragment ≡ nth digest_size share.digests i

  pub fit-view : (i : ℕ) → fits s.P s.config m g c i ≡ true → Fit i
  unfolding fits
  fit-view i e = go (g i).share refl (and_right (same_stamp (g i).stamp c.stamp) _ (and_right (m i) _ e))
    where
      go : (o : Option Share) → (g i).share ≡ o → share_fits s.P s.config c i o ≡ true → Fit i
      go none q k = clash k refl
      go (some h) q k = record {
        marked = and_left (m i) _ e;
        share = h;
        share_is = q;
        stamp_is = stamp-same _ _ (and_left (same_stamp (g i).stamp c.stamp) _ (and_right (m i) _ e));
        nonce_is = same_true _ _ (and_left (same_list h.nonce_digest_def (s.P.digest c.nonce)) _
            (and_right (leb h.size top_length) _ k));
        digest_is = same_true _ _ (and_right (same_list h.nonce_digest_def (s.P.digest c.nonce)) _
            (and_right (leb h.size top_length) _ k));
      }

  -- two shares of one group
  pub record Alike (a b : Share) : Type 0 where
    pub size : a.size ≡ b.size
    pub digests : a.digests ≡ b.digests
    pub tags : a.tags ≡ b.tags

  pub alike-view : (a b : Share) → same_share s.P s.config (some a) (some b) ≡ true → Alike a b
  alike-view a b e =
      let e1 = and_right (eqb a.size b.size) _ e in
      let e2 = and_right (same_list a.digests b.digests) _ e1 in
      record {
        size = eqb-true _ _ (and_left (eqb a.size b.size) _ e);
        digests = same_true _ _ (and_left (same_list a.digests b.digests) _ e1);
        tags = same_true _ _ (and_right (same_list a.nonce_digest_def b.nonce_digest_def) _ e2);
      }

  -- server i's reply is of the group of server b's, which fits too
  pub member : (b i : ℕ) (h : Share) → (g b).share ≡ some h → agrees s.P s.config m g c b i ≡ true → (f : Fit i) × Alike h f.share
  unfolding agrees
  member b i h q e =
      let f = fit-view i (and_left (fits s.P s.config m g c i) _ e) in (
        f,
        alike-view h f.share (subst (λ (o : Option Share). same_share s.P s.config (some h) o ≡ true) f.share_is
            (subst (λ (o : Option Share). same_share s.P s.config o (g i).share ≡ true) q (and_right (fits s.P s.config m g c i) _ e))),
      )

  -- a leader other than 0 leads a group of k
  pub leader-view : (n : ℕ) → (leader s.P s.config m g c n ≡ 0)
      ⊎ ((1 ≤ leader s.P s.config m g c n) × (leader s.P s.config m g c n ≤ n)
      × (leads s.P s.config m g c (leader s.P s.config m g c n) ≡ true))
  unfolding leader
  leader-view zero = inl refl
  leader-view (suc n) = go (leader s.P s.config m g c n) (leader-view n)
    where
      go : (l : ℕ) → (l ≡ 0) ⊎ ((1 ≤ l) × (l ≤ n) × (leads s.P s.config m g c l ≡ true)) →
          let k = cond (eqb l 0 && leads s.P s.config m g c (suc n)) (suc n) l in
          (k ≡ 0) ⊎ ((1 ≤ k) × (k ≤ suc n) × (leads s.P s.config m g c k ≡ true))
      go l h = at-cond (eqb l 0 && leads s.P s.config m g c (suc n)) (suc n) l
          (λ (k : ℕ). (k ≡ 0) ⊎ ((1 ≤ k) × (k ≤ suc n) × (leads s.P s.config m g c k ≡ true)))
          (λ e. inr (omega arith, omega arith, and_right (eqb l 0) _ e)) (λ e. low h)
        where
          low : (l ≡ 0) ⊎ ((1 ≤ l) × (l ≤ n) × (leads s.P s.config m g c l ≡ true)) → (l ≡ 0)
              ⊎ ((1 ≤ l) × (l ≤ suc n) × (leads s.P s.config m g c l ≡ true))
          low (inl q) = inl q
          low (inr q) = inr (q.0, omega (arith, q.1), q.2)

  -- a server that leads makes the leader not 0
  pub leader_some : (n b : ℕ) → 1 ≤ b → b ≤ n → leads s.P s.config m g c b ≡ true → leader s.P s.config m g c n ≡ 0 → ⊥
  unfolding leader
  leader_some zero b lo hi l e = omega arith
  leader_some (suc n) b lo hi l e =
      go (eqb (leader s.P s.config m g c n) 0) refl (leads s.P s.config m g c (suc n)) refl e (λ k z. leader_some n b lo k l z)
    where
      go : (u : Bool) → eqb (leader s.P s.config m g c n) 0 ≡ u → (v : Bool) → leads s.P s.config m g c (suc n) ≡ v →
          cond (u && v) (suc n) (leader s.P s.config m g c n) ≡ 0 → (b ≤ n → leader s.P s.config m g c n ≡ 0 → ⊥) → ⊥
      go true p true q k f = omega (arith, k)
      go true p false q k f = bool_case (leb b n) (λ t. f (leb-true b n t) k)
          (λ t. let z : b ≡ suc n = omega (arith, leb-false b n t) in clash (subst (λ (i : ℕ). leads s.P s.config m g c i ≡ true) z l) q)
      go false p v q k f = eqb-false _ _ p k

  -- the fragments of b's group, if each is f of its server
  pub parts_are : (f : ℕ → List ℕ) (b n : ℕ) →
      ((i : ℕ) → 1 ≤ i → i ≤ n → agrees s.P s.config m g c b i ≡ true → (h : Share) × ((g i).share ≡ some h) × (h.fragment ≡ f i)) →
      parts s.P s.config m g c b n ≡ map {B = Part} (λ i. record { server = i; bytes = f i }) (members (agrees s.P s.config m g c b) n)
  unfolding parts members
  parts_are f b zero h = refl
  parts_are f b (suc n) h = ap₂ (λ (x y : List Part). x ++ y) (parts_are f b n (λ i lo hi e. h i lo (omega (arith, hi)) e))
      (go (agrees s.P s.config m g c b (suc n)) refl)
      ∙ sym (map-append part_at (members (agrees s.P s.config m g c b) n) (cond (agrees s.P s.config m g c b (suc n)) (suc n ∷ []) []))
    where
      part_at : ℕ → Part
      part_at i = record { server = i; bytes = f i }

      go : (t : Bool) → agrees s.P s.config m g c b (suc n) ≡ t →
          cond t (part_of s.P s.config (suc n) (g (suc n)).share) [] ≡ map part_at (cond t (suc n ∷ []) [])
      go false e = refl
      go true e = let r = h (suc n) (omega arith) (omega arith) e in
          ap (part_of s.P s.config (suc n)) r.1 ∙ ap (λ (z : List ℕ). record { server = suc n; bytes = z } ∷ []) r.2

  -- a member's fragment is among them
  pub part_in : (b n i : ℕ) (f : Share) → 1 ≤ i → i ≤ n → agrees s.P s.config m g c b i ≡ true → (g i).share ≡ some f →
      In {A = Part} (record { server = i; bytes = f.fragment }) (parts s.P s.config m g c b n)
  unfolding parts In
  part_in b zero i f lo hi a e = absurd (omega arith)
  part_in b (suc n) i f lo hi a e = bool_case (leb i n)
      (λ t. left_in _ (parts s.P s.config m g c b n) _ (part_in b n i f lo (leb-true i n t) a e))
      (λ t. let z : i ≡ suc n = omega (arith, leb-false i n t) in
      right_in _ (parts s.P s.config m g c b n) _
      (subst (λ (k : ℕ). In {A = Part} (record { server = i; bytes = f.fragment }) (cond (agrees s.P s.config m g c b k)
      (part_of s.P s.config k (g k).share) [])) z (here i a e)))
    where
      here : (k : ℕ) → agrees s.P s.config m g c b k ≡ true → (g k).share ≡ some f → In {A = Part} (record { server = k; bytes = f.fragment })
          (cond (agrees s.P s.config m g c b k) (part_of s.P s.config k (g k).share) [])
      here k a e = subst (λ (t : Bool). In {A = Part} (record { server = k; bytes = f.fragment })
          (cond t (part_of s.P s.config k (g k).share) []))
          (sym a) (subst (λ (o : Option Share). In {A = Part} (record { server = k; bytes = f.fragment }) (part_of s.P s.config k o)) (sym e)
          (inl refl))

-- ---- tags, and digests

pub tagged_of : (K : Setup) (d : Candidate) (m : Stamped) → d.tags ≡ tags_for K.s m → m.stamp ≡ d.stamp →
    K.s.P.digest m.nonce ≡ K.s.P.digest d.nonce → Tagged K d
unfolding by_tag tags_of
tagged_of K d m e a n j l h = same_is _ _
    (ap (λ (z : List ℕ). nth tag_size z j) e ∙ K.laws.tag_at K.s.keys (λ i. candidate_message m.stamp (K.s.P.digest m.nonce)) j l h
    ∙ ap₂ (λ (a : Stamp) (b : List ℕ). K.s.P.tag (K.s.keys j) (candidate_message a b)) a n)

pub no_two : (K : Setup) (xs : Steps K) → Fair K xs → (u v : List ℕ) → In u (all_digested K.s (account K.s) xs) →
    In v (all_digested K.s (account K.s) xs) → K.s.P.digest u ≡ K.s.P.digest v → u ≡ v
unfolding all_digested In Always NoCollision
no_two K [] h u v i j e = absurd i
no_two K (x ∷ xs) h u v i j e = go (split_in u D E i) (split_in v D E j) (λ k l. no_two K xs h.1 u v k l e)
  where
    D : List (List ℕ)
    D = digested K.s (account K.s) x xs

    E : List (List ℕ)
    E = all_digested K.s (account K.s) xs

    apart : (a b : List ℕ) → In a D → In b (D ++ E) → K.s.P.digest a ≡ K.s.P.digest b → a ≡ b
    apart a b k l q = all_in (λ w. K.s.P.digest a ≡ K.s.P.digest w → a ≡ w) (D ++ E)
        (all_in (λ z. All (λ w. K.s.P.digest z ≡ K.s.P.digest w → z ≡ w) (D ++ E)) D h.0.uncollided a k) b l q

    go : In u D ⊎ In u E → In v D ⊎ In v E → (In u E → In v E → u ≡ v) → u ≡ v
    go (inl k) l f = apart u v k j e
    go (inr k) (inl l) f = sym (apart v u l i (sym e))
    go (inr k) (inr l) f = f k l
