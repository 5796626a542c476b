-- The call that takes a reply is a write: it gets its stamp when clock ends, has reached its complete round when store ends, and is over when
-- complete ends.
-- Assumes nothing.
use mathlib.Core.Path.{◌≡◌, refl, sym, ap, ◌∙◌, subst}
use mathlib.Core.Bool.{true}
use mathlib.Core.List.{List, ◌∷◌}
use mathlib.Core.Option.{none, some, some-injective, Option}
use mathlib.Core.Logic.{inl}
use Prim.Native.Nat.{ℕ, suc, ◌<◌}
use native.Mathlib.Omega.{arith}
use lib.ListN.{length}
use Rattle.protocol.specs.declared.Stamp.{Stamp}
use Rattle.protocol.specs.declared.Label.{Label}
use Rattle.protocol.specs.Values.{Candidate, Share, is_some}
use Rattle.protocol.specs.Rules.{ByServer}
use Rattle.protocol.specs.Client.{Client, Hand, more, written, idle, clocking, storing, completing, awaits, in_complete}
use Rattle.protocol.specs.Client.{prepared, candidate_made}
use Rattle.atomicity.specs.Lists.{Ever, In}
use Rattle.atomicity.specs.Steps.{Stamped, stamped_from}
use Rattle.atomicity.specs.Claim.{Logged, close, reach, earliest}
use Rattle.atomicity.proofs.Util.{clash, no_some}
use Rattle.atomicity.proofs.Model.{stamp_for, prepared_for}
use Rattle.atomicity.proofs.Setup.{Setup, Steps, StepOf, calls}
use Rattle.atomicity.proofs.Positions.{since}
use Rattle.atomicity.proofs.Quorums.{TopAt, WBeats}
use Rattle.atomicity.proofs.Results.{ResultOk}
use Rattle.atomicity.proofs.Invariant.{Ends}
use Rattle.atomicity.proofs.Calls.{MarkAt, Own, Base, Open, Cur, open_up, written-up, writing-up}
use Rattle.atomicity.proofs.Following.{Stands, Follows, unreach, low}

module _ (K : Setup) (x : StepOf K) (xs : Steps K) (a : Logged) (σ : Stamp) (same : calls K xs a.client ≡ calls K (x ∷ xs) a.client)
    (base : Base K xs a σ) where
  pub clock-ends : (r n : List ℕ) (k k' : ℕ) (cl : Client) → cl.hand ≡ prepared_for K.s a.client r n (suc k') → Open K xs a
      × (a.wrote ≡ some r) → Follows K x xs a σ (clocking r n k) (record { client = cl; result = more })
  unfolding Follows Cur stamped_from In prepared candidate_made awaits
  clock-ends r n k k' cl e c kn =
      let τ = stamp_for K.s a.client (suc k') in
      let m : Stamped = record { client = a.client; content = r; nonce = n; stamp = τ } in
      let at : MarkAt K m (length (since K.s a.client xs)) (x ∷ xs) =
      kn.marked m refl (subst (λ (h : Hand). In m (stamped_from a.client (clocking r n k) h)) (sym e) (inl refl)) in
      subst (λ (h : Hand). Stands K x xs a σ (reach (in_complete h) (length xs) a) h) (sym e) (
        τ,
        record {
          begun-lt = omega (arith, base.begun-lt);
          number-le = omega (arith, base.number-le, same);
          ended = λ t q. absurd (no_some (sym c.0.going ∙ q));
          write = λ v p q. clash q (ap is_some (unreach a.reached _ (length xs) refl ∙ c.0.unreached));
          read = λ t p q. absurd (no_some (sym p ∙ c.1));
          reaches = λ v t p q. absurd (no_some (sym c.0.going ∙ q));
          reach-lt = λ k q. absurd (no_some (sym (unreach a.reached _ (length xs) refl ∙ c.0.unreached) ∙ q));
          leaves = λ q. c.0.going;
        },
        (
          record {
            going = c.0.going;
            staying = c.0.staying;
            began = (open_up K x xs a same c.0).began;
            unreached = unreach a.reached _ (length xs) refl ∙ c.0.unreached;
          },
          record {
            content = r;
            content_is = c.1;
            own = record {
              write = m;
              client_is = refl;
              content_is = refl;
              stamp_is = refl;
              since-when = subst (λ (t : ℕ). MarkAt K m t (x ∷ xs)) (sym c.0.began) at;
            };
            hand_is = refl;
          },
        ),
        record { client = refl; number = refl; begun = refl; wrote = refl; reached = λ e. clash e (ap is_some c.0.unreached) },
      )

  pub store-ends : (d : Candidate) (g : ByServer Share) (cl : Client) → cl.hand ≡ completing d → WBeats K (since K.s a.client xs) d.stamp →
      Cur K xs a σ (storing d g) → Follows K x xs a σ (storing d g) (record { client = cl; result = more })
  unfolding Follows Cur WBeats Ever awaits
  store-ends d g cl e beats c kn =
      let w = writing-up K x xs a σ d c.1 in
      let now : earliest a.reached true (length xs) ≡ some (length xs) = ap (λ (z : Option ℕ). earliest z true (length xs)) c.0.unreached in
      let won : is_some (earliest a.reached true (length xs)) ≡ true = ap is_some now in
      subst (λ (h : Hand). Stands K x xs a σ (reach (in_complete h) (length xs) a) h) (sym e) (
        σ,
        record {
          begun-lt = omega (arith, base.begun-lt);
          number-le = omega (arith, base.number-le, same);
          ended = λ t q. absurd (no_some (sym c.0.going ∙ q));
          write = λ v p q. record {
            floor = λ b i h l. subst (λ (z : Stamp). b.number < z.number) w.hand_is (beats b (low K x xs a σ same base b i h c.0.began l));
            own = subst (λ (u : List ℕ). Own K (x ∷ xs) a.client a.begun u σ) (some-injective _ _ (sym w.content_is ∙ p)) w.own;
          };
          read = λ t p q. absurd (no_some (sym p ∙ w.content_is));
          reaches = λ v t p q. won;
          reach-lt = λ k q. (let z : length xs ≡ k = some-injective _ _ (sym now ∙ q) in omega (arith, z));
          leaves = λ q. c.0.going;
        },
        (
          record { content = w.content; content_is = w.content_is; own = w.own; hand_is = w.hand_is },
          c.0.going,
          c.0.staying,
          won,
        ),
        record { client = refl; number = refl; begun = refl; wrote = refl; reached = λ e. clash e (ap is_some c.0.unreached) },
      )

  pub write-ends : (d : Candidate) (cl : Client) (n : Label) → cl.hand ≡ idle → Cur K xs a σ (completing d) →
      Follows K x xs a σ (completing d) (record { client = cl; result = written n })
  unfolding Follows Cur ResultOk Ever
  write-ends d cl n e c kn =
      let R = kn.result in
      let same-d : d ≡ R.0 = hand_inj R.1 in
      let top : TopAt K (x ∷ xs) σ = subst (TopAt K (x ∷ xs)) (sym (ap (λ (z : Candidate). z.stamp) same-d) ∙ c.0.hand_is) R.2 in (
        σ,
        record {
          begun-lt = omega (arith, base.begun-lt);
          number-le = omega (arith, base.number-le, same);
          ended = λ t q. let z : length xs ≡ t = cc in
              (omega (arith, base.begun-lt, z), omega (arith, z), subst (λ (i : ℕ). Ends K σ i (x ∷ xs)) z (inl (refl, top)));
          write = λ v p q. written-up K x xs a.client a.begun v σ base.begun-lt (base.write v p q);
          read = λ t p q. absurd (no_some (sym p ∙ c.0.content_is));
          reaches = λ v t p q. c.3;
          reach-lt = λ k q. omega (arith, base.reach-lt k q);
          leaves = λ q. clash q c.2;
        },
        subst (Cur K (x ∷ xs) (close (length xs) none a) σ) (sym e) tt,
        record { client = refl; number = refl; begun = refl; wrote = refl; reached = λ e. (refl, refl) },
      )
    where
      hand_inj : {p q : Candidate} → completing p ≡ completing q → p ≡ q
      hand_inj e = cc
