-- What a correct server's history holds was stored by the write that has this mark; and a candidate whose nonce the history vouches for, or
-- that bears a tag made, has the stamp of a mark.
-- Assumes nothing.
use mathlib.Core.Path.{◌≡◌, sym, ap, ◌∙◌, subst}
use mathlib.Core.Bool.{Bool, true, false, cond}
use mathlib.Core.List.{List, [], ◌∷◌}
use mathlib.Core.Logic.{◌⊎◌, inl, inr}
use Prim.Native.Nat.{ℕ}
use Rattle.cluster.specs.Config.{up_to}
use Rattle.protocol.specs.declared.Stamp.{Stamp}
use Rattle.protocol.specs.Values.{Candidate, Write, no_share}
use Rattle.protocol.specs.Packet.{Body, Packet}
use Rattle.protocol.specs.Packet.{store}
use Rattle.protocol.specs.Primitives.{candidate_message}
use Rattle.protocol.specs.Server.{Server, by_history_def, barred}
use Rattle.protocol.specs.Client.{made}
use Rattle.runs.proofs.ValueRuns.{now_values}
use Rattle.atomicity.specs.Lists.{Ever, Always, In}
use Rattle.atomicity.specs.Steps.{Stamped, makes, stamped_at, tags_with, tags_made}
use Rattle.atomicity.proofs.Util.{left_in, right_in, in_flat, map_in, ever-map, within_in}
use Rattle.atomicity.proofs.Model.{account, marks, vouched, write_for}
use Rattle.atomicity.proofs.Setup.{Setup, Steps, StepOf, Fair, hist, hand, srv}
use Rattle.atomicity.proofs.Serving.{same, acted, served, making, ServedAt}
use Rattle.atomicity.proofs.Marks.{marks-up}
use Rattle.atomicity.proofs.Begun.{Known, known}
use Rattle.atomicity.proofs.Servers.{held-digest, act_grows}
use Rattle.atomicity.proofs.Sources.{store-writer, store-made, MadeBy, writer-made}

module _ (K : Setup) where
  -- ---- histories

  abbrev pub From : ℕ → Write → Steps K → Type 0
  From j e xs = (m : Stamped) × In m (marks K.s xs) × (e ≡ write_for K.s m j)

  from_up : (j : ℕ) (e : Write) (x : StepOf K) (xs : Steps K) → From j e xs → From j e (x ∷ xs)
  from_up j e x xs f = (f.0, marks-up K.s f.0 x xs f.1, f.2)

  ever_from : (j : ℕ) (e : Write) (xs : Steps K) → Ever (λ y ys. From j e ys) xs → From j e xs
  unfolding Ever
  ever_from j e [] h = absurd h
  ever_from j e (x ∷ xs) (inl f) = from_up j e x xs f
  ever_from j e (x ∷ xs) (inr h) = from_up j e x xs (ever_from j e xs h)

  made_from : (j : ℕ) (e : Write) (p : Packet) → p.body ≡ store e → p.head.server ≡ j → (y : StepOf K) (ys : Steps K) →
      MadeBy K (makes p.head.client) p y ys → From j e ys
  unfolding made Known
  made_from j e p is at y ys h =
      let c = p.head.client in
      let t = making K.s c y ys p h.0 h.2 in
      let w = store-made (hand K ys c) t.to e (sym (ap (λ (q : Packet). q.body) t.is) ∙ is) in
      let k = subst (Known K.s ys c) w.2 (known K.s ys c) in
      let to_j : t.to ≡ j = sym (ap (λ (q : Packet). q.head.server) t.is) ∙ at in (
        k.0,
        k.1,
        w.3 ∙ (λ i. record { stamp = (k.3 i).stamp; share = k.4 i t.to })
            ∙ ap (λ (b : Bool). record { stamp = k.0.stamp; share = cond b (write_for K.s k.0 t.to).share no_share })
            (within_in 1 K.s.config.servers t.to t.low t.high)
            ∙ ap (write_for K.s k.0) to_j,
      )

  pub history : (xs : Steps K) → Fair K xs → (j : ℕ) (e : Write) → In e (hist K xs j) → From j e xs
  unfolding now_values Always In
  history [] h j e i = absurd i
  history (x ∷ xs) h j e i = go (served K.s j x xs) (λ k. history xs h.1 j e k)
    where
      go : ServedAt K.s j x xs → (In e (hist K xs j) → From j e xs) → From j e (x ∷ xs)
      go (same q) f = from_up j e x xs (f (subst (λ (v : Server). In e v.history) q i))
      go (acted p a b c d q) f = from_up j e x xs
          (new ((act_grows K.s j (srv K xs j) p.body).new e (subst (λ (v : Server). In e v.history) q i)))
        where
          new : In e (hist K xs j) ⊎ (p.body ≡ store e) → From j e xs
          new (inl k) = f k
          new (inr k) = ever_from j e xs (ever-map (MadeBy K (makes p.head.client) p) (λ y ys. From j e ys) (made_from j e p k c.mine) xs
              (writer-made K x xs h.0 j p b c d
              (store-writer p.head.client e (subst (λ (z : Body). barred p.head.client z ≡ false) k c.allowed))))

  -- ---- valid candidates

  -- a mark with the candidate's stamp and nonce digest
  abbrev pub Vouched : Steps K → Candidate → Type 0
  Vouched xs c = (m : Stamped) × In m (marks K.s xs) × (m.stamp ≡ c.stamp) × (K.s.P.digest m.nonce ≡ K.s.P.digest c.nonce)

  pub by-history : (xs : Steps K) → Fair K xs → (j : ℕ) (c : Candidate) → vouched K.s j (srv K xs j) c ≡ true → Vouched xs c
  unfolding by_history_def
  by-history xs h j c v =
      let b = held-digest c.stamp (K.s.P.digest c.nonce) (hist K xs j) v in
      let f = history xs h j b.0 b.1 in
      (f.0, f.1, sym (ap (λ (e : Write). e.stamp) f.2) ∙ b.2, sym (ap (λ (e : Write). e.share.nonce_digest_def) f.2) ∙ b.3)

  -- a tag over stamp and nonce digest that was made for a mark names that mark
  tag_mark : (k : List ℕ) (a : Stamp) (n : List ℕ) (m : Stamped) →
      In {A = List ℕ × List ℕ} (k, candidate_message a (K.s.P.digest n)) (tags_with K.s m) → (m.stamp ≡ a)
      × (K.s.P.digest m.nonce ≡ K.s.P.digest n)
  unfolding tags_with In
  tag_mark k a n m (inl e) = absurd (K.laws.apart a n m.stamp.number m.stamp.writer (ap (λ (x : List ℕ × List ℕ). x.1) e))
  tag_mark k a n m (inr i) =
      let r = map_in (λ (i : ℕ). (K.s.keys i, candidate_message m.stamp (K.s.P.digest m.nonce))) (up_to K.s.config.servers) _ i in
      let q = K.laws.candidate_inj a m.stamp n m.nonce (ap (λ (y : List ℕ × List ℕ). y.1) r.2) in (sym q.0, sym q.1)

  pub made_mark : (k : List ℕ) (a : Stamp) (n : List ℕ) (xs : Steps K) →
      Ever (λ y ys. In {A = List ℕ × List ℕ} (k, candidate_message a (K.s.P.digest n)) (tags_made K.s (account K.s) y ys)) xs →
      (m : Stamped) × In m (marks K.s xs) × (m.stamp ≡ a) × (K.s.P.digest m.nonce ≡ K.s.P.digest n)
  unfolding Ever marks
  made_mark k a n [] e = absurd e
  made_mark k a n (x ∷ xs) (inl i) =
      let f = in_flat (tags_with K.s) (stamped_at K.s (account K.s) x xs) _ i in
      let t = tag_mark k a n f.0 f.2 in
      (f.0, left_in f.0 (stamped_at K.s (account K.s) x xs) (marks K.s xs) f.1, t.0, t.1)
  made_mark k a n (x ∷ xs) (inr e) =
      let r = made_mark k a n xs e in (r.0, right_in r.0 (stamped_at K.s (account K.s) x xs) (marks K.s xs) r.1, r.2, r.3)
