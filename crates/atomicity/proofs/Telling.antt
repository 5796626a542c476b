-- What a correct server's reply means for the hand that it is for: by the server's rule on the request of that hand, and by what it holds.
-- Assumes nothing.
use mathlib.Core.Path.{◌≡◌, sym, ap, ◌∙◌, subst}
use mathlib.Core.Bool.{Bool, true, false, cond, ◌&&◌}
use mathlib.Core.List.{List, ◌∷◌}
use mathlib.Core.Option.{some}
use mathlib.Core.Logic.{◌⊎◌, inl, inr}
use Prim.Native.Nat.{ℕ, ◌≤◌}
use native.Mathlib.Nat.{le_refl}
use native.Mathlib.Omega.{arith}
use lib.Dec.{ltb, eqb}
use borrow.Author.Tests.{ltb-false}
use Rattle.protocol.specs.declared.Stamp.{Stamp}
use Rattle.protocol.specs.Values.{Candidate, Share, Write, Held, below, blank_candidate, blank_stamp}
use Rattle.protocol.specs.Packet.{Body, Packet}
use Rattle.protocol.specs.Packet.{clock, store, complete, collect, filter, repair}
use Rattle.protocol.specs.Memory.{lookup}
use Rattle.protocol.specs.Server.{Server, raise, valid, act}
use Rattle.protocol.specs.Client.{Hand, idle, clocking, storing, completing, collecting, filtering, repairing, stamp_in, code_in, candidate_in, held_in_def}
use Rattle.protocol.specs.Client.{higher, checks, request}
use Rattle.format.proofs.Answers.{at-cond}
use Rattle.atomicity.specs.Lists.{Ever, In}
use Rattle.atomicity.specs.Steps.{System, Stamped, judged}
use Rattle.atomicity.proofs.Util.{clash, and_intro, or_right, ever-map, rise}
use Rattle.atomicity.proofs.Stamps.{le_trans, num-le}
use Rattle.atomicity.proofs.Model.{acts, marks, vouched, tagged, is_valid, best_of, share_for}
use Rattle.atomicity.proofs.Setup.{Setup, Steps, StepOf, Fair, lat, hist, hand, srv}
use Rattle.atomicity.proofs.Positions.{since, from}
use Rattle.atomicity.proofs.Marks.{mark_num, mark-checks}
use Rattle.atomicity.proofs.Rising.{by-stamp}
use Rattle.atomicity.proofs.Best.{best_case, best-max}
use Rattle.atomicity.proofs.Servers.{held_some, raise_ge}
use Rattle.atomicity.proofs.Histories.{history}
use Rattle.atomicity.proofs.Genuine.{Judging, Genuine, genuine, genuine-up, latest_known}
use Rattle.atomicity.proofs.Covers.{Covers, covers_stored, not_lower}
use Rattle.atomicity.proofs.Heard.{lat_since, covers_from, marks_from, Heard}
use Rattle.atomicity.proofs.States.{Piece, piece_up, Sift, Coll, Says, says-up}
use Rattle.cluster.proofs.Tests.{untrue}

pub higher_checked : (s : System) (k : ℕ) (a : Stamp) → checks s.P s.writers a ≡ true → a.number ≤ higher s.P s.writers k a
unfolding higher
higher_checked s k a h = at-cond (ltb k a.number && checks s.P s.writers a) _ k (λ (v : ℕ). a.number ≤ v) (λ e. le_refl _)
    (λ e. ltb-false k a.number (untrue _ (λ z. clash (and_intro _ _ z h) e)))

module _ (K : Setup) where
  -- one step of server j, on the request q, with the reply x, in c's present round
  pub record At (c j : ℕ) (xs : Steps K) (q : Body) (x : Body) (y : StepOf K) (ys : Steps K) : Type 0 where
    pub ask : Packet
    pub asked : ask.body ≡ q
    pub judging : Judging K y ys j ask
    pub says : x ≡ (acts K.s j (srv K ys j) q).reply
    pub after : srv K (y ∷ ys) j ≡ (acts K.s j (srv K ys j) q).server
    pub old : Fair K ys
    pub from_is : from K.s c ys ≡ from K.s c xs
    pub since_is : since K.s c ys ≡ since K.s c xs

  pub at_step : (c j : ℕ) (xs : Steps K) (x : Body) (h : Hand) → hand K xs c ≡ h → (y : StepOf K) (ys : Steps K) → Heard K c j xs x y ys →
      At c j xs (request h j) x y ys
  at_step c j xs x h e y ys t =
      let q : t.ask.body ≡ request h j = t.body_is ∙ ap (λ (z : Hand). request z j) e in
      record {
        ask = t.ask;
        asked = q;
        judging = record { prem = t.prem; by = t.by; got = t.got; fine = t.fine };
        says = t.says ∙ ap (λ (z : Body). (acts K.s j (srv K ys j) z).reply) q;
        after = t.after ∙ ap (λ (z : Body). (acts K.s j (srv K ys j) z).server) q;
        old = t.old;
        from_is = t.from_is;
        since_is = t.since_is;
      }

  -- ---- what a history holds

  -- a share under the stamp of a shown write
  pub piece_of : (ys : Steps K) → Fair K ys → (j : ℕ) (d : Candidate) → Genuine K ys d → (f : Share) → lookup d.stamp (hist K ys j) ≡ some f →
      Piece K ys j d.stamp f
  piece_of ys fair j d g f h =
      let e = held_some d.stamp f (hist K ys j) h in
      let o = history K ys fair j e.0 e.1 in
      let k : o.0.stamp ≡ g.origin.write.stamp = sym (ap (λ (z : Write). z.stamp) o.2) ∙ e.2 ∙ sym g.origin.stamp_is in
      let eq : o.0 ≡ g.origin.write = by-stamp K.s ys o.0 g.origin.write o.1 g.origin.made k in
      record {
        origin = g.origin;
        share_is = sym e.3 ∙ ap (λ (z : Write). z.share) o.2 ∙ ap (λ (z : Stamped). share_for K.s z j) eq;
      }

  -- nothing is held under the blank stamp
  pub no-blank : (ys : Steps K) → Fair K ys → (j : ℕ) (f : Share) → lookup blank_stamp (hist K ys j) ≡ some f → ⊥
  no-blank ys fair j f h =
      let e = held_some blank_stamp f (hist K ys j) h in
      let o = history K ys fair j e.0 e.1 in
      let k : o.0.stamp ≡ blank_stamp = sym (ap (λ (z : Write). z.stamp) o.2) ∙ e.2 in
      omega (arith, mark_num K.s ys o.0 o.1, ap (λ (z : Stamp). z.number) k)

  -- ---- round by round

  sifted : (c j : ℕ) (xs : Steps K) (cs : List Candidate) (x : Body) (y : StepOf K) (ys : Steps K) → At c j xs (filter cs) x y ys →
      Sift K (y ∷ ys) (from K.s c xs) j cs (held_in_def x)
  unfolding act valid
  sifted c j xs cs x y ys t =
      let v = srv K ys j in
      let b = best_of K.s j v (blank_candidate K.s.config) cs in
      let rq : held_in_def x ≡ record { stamp = b.stamp; share = lookup b.stamp (hist K ys j) } = ap held_in_def t.says in
      let sq : (held_in_def x).stamp ≡ b.stamp = ap (λ (h : Held). h.stamp) rq in
      let fq : (held_in_def x).share ≡ lookup b.stamp (hist K ys j) = ap (λ (h : Held). h.share) rq in
      record {
        piece = λ f e. subst (λ (a : Stamp). Piece K (y ∷ ys) j a f) (sym sq)
            (go b f (sym fq ∙ e) (best_case K.s j v (filter cs)));
        tags = λ d i e. subst (λ (z : Server). below z.latest.stamp d.stamp ≡ false) (sym t.after)
            (le_trans d.stamp b.stamp (raise b v).latest.stamp (best-max K.s j v (blank_candidate K.s.config) cs d i (tag-valid d e))
            (raise_ge b v));
        stands = λ d i h m k a n. subst (λ (z : Body). below (held_in_def z).stamp d.stamp ≡ false) (sym t.says)
            (not_lower K ys t.old j d m (marks_from K c ys m (subst (λ (l : Steps K). In m (marks K.s l)) (sym t.from_is) k)) a n
            (covers_from K c ys j d.stamp (subst (λ (l : Steps K). Covers K l j d.stamp ≡ true) (sym t.from_is) h)) cs i);
      }
    where
      tag-valid : (d : Candidate) → tagged K.s j d ≡ true → is_valid K.s j (srv K ys j) d ≡ true
      tag-valid d e = or_right (vouched K.s j (srv K ys j) d) (tagged K.s j d) e

      go : (b : Candidate) (f : Share) → lookup b.stamp (hist K ys j) ≡ some f → (b ≡ blank_candidate K.s.config)
          ⊎ (In b (judged K.s j (srv K ys j) (filter cs)) × (In b cs × (is_valid K.s j (srv K ys j) b ≡ true))) → Piece K (y ∷ ys) j b.stamp f
      go b f h (inl e) = absurd (no-blank ys t.old j f (subst (λ (z : Candidate). lookup z.stamp (hist K ys j) ≡ some f) e h))
      go b f h (inr v) = piece_up K j b.stamp f y ys (piece_of ys t.old j b
          (genuine K y ys t.old j t.ask t.judging b
          (subst (λ (z : Body). In b (judged K.s j (srv K ys j) z)) (sym t.asked) v.0) v.1.1) f h)

  clocked : (c j : ℕ) (xs : Steps K) (x : Body) (y : StepOf K) (ys : Steps K) → At c j xs clock x y ys → (k : ℕ) →
      (lat K (since K.s c xs) j).number ≤ higher K.s.P K.s.writers k (stamp_in x)
  unfolding act
  clocked c j xs x y ys t k =
      let low : (lat K (since K.s c xs) j).number ≤ (lat K ys j).number =
      num-le _ (lat K ys j) (subst (λ (l : Steps K). below (lat K ys j) (lat K l j) ≡ false) t.since_is (lat_since K c ys j)) in
      subst (λ (a : Stamp). (lat K (since K.s c xs) j).number ≤ higher K.s.P K.s.writers k a) (sym (ap stamp_in t.says))
      (go low (latest_known K ys t.old j))
    where
      go : (lat K (since K.s c xs) j).number ≤ (lat K ys j).number → ((srv K ys j).latest ≡ blank_candidate K.s.config)
          ⊎ Genuine K ys (srv K ys j).latest →
          (lat K (since K.s c xs) j).number ≤ higher K.s.P K.s.writers k (lat K ys j)
      go low (inl e) = omega (arith, low, ap (λ (z : Candidate). z.stamp.number) e)
      go low (inr g) = omega (
        arith,
        low,
        higher_checked K.s k (lat K ys j)
            (subst (λ (a : Stamp). checks K.s.P K.s.writers a ≡ true) g.origin.stamp_is
            (mark-checks K.s ys g.origin.write g.origin.made)),
      )

  stored : (c j : ℕ) (xs : Steps K) (w : Write) (x : Body) (y : StepOf K) (ys : Steps K) → At c j xs (store w) x y ys → eqb (code_in x) 11 ≡ false →
      Covers K (y ∷ ys) j w.stamp ≡ true
  stored c j xs w x y ys t k = covers_stored K j w y ys t.after (subst (λ (z : Body). eqb (code_in z) 11 ≡ false) t.says k)

  done-high : (c j : ℕ) (xs : Steps K) (d : Candidate) (x : Body) (y : StepOf K) (ys : Steps K) → At c j xs (complete d) x y ys →
      below (lat K (y ∷ ys) j) d.stamp ≡ false
  unfolding act
  done-high c j xs d x y ys t = subst (λ (z : Server). below z.latest.stamp d.stamp ≡ false) (sym t.after)
      (raise_ge d (srv K ys j))

  collected : (c j : ℕ) (xs : Steps K) (x : Body) (y : StepOf K) (ys : Steps K) → At c j xs collect x y ys →
      Coll K (y ∷ ys) (since K.s c xs) j (candidate_in K.s.config x)
  unfolding act
  collected c j xs x y ys t = subst (Coll K (y ∷ ys) (since K.s c xs) j) (sym (ap (candidate_in K.s.config) t.says))
      (record {
        high = subst (λ (l : Steps K). below (lat K ys j) (lat K l j) ≡ false) t.since_is (lat_since K c ys j);
        real = go (latest_known K ys t.old j);
      })
    where
      go : ((srv K ys j).latest ≡ blank_candidate K.s.config) ⊎ Genuine K ys (srv K ys j).latest →
          ((srv K ys j).latest ≡ blank_candidate K.s.config) ⊎ Genuine K (y ∷ ys) (srv K ys j).latest
      go (inl e) = inl e
      go (inr g) = inr (genuine-up K _ y ys g)

  repaired : (c j : ℕ) (xs : Steps K) (d : Candidate) (x : Body) (y : StepOf K) (ys : Steps K) → At c j xs (repair d) x y ys →
      tagged K.s j d ≡ true → below (lat K (y ∷ ys) j) d.stamp ≡ false
  unfolding act valid
  repaired c j xs d x y ys t e = subst (λ (z : Server). below z.latest.stamp d.stamp ≡ false) (sym t.after)
      (subst (λ (b : Bool). below (cond b (raise d (srv K ys j)) (srv K ys j)).latest.stamp d.stamp ≡ false)
      (sym (or_right (vouched K.s j (srv K ys j) d) (tagged K.s j d) e)) (raise_ge d (srv K ys j)))

  pub says : (c : ℕ) (xs : Steps K) (j : ℕ) (x : Body) (h : Hand) → hand K xs c ≡ h → Ever (Heard K c j xs x) xs →
      Says K xs (since K.s c xs) (from K.s c xs) j x h
  unfolding Says
  says c xs j x h e ev = rise (λ (zs : Steps K). Says K zs (since K.s c xs) (from K.s c xs) j x h)
      (λ y zs k. says-up K (since K.s c xs) (from K.s c xs) j x h y zs k) xs
      (ever-map (Heard K c j xs x) (λ y ys. Says K (y ∷ ys) (since K.s c xs) (from K.s c xs) j x h)
      (λ y ys t. go h y ys (at_step c j xs x h e y ys t)) xs ev)
    where
      go : (g : Hand) (y : StepOf K) (ys : Steps K) → At c j xs (request g j) x y ys → Says K (y ∷ ys) (since K.s c xs) (from K.s c xs) j x g
      go idle y ys t = tt
      go (clocking r n k) y ys t = clocked c j xs x y ys t
      go (storing d g) y ys t = stored c j xs (record { stamp = d.stamp; share = g j }) x y ys t
      go (completing d) y ys t = done-high c j xs d x y ys t
      go (collecting g) y ys t = collected c j xs x y ys t
      go (filtering cs g) y ys t = sifted c j xs cs x y ys t
      go (repairing d r) y ys t = repaired c j xs d x y ys t
