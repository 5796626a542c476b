-- A candidate that is valid at a correct server has the stamp and the nonce of a mark whose write has shown them (a forged tag, a second input
-- with one digest and an early nonce are excluded by the premises); and so has a latest, if it is not blank.
-- Assumes nothing.
use mathlib.Core.Path.{◌≡◌, refl, sym, ap, ◌∙◌, subst}
use mathlib.Core.Bool.{Bool, true, false, cond, not, ◌&&◌, ◌||◌}
use mathlib.Core.List.{List, [], ◌∷◌, ◌++◌, flat_map}
use mathlib.Core.Option.{Option, some}
use mathlib.Core.Logic.{◌⊎◌, inl, inr}
use Prim.Native.Nat.{ℕ}
use Rattle.protocol.specs.declared.Stamp.{Stamp}
use Rattle.protocol.specs.Values.{Candidate, blank_candidate}
use Rattle.protocol.specs.Packet.{Body, Packet, decode}
use Rattle.protocol.specs.Packet.{complete}
use Rattle.protocol.specs.Primitives.{candidate_message}
use Rattle.protocol.specs.Server.{Server, blank_server, valid, barred}
use Rattle.protocol.specs.Client.{made, accepted}
use Rattle.runs.specs.Runs.{Step, serve}
use Rattle.runs.proofs.ValueRuns.{now_values}
use Rattle.atomicity.specs.Lists.{Ever, Always, All, In}
use Rattle.atomicity.specs.Steps.{Stamped, packet_in, makes, serves, offered, is_complete, judged, of_packet, stamped_at, digests_with, tags_made}
use Rattle.atomicity.specs.Steps.{tags_checked, checked_by, server_checks, digested, digested_by, all_digested, nonces_got, nonces_by}
use Rattle.atomicity.specs.Premises.{NoForgery, NoCollision, NoEarlyNonce, Shows}
use Rattle.atomicity.proofs.Util.{right_in, flat_in, in_map, all_in, ever-map, within_in}
use Rattle.atomicity.proofs.Model.{account, marks, vouched, tagged, is_valid}
use Rattle.atomicity.proofs.Setup.{Setup, Steps, StepOf, Meets, Fair, Begin, Show, right_range, hand, srv, result}
use Rattle.atomicity.proofs.Serving.{same, acted, served, making, ServedAt}
use Rattle.atomicity.proofs.Marks.{marks-up}
use Rattle.atomicity.proofs.Begun.{Known, known, mark-digested}
use Rattle.atomicity.proofs.Nonces.{begins}
use Rattle.atomicity.proofs.Best.{judged-tested}
use Rattle.atomicity.proofs.Servers.{Origin, act_grows}
use Rattle.atomicity.proofs.Sources.{serve_shape, complete-writer, complete-made, MadeBy, server_correct, writer-made}
use Rattle.atomicity.proofs.Histories.{Vouched, by-history, made_mark}

module _ (K : Setup) where
  -- the step of a server that judges candidates
  pub record Judging (x : StepOf K) (xs : Steps K) (j : ℕ) (p : Packet) : Type 0 where
    pub prem : Meets K x xs
    pub by : serves j x.step ≡ true
    pub got : packet_in x.step ≡ some p
    pub fine : accepted (result K x xs) ≡ true

  -- a property of lists that the step gives, if it is accepted and a server's
  pub at-serve : {A : Type 0} (u : A) (x : StepOf K) (xs : Steps K) (j : ℕ) (p : Packet) → Judging x xs j p → (f : Step → List A) →
      ((b o : List ℕ) → decode b ≡ some p → In u (f (serve j b o))) →
      In u (cond (accepted (result K x xs)) (f x.step) [])
  at-serve {A} u x xs j p t f h = let v = serve_shape j x.step t.by in
      subst (λ (b : Bool). In u (cond b (f x.step) [])) (sym t.fine)
      (subst (λ (y : Step). In u (f y)) (sym v.2) (h v.0 v.1 (ap packet_in (sym v.2) ∙ t.got)))

  -- the server of this step as the account tells it
  told : (x : StepOf K) (xs : Steps K) (j : ℕ) (p : Packet) → Judging x xs j p → (account K.s).server xs j ≡ srv K xs j
  told x xs j p t =
      let r = right_range K xs j (server_correct K x xs t.prem j t.by) in
      ap (λ (b : Bool). cond b (srv K xs j) (blank_server K.s.config)) (within_in 1 K.s.config.servers j r.0 r.1)

  -- the candidate on which its answer rests is among those that the premises speak of
  at-judged : (x : StepOf K) (xs : Steps K) (j : ℕ) (p : Packet) → Judging x xs j p → (c : Candidate) →
      In c (judged K.s j (srv K xs j) p.body) →
      (b : List ℕ) → decode b ≡ some p → In c (of_packet (λ q. judged K.s j ((account K.s).server xs j) q.body) (decode b))
  at-judged x xs j p t c i b d =
      subst (λ (q : Option Packet). In c (of_packet (λ q. judged K.s j ((account K.s).server xs j) q.body) q)) (sym d)
      (subst (λ (v : Server). In c (judged K.s j v p.body)) (sym (told x xs j p t)) i)

  forged : (x : StepOf K) (xs : Steps K) (j : ℕ) (p : Packet) → Judging x xs j p → (c : Candidate) →
      In c (judged K.s j (srv K xs j) p.body) → vouched K.s j (srv K xs j) c ≡ false → tagged K.s j c ≡ true →
      Ever (λ y ys. In {A = List ℕ × List ℕ} (K.s.keys j, candidate_message c.stamp (K.s.P.digest c.nonce))
      (tags_made K.s (account K.s) y ys)) xs
  unfolding NoForgery checked_by server_checks In
  forged x xs j p t c i e k =
      all_in (λ kb. Ever (λ y ys. In kb (tags_made K.s (account K.s) y ys)) xs) (tags_checked K.s (account K.s) x xs) t.prem.unforged _
      (at-serve _ x xs j p t (checked_by K.s ((account K.s).client xs) ((account K.s).server xs))
      (λ b o d. subst (λ (q : Option Packet). In kb (of_packet (λ z. flat_map (server_checks K.s j v) (judged K.s j v z.body)) q)) (sym d)
      (flat_in (server_checks K.s j v) (judged K.s j v p.body) c kb
      (subst (λ (u : Server). In c (judged K.s j u p.body)) (sym (told x xs j p t)) i) one)))
    where
      v : Server
      v = (account K.s).server xs j

      kb : List ℕ × List ℕ
      kb = (K.s.keys j, candidate_message c.stamp (K.s.P.digest c.nonce))

      one : In kb (server_checks K.s j ((account K.s).server xs j) c)
      one = subst (λ (v : Server). In kb (server_checks K.s j v c)) (sym (told x xs j p t))
          (subst (λ (b : Bool). In kb (cond (not b && tagged K.s j c) (kb ∷ []) [])) (sym e)
          (subst (λ (b : Bool). In kb (cond b (kb ∷ []) [])) (sym k) (inl refl)))

  vouched_for : (x : StepOf K) (xs : Steps K) → Fair K xs → (j : ℕ) (p : Packet) → Judging x xs j p → (c : Candidate) →
      In c (judged K.s j (srv K xs j) p.body) → is_valid K.s j (srv K xs j) c ≡ true → Vouched K xs c
  unfolding valid
  vouched_for x xs h j p t c i v = go (vouched K.s j (srv K xs j) c) refl v
    where
      go : (b : Bool) → vouched K.s j (srv K xs j) c ≡ b → (b || tagged K.s j c) ≡ true → Vouched K xs c
      go true e k = by-history K xs h j c e
      go false e k = made_mark K (K.s.keys j) c.stamp c.nonce xs (forged x xs j p t c i e k)

  -- a write with this stamp has shown its nonce
  pub record Revealed (xs : Steps K) (a : Stamp) : Type 0 where
    pub write : Stamped
    pub made : In write (marks K.s xs)
    pub stamp_is : write.stamp ≡ a
    pub shown : Ever (Show K write.client write.nonce) xs

  unfoldable pub revealed-up : (a : Stamp) (x : StepOf K) (xs : Steps K) → Revealed xs a → Revealed (x ∷ xs) a
  unfolding Ever
  revealed-up a x xs r =
      record { write = r.write; made = marks-up K.s r.write x xs r.made; stamp_is = r.stamp_is; shown = inr r.shown }

  -- its stamp and nonce are those of such a write
  pub record Genuine (xs : Steps K) (c : Candidate) : Type 0 where
    pub origin : Revealed xs c.stamp
    pub nonce_is : origin.write.nonce ≡ c.nonce

  -- what is judged was offered
  judged-offered : (j : ℕ) (v : Server) (x : Body) (c : Candidate) → In c (judged K.s j v x) → In c (offered x)
  unfolding In
  judged-offered j v x c i = go (is_complete x) (judged-tested K.s j v x c i)
    where
      go : (t : Bool) → In c (cond t [] (offered x)) → In c (offered x)
      go true k = absurd k
      go false k = k

  pub genuine : (x : StepOf K) (xs : Steps K) → Fair K xs → (j : ℕ) (p : Packet) → Judging x xs j p → (c : Candidate) →
      In c (judged K.s j (srv K xs j) p.body) → is_valid K.s j (srv K xs j) c ≡ true → Genuine xs c
  unfolding NoCollision NoEarlyNonce digested_by nonces_by digests_with In
  genuine x xs h j p t c i v =
      let r = vouched_for x xs h j p t c i v in
      let m = r.0 in
      let nonce_of_def : Candidate → List ℕ = λ (y : Candidate). y.nonce in
      let D = digested K.s (account K.s) x xs in
      let all = D ++ all_digested K.s (account K.s) xs in
      let mine : In c.nonce D = at-serve c.nonce x xs j p t
      (digested_by K.s ((account K.s).client xs) ((account K.s).server xs) (stamped_at K.s (account K.s) x xs))
      (λ b o d. in_map nonce_of_def (of_packet (λ q. judged K.s j ((account K.s).server xs j) q.body) (decode b)) c
      (at-judged x xs j p t c i b d)) in
      let theirs : In m.nonce all =
      right_in m.nonce D (all_digested K.s (account K.s) xs) (mark-digested K.s xs m m.nonce r.1 (inl refl)) in
      let equal : c.nonce ≡ m.nonce = all_in (λ u. K.s.P.digest c.nonce ≡ K.s.P.digest u → c.nonce ≡ u) all
      (all_in (λ u. All (λ w. K.s.P.digest u ≡ K.s.P.digest w → u ≡ w) all) D t.prem.uncollided c.nonce mine) m.nonce theirs
      (sym r.3) in
      let seen : In m.nonce (nonces_got K.s (account K.s) x xs) = subst (λ (n : List ℕ). In n (nonces_got K.s (account K.s) x xs)) equal
      (at-serve c.nonce x xs j p t (nonces_by K.s)
      (λ b o d. in_map nonce_of_def (of_packet (λ q. offered q.body) (decode b)) c
      (subst (λ (q : Option Packet). In c (of_packet (λ z. offered z.body) q)) (sym d) (judged-offered j (srv K xs j) p.body c i)))) in
      record {
        origin = record {
          write = m;
          made = r.1;
          stamp_is = r.2;
          shown = all_in (λ n. (d : ℕ) → Ever (Begin K d n) xs → Ever (Show K d n) xs) (nonces_got K.s (account K.s) x xs) t.prem.unshown
              m.nonce seen m.client (begins K xs m r.1);
        };
        nonce_is = sym equal;
      }

  pub genuine-up : (c : Candidate) (x : StepOf K) (xs : Steps K) → Genuine xs c → Genuine (x ∷ xs) c
  unfolding revealed-up
  genuine-up c x xs g = record { origin = revealed-up c.stamp x xs g.origin; nonce_is = g.nonce_is }

  -- ---- the latest

  ever_genuine : (c : Candidate) (xs : Steps K) → Ever (λ y ys. Genuine (y ∷ ys) c) xs → Genuine xs c
  unfolding Ever
  ever_genuine c [] e = absurd e
  ever_genuine c (x ∷ xs) (inl g) = g
  ever_genuine c (x ∷ xs) (inr e) = genuine-up c x xs (ever_genuine c xs e)

  completed : (c : Candidate) (p : Packet) → p.body ≡ complete c → (y : StepOf K) (ys : Steps K) → MadeBy K (makes p.head.client) p y ys →
      Genuine (y ∷ ys) c
  unfolding made Known Ever Shows
  completed c p is y ys h =
      let d = p.head.client in
      let t = making K.s d y ys p h.0 h.2 in
      let w = complete-made (hand K ys d) t.to c (sym (ap (λ (q : Packet). q.body) t.is) ∙ is) in
      let k = subst (Known K.s ys d) w (known K.s ys d) in
      record {
        origin = record {
          write = k.0;
          made = marks-up K.s k.0 y ys k.1;
          stamp_is = sym (ap (λ (z : Candidate). z.stamp) k.3);
          shown = inl (c, p, subst (λ (i : ℕ). makes i y.step ≡ true) (sym k.2) h.0, h.1, is, ap (λ (z : Candidate). z.nonce) k.3);
        };
        nonce_is = sym (ap (λ (z : Candidate). z.nonce) k.3);
      }

  pub latest_known : (xs : Steps K) → Fair K xs → (j : ℕ) → ((srv K xs j).latest ≡ blank_candidate K.s.config)
      ⊎ Genuine xs (srv K xs j).latest
  unfolding now_values Always
  latest_known [] h j = inl refl
  latest_known (x ∷ xs) h j = go (served K.s j x xs) (latest_known xs h.1 j)
    where
      Good : Steps K → Candidate → Type 0
      Good zs c = (c ≡ blank_candidate K.s.config) ⊎ Genuine zs c

      later : (c : Candidate) → Good xs c → Good (x ∷ xs) c
      later c (inl e) = inl e
      later c (inr g) = inr (genuine-up c x xs g)

      go : ServedAt K.s j x xs → Good xs (srv K xs j).latest →
          Good (x ∷ xs) (srv K (x ∷ xs) j).latest
      go (same q) old = later _ (subst (λ (v : Server). Good xs v.latest) (sym q) old)
      go (acted p a b c d q) old = later _
          (subst (λ (v : Server). Good xs v.latest) (sym q) (new _ (act_grows K.s j (srv K xs j) p.body).latest))
        where
          from : (z : Candidate) → (z ≡ blank_candidate K.s.config)
              ⊎ ((In z (judged K.s j (srv K xs j) p.body) × (is_valid K.s j (srv K xs j) z ≡ true)) ⊎ (p.body ≡ complete z)) → Good xs z
          from z (inl e) = inl e
          from z (inr (inl v)) = inr (genuine x xs h.1 j p (record { prem = h.0; by = a; got = b; fine = d }) z v.0 v.1)
          from z (inr (inr k)) = inr (ever_genuine z xs
              (ever-map (MadeBy K (makes p.head.client) p) (λ y ys. Genuine (y ∷ ys) z) (completed z p k) xs
              (writer-made K x xs h.0 j p b c d
              (complete-writer p.head.client z (subst (λ (y : Body). barred p.head.client y ≡ false) k c.allowed)))))

          new : (z : Candidate) → (z ≡ (srv K xs j).latest) ⊎ Origin K.s j (srv K xs j) p.body z → Good xs z
          new z (inl e) = subst (Good xs) (sym e) old
          new z (inr o) = from z o
