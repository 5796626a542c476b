-- The invariant of every run that meets the premises: what is known of each correct client's hand, and that a write whose nonce was shown is
-- held by a quorum, since it was shown in its complete round. And what has ended stays on top.
-- Assumes nothing.
use mathlib.Core.Path.{◌≡◌, refl, sym, ap, ◌∙◌, subst}
use mathlib.Core.Bool.{Bool, true, false, cond, not, ◌&&◌}
use mathlib.Core.List.{List, [], ◌∷◌, flat_map}
use mathlib.Core.Option.{Option, some}
use Prim.Native.Nat.{ℕ, ◌≤◌, ◌<◌}
use native.Mathlib.Omega.{arith}
use lib.Dec.{leb, ltb, eqb}
use lib.ListN.{length}
use borrow.Author.Tests.{ltb-true, ltb-false, leb-true, leb-false, eqb-true, eqb-false, le-leb}
use Rattle.protocol.specs.declared.Stamp.{Stamp}
use Rattle.protocol.specs.Values.{Candidate, below, blank_stamp, Held}
use Rattle.protocol.specs.Packet.{Packet, decode}
use Rattle.protocol.specs.Server.{Server}
use Rattle.protocol.specs.Rules.{upd, count_to, ByServer, choice}
use Rattle.protocol.specs.Client.{Client, Hand, Result, idle, clocking, storing, completing, collecting, filtering, repairing, is_full_def, awaits, begun}
use Rattle.protocol.specs.Client.{onto, made, held_in_def, accepted}
use Rattle.runs.specs.Runs.{Lent, Step, write, read, make, take-reply, give-up, serve}
use Rattle.runs.proofs.ValueRuns.{now_values}
use Rattle.format.proofs.Answers.{at-cond}
use Rattle.atomicity.specs.Lists.{Ever, Always, In}
use Rattle.atomicity.specs.Steps.{Stamped, packet_in, makes, stamped_at, of_packet, proving, compared, digests_with, digested, digested_by}
use Rattle.atomicity.specs.Steps.{all_digested}
use Rattle.atomicity.specs.Premises.{Shows, PartyOf, odd}
use Rattle.atomicity.proofs.Util.{bool_case, clash, left_in, right_in, ever-map, ever_with, rise, not_f, and_intro}
use Rattle.atomicity.proofs.Stamps.{below-blank}
use Rattle.atomicity.proofs.Counting.{split-count, lies-count, quorum-sum, count_mono}
use Rattle.atomicity.proofs.Model.{account, marks, turn}
use Rattle.atomicity.proofs.Setup.{Setup, Steps, StepOf, Meets, Fair, Show, hand, calls, lat, cli, replied, right, same_step, right_step}
use Rattle.atomicity.proofs.Setup.{last_of, result}
use Rattle.atomicity.proofs.Moves.{Fits, kept, wbegan, rbegan, quit, took, moved, MovedAt}
use Rattle.atomicity.proofs.Serving.{making}
use Rattle.atomicity.proofs.Rounds.{Next, turn_turned}
use Rattle.atomicity.proofs.Positions.{next_stage, stage, pos, since, from, since-same, from-same, from_new}
use Rattle.atomicity.proofs.Marks.{marks-up}
use Rattle.atomicity.proofs.Begun.{Known, known}
use Rattle.atomicity.proofs.Nonces.{by-nonce}
use Rattle.atomicity.proofs.Sources.{complete-made, made_by}
use Rattle.atomicity.proofs.Genuine.{Genuine}
use Rattle.atomicity.proofs.Heard.{heard, same_since, same_from}
use Rattle.atomicity.proofs.States.{HandOk, ok-up, says-up}
use Rattle.atomicity.proofs.Quorums.{S, Q, Many, FullAt, TopAt, full-up, top_up}
use Rattle.atomicity.proofs.Telling.{says}
use Rattle.atomicity.proofs.Results.{Outcome, none_short, unmarked}
use Rattle.atomicity.proofs.Turns.{turn-ok}

module _ (K : Setup) where
  unfoldable pub Hands : Steps K → Type 0
  Hands xs = (c : ℕ) → K.correct.client c ≡ true → HandOk K xs (since K.s c xs) (from K.s c xs) (replied K xs c) (hand K xs c)

  -- ---- a write that was shown is held by a quorum

  pub make_shape : (c : ℕ) (x : Step) → makes c x ≡ true → (xs : Steps K) → PartyOf K.s (account K.s) K.correct xs x →
      K.correct.client c ≡ true
  make_shape c (write d r n) e xs p = clash e refl
  make_shape c (read d) e xs p = clash e refl
  make_shape c (make d b o) e xs p = subst (λ (i : ℕ). K.correct.client i ≡ true) (sym (eqb-true c d e)) p
  make_shape c (take-reply d lent b o) e xs p = clash e refl
  make_shape c (give-up d) e xs p = clash e refl
  make_shape c (serve b q o) e xs p = clash e refl

  -- at the moment of a show the hand was completing, with that nonce
  pub show-hand : (c : ℕ) (n : List ℕ) (y : StepOf K) (ys : Steps K) → Show K c n y ys → (d : Candidate) × (hand K ys c ≡ completing d)
      × (d.nonce ≡ n)
  unfolding Shows made
  show-hand c n y ys h =
      let t = making K.s c y ys h.1 h.2 (K.laws.reads y ys h.1 h.3) in
      (h.0, complete-made (hand K ys c) t.to h.0 (sym (ap (λ (q : Packet). q.body) t.is) ∙ h.4), h.5)

  pub record Shown (zs : Steps K) (n : List ℕ) : Type 0 where
    pub write : Stamped
    pub made : In write (marks K.s zs)
    pub nonce_is : write.nonce ≡ n
    pub full : FullAt K zs write.stamp

  shown_at : (c : ℕ) (n : List ℕ) (y : StepOf K) (ys : Steps K) → Meets K y ys → Hands ys → Show K c n y ys → Shown (y ∷ ys) n
  unfolding Hands HandOk Known Shows
  shown_at c n y ys prem hands h =
      let v = show-hand c n y ys h in
      let good : K.correct.client c ≡ true = make_shape c y.step h.2 ys prem.party in
      let f = subst (Known K.s ys c) v.1 (known K.s ys c) in
      let k = subst (λ (z : Hand). HandOk K ys (since K.s c ys) (from K.s c ys) (replied K ys c) z) v.1 (hands c good) in
      record {
        write = f.0;
        made = marks-up K.s f.0 y ys f.1;
        nonce_is = sym (ap (λ (z : Candidate). z.nonce) f.3) ∙ v.2;
        full = full-up K f.0.stamp y ys (subst (λ (z : Candidate). FullAt K ys z.stamp) f.3 k.full);
      }

  shown-up : (n : List ℕ) (x : StepOf K) (xs : Steps K) → Shown xs n → Shown (x ∷ xs) n
  shown-up n x xs h = record {
    write = h.write;
    made = marks-up K.s h.write x xs h.made;
    nonce_is = h.nonce_is;
    full = full-up K h.write.stamp x xs h.full;
  }

  pub zip : (P R : StepOf K → Steps K → Type 0) (xs : Steps K) → Always P xs → Always R xs → Always (λ y ys. P y ys × R y ys) xs
  unfolding Always
  zip P R [] a b = tt
  zip P R (x ∷ xs) a b = ((a.0, b.0), zip P R xs a.1 b.1)

  pub shown_since : (xs : Steps K) → Fair K xs → Always (λ y ys. Hands ys) xs → (c : ℕ) (n : List ℕ) → Ever (Show K c n) xs → Shown xs n
  shown_since xs fair hands c n ev = rise (λ (zs : Steps K). Shown zs n) (shown-up n) xs
      (ever-map _ _ (λ y ys h. shown_at c n y ys h.0.0 h.0.1 h.2) xs
      (ever_with _ (Show K c n) xs (zip (Meets K) (λ y ys. Hands ys) xs fair hands) ev))

  pub shown_full : (xs : Steps K) → Fair K xs → Always (λ y ys. Hands ys) xs → (d : Candidate) → Genuine K xs d → FullAt K xs d.stamp
  shown_full xs fair hands d g =
      let T = shown_since xs fair hands g.origin.write.client g.origin.write.nonce g.origin.shown in
      let e : T.write ≡ g.origin.write = by-nonce K xs fair T.write g.origin.write T.made g.origin.made T.nonce_is in
      subst (FullAt K xs) (ap (λ (z : Stamped). z.stamp) e ∙ g.origin.stamp_is) T.full

  -- ---- a reply that is let in

  -- what a hand awaits is of even kind
  pub awaits_even : (h : Hand) → odd (awaits h) ≡ false
  unfolding awaits
  awaits_even idle = refl
  awaits_even (clocking r n k) = refl
  awaits_even (storing d g) = refl
  awaits_even (completing d) = refl
  awaits_even (collecting g) = refl
  awaits_even (filtering cs g) = refl
  awaits_even (repairing d r) = refl

  pub outcome : (x : StepOf K) (xs : Steps K) → Fair K (x ∷ xs) → Hands xs → Always (λ y ys. Hands ys) xs → (c : ℕ) → K.correct.client c ≡ true →
      (p : Packet) (lent : Lent) (b o : List ℕ) →
      x.step ≡ take-reply c lent b o → decode b ≡ some p → Fits K.s c (cli K xs c) p →
      accepted (result K x xs) ≡ true →
      Outcome K x xs (since K.s c xs) (from K.s c xs) (hand K xs c) (turn K.s c (cli K xs c) p)
  unfolding Always Hands all_digested digested_by compared is_full_def
  outcome x xs fair hands always c good p lent b o st rd fit fine =
      let rg = K.laws.heads b p rd fit.same-t in
      let got : packet_in x.step ≡ some p = ap packet_in st ∙ rd in
      turn-ok K x xs (since K.s c xs) (from K.s c xs) (same_since K c xs ∙ same_step K x xs)
      (same_from K c xs ∙ same_step K x xs) fair (λ d g. shown_full (x ∷ xs) fair (hands, always) d g) c (cli K xs c)
      p.head.server p.body
      (λ cs g e l u i. left_in u (digested K.s (account K.s) x xs) (all_digested K.s (account K.s) xs) (compares cs g e l u i))
      rg.2 rg.3 (leb (Q K) (count_to (S K) (upd (replied K xs c) p.head.server true))) (λ e. leb-true (Q K) _ e)
      (λ e. leb-false (Q K) _ e) (hand K xs c) refl
      (hands c good)
      (λ h. says-up K (since K.s c xs) (from K.s c xs) p.head.server p.body (hand K xs c) x xs
      (says K c xs p.head.server p.body (hand K xs c) refl
      (heard K c xs fair.1 p good fit.mine fit.call fit.busy fit.kind
      ((made_by K x xs fair.0 p got fine).1 (ap odd fit.kind ∙ awaits_even (hand K xs c)) (right_step K x xs p.head.server ∙ h)))))
    where
      w : ℕ → Client
      w = cli K xs

      v : ℕ → Server
      v = (account K.s).server xs

      ms : List Stamped
      ms = stamped_at K.s (account K.s) x xs

      -- once the round is full, the fragments that prove the choice are digested in this step
      compares : (cs : List Candidate) (g : ByServer Held) → hand K xs c ≡ filtering cs g →
          Q K ≤ count_to (S K) (upd (replied K xs c) p.head.server true) →
          (u : List ℕ) → In u (proving K.s (upd (replied K xs c) p.head.server true) (upd g p.head.server (held_in_def p.body))
          (choice K.s.P K.s.config (upd (replied K xs c) p.head.server true) (upd g p.head.server (held_in_def p.body)) cs)) →
          In u (digested K.s (account K.s) x xs)
      compares cs g e l u i =
          subst (λ (t : Bool). In u (cond t (digested_by K.s w v ms x.step) [])) (sym fine)
          (subst (λ (y : Step). In u (digested_by K.s w v ms y)) (sym st)
          (right_in u (flat_map (digests_with K.s) ms) (of_packet (compared K.s (w c) (hand K xs c)) (decode b))
          (subst (λ (q : Option Packet). In u (of_packet (compared K.s (w c) (hand K xs c)) q)) (sym rd)
          (subst (λ (h : Hand). In u (compared K.s (w c) h p)) (sym e)
          (subst (λ (t : Bool). In u (cond t (proving K.s m g' (choice K.s.P K.s.config m g' cs)) [])) (sym (le-leb (Q K) _ l)) i)))))
        where
          m : ByServer Bool
          m = upd (replied K xs c) p.head.server true

          g' : ByServer Held
          g' = upd g p.head.server (held_in_def p.body)

  -- the moment when the round began, after a reply
  from-cond : (x : StepOf K) (xs : Steps K) (c : ℕ) → calls K (x ∷ xs) c ≡ calls K xs c → stage (hand K xs c) ≤ stage (hand K (x ∷ xs) c) →
      cond (eqb (stage (hand K xs c)) (stage (hand K (x ∷ xs) c))) (from K.s c xs) (x ∷ xs) ≡ from K.s c (x ∷ xs)
  unfolding pos
  from-cond x xs c e l = at-cond (eqb (stage (hand K xs c)) (stage (hand K (x ∷ xs) c))) _ _ (λ (z : Steps K). z ≡ from K.s c (x ∷ xs))
      (λ q. sym (from-same K.s c x xs (omega (arith, e, eqb-true (stage (hand K xs c)) (stage (hand K (x ∷ xs) c)) q))))
      (λ q. sym (from_new K.s c x xs (omega (arith, e, l, ne (eqb-false (stage (hand K xs c)) (stage (hand K (x ∷ xs) c)) q)))))
    where
      ne : (stage (hand K xs c) ≡ stage (hand K (x ∷ xs) c) → ⊥) → stage (hand K xs c) < stage (hand K (x ∷ xs) c)
      ne f = bool_case (ltb (stage (hand K xs c)) (stage (hand K (x ∷ xs) c))) (λ t. ltb-true (stage (hand K xs c)) (stage (hand K (x ∷ xs) c)) t)
          (λ t. absurd (f (omega (arith, l, ltb-false (stage (hand K xs c)) (stage (hand K (x ∷ xs) c)) t))))

  -- ---- every run

  hands_step : (x : StepOf K) (xs : Steps K) → Fair K (x ∷ xs) → Hands xs → Always (λ y ys. Hands ys) xs → Hands (x ∷ xs)
  unfolding Hands HandOk Outcome begun onto
  hands_step x xs fair hands always c good = go (moved K.s c x xs)
    where
      cl' : Client
      cl' = cli K (x ∷ xs) c

      At : Steps K → Steps K → Client → Type 0
      At z0 z1 cl = HandOk K (x ∷ xs) z0 z1 cl.marks cl.hand

      go : MovedAt K.s c x xs → At (since K.s c (x ∷ xs)) (from K.s c (x ∷ xs)) cl'
      go (kept e _) = subst (λ (z : Steps K). At z (from K.s c (x ∷ xs)) cl')
          (sym (since-same K.s c x xs (sym (ap (λ (z : Client). z.calls) e))))
          (subst (λ (z : Steps K). At (since K.s c xs) z cl') (sym (from-same K.s c x xs (sym (ap pos e))))
          (subst (At (since K.s c xs) (from K.s c xs)) (sym e)
          (ok-up K (since K.s c xs) (from K.s c xs) (replied K xs c) (hand K xs c) x xs (hands c good))))
      go (wbegan r n a b d l e) = subst (At (since K.s c (x ∷ xs)) (from K.s c (x ∷ xs))) (sym e)
          (record { short = none_short K; low = λ j h i. unmarked K j i })
      go (rbegan a b d e) = subst (At (since K.s c (x ∷ xs)) (from K.s c (x ∷ xs))) (sym e)
          (record { short = none_short K; coll = λ j h i. unmarked K j i })
      go (quit a b d e) = subst (At (since K.s c (x ∷ xs)) (from K.s c (x ∷ xs))) (sym e) tt
      go (took p lent b o st rd fit e f) =
          let t = turn_turned K.s c (cli K xs c) p in
          let u = (outcome x xs fair hands always c good p lent b o st rd fit (subst (λ (z : Result). accepted z ≡ true) (sym f) t.fine)).0 in
          let cq : cl'.calls ≡ calls K xs c = ap (λ (z : Client). z.calls) e ∙ t.calls in
          let u' : At (since K.s c xs) (cond (eqb (stage (hand K xs c)) (stage cl'.hand)) (from K.s c xs) (x ∷ xs)) cl' =
          subst (λ (v : Client). At (since K.s c xs) (cond (eqb (stage (hand K xs c)) (stage v.hand)) (from K.s c xs) (x ∷ xs)) v)
          (sym e) u in
          let st' = next_stage K.s c (hand K xs c) (last_of K xs c) cl'.hand cl'.last
          (subst (λ (v : Client). Next K.s c (hand K xs c) (last_of K xs c) v.hand v.last) (sym e) t.next) in
          subst (λ (v : Steps K). At v (from K.s c (x ∷ xs)) cl') (sym (since-same K.s c x xs (sym cq)))
          (subst (λ (v : Steps K). At (since K.s c xs) v cl') (from-cond x xs c cq st'.0) u')

  pub hands_all : (xs : Steps K) → Fair K xs → Hands xs × Always (λ y ys. Hands ys) xs
  unfolding now_values Hands Always HandOk
  hands_all [] fair = (λ c g. tt, tt)
  hands_all (x ∷ xs) fair = let r = hands_all xs fair.1 in (hands_step x xs fair r.0 r.1, (r.0, r.1))

  -- ---- what has ended: at step e a stamp was on top

  abbrev pub Ends : Stamp → ℕ → Steps K → Type 0
  Ends a e xs = Ever (λ y ys. (length ys ≡ e) × TopAt K (y ∷ ys) a) xs

  pub ends-top : (xs : Steps K) (a : Stamp) (e : ℕ) → Ends a e xs → TopAt K xs a
  ends-top xs a e h = rise (λ (zs : Steps K). TopAt K zs a) (top_up K a) xs (ever-map _ _ (λ y ys k. k.1) xs h)

  -- the blank is always on top
  pub top-blank : (ys : Steps K) → TopAt K ys blank_stamp
  unfolding Many
  top-blank ys = omega (
    arith,
    split-count (right K ys) (S K),
    quorum-sum K.s.config K.legal,
    lies-count (right K ys) (λ j. not (below (lat K ys j) blank_stamp)) (S K),
    count_mono (right K ys) (λ j. right K ys j && not (below (lat K ys j) blank_stamp)) (S K)
        (λ j lo hi h. and_intro _ _ h (not_f _ (below-blank (lat K ys j)))),
  )
