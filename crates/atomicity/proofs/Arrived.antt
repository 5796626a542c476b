-- A correct server whose reply to the round in hand has come in is marked: the reply fits, so it was let in or its server had replied; refusal
-- 5 does not come to a client that began its call, 14 and the answer 11 not while numbers are small and histories have room, and a reply refused
-- with 15 has not come in.
-- Assumes nothing.
use mathlib.Core.Path.{◌≡◌, refl, sym, ap, ◌∙◌, subst}
use mathlib.Core.Bool.{Bool, true, false, not}
use mathlib.Core.List.{List, [], ◌∷◌, ◌++◌}
use mathlib.Core.Option.{some, some-injective}
use mathlib.Core.Logic.{◌⊎◌, inl, inr}
use Prim.Native.Nat.{ℕ, ◌+◌, ◌*◌, ◌≤◌}
use native.Mathlib.Omega.{arith}
use lib.Dec.{ltb}
use lib.ListN.{length, length-append}
use borrow.Author.Tests.{leb-true, eq-eqb}
use Rattle.cluster.specs.Ranges.{top_faults, top_writer, top_client, top_number, capacity, content_room}
use Rattle.cluster.specs.Refusals.{on_refusal}
use Rattle.protocol.specs.declared.Stamp.{Stamp}
use Rattle.protocol.specs.Values.{Candidate, blank_candidate}
use Rattle.protocol.specs.Packet.{Body, Packet, kind_of, decode}
use Rattle.protocol.specs.Rules.{upd}
use Rattle.protocol.specs.Server.{act}
use Rattle.protocol.specs.Client.{Client, Hand, Turn, refused, idle, clocking, storing, completing, collecting, filtering, repairing, awaits, is_idle}
use Rattle.protocol.specs.Client.{is_full_def, too_high, high_at, bad_faults, bad_client_def, of_write, accepted}
use Rattle.protocol.specs.Client.{onto, begun, higher, stamp_in, code_in}
use Rattle.runs.specs.Runs.{Lent, take-reply}
use Rattle.atomicity.specs.Lists.{Ever}
use Rattle.atomicity.specs.Steps.{serves, stamped_at}
use Rattle.atomicity.specs.Claim.{came_in, Arrives}
use Rattle.atomicity.proofs.Util.{clash, and_right, ever-map, ever_with, ever-out, rise, within_in}
use Rattle.atomicity.proofs.Model.{account, marks, turn}
use Rattle.atomicity.proofs.Setup.{Setup, Steps, StepOf, Meets, Fair, hand, calls, lat, srv, cli, replied, last_of, result}
use Rattle.atomicity.proofs.Moves.{Fits, kept, wbegan, rbegan, quit, took, moved, acting, MovedAt}
use Rattle.atomicity.proofs.Rounds.{Next, turn_turned}
use Rattle.atomicity.proofs.Positions.{next_stage, stage, stage-awaits, stage-bound, pos, ever-before}
use Rattle.atomicity.proofs.Sources.{MadeBy, Told, reply_source, sent-made}
use Rattle.atomicity.proofs.Begun.{hand-writer}
use Rattle.atomicity.proofs.Genuine.{Genuine, latest_known}
use Rattle.atomicity.proofs.Heard.{Heard, heard, asked_at}
use Rattle.atomicity.proofs.Telling.{at_step}
use Rattle.atomicity.proofs.Story.{past}
use Rattle.atomicity.proofs.Rising.{Clocked}
use Rattle.atomicity.proofs.Numbers.{Low, Small, small, mark-small, higher-low}
use Rattle.atomicity.proofs.Full.{eleven}
use Rattle.atomicity.proofs.Grown.{code, code-cases, code_is, reply-t, result_is, update_grown}

module _ (K : Setup) (c : ℕ) where
  -- server b's reply to the round of kind k of call n comes in
  abbrev pub Arr : ℕ → ℕ → ℕ → StepOf K → Steps K → Type 0
  Arr n k b x xs = Arrives K.s (account K.s) c n k b x xs

  -- it was asked for no later than now
  too_early : (xs : Steps K) → Fair K xs → K.correct.client c ≡ true → (n k b : ℕ) → Ever (Arr n k b) xs →
      16 * n + k ≤ pos (cli K xs c)
  too_early xs fair good n k b ev = ever-out _ xs
      (λ y ys h. let a = h.0.2 in let p = a.packet in
      let t = reply_source K ys h.0.1 p (subst (λ (i : ℕ). K.correct.client i ≡ true) (sym a.client) good)
      (subst (λ (i : ℕ). Ever (MadeBy K (serves i) p) ys) (sym a.server) (sent-made K (serves b) a.reply p a.decoded ys a.sent)) in
      ever-out _ ys (λ z zs u. ever-out _ zs (λ w ws v. omega (arith, v.1, a.call, a.kind, v.0.low, u.1.low, h.1.low))
      (asked_at K c p z zs a.client u.0)) (ever-before K.s c _ ys t))
      (ever-before K.s c _ xs (ever_with (Meets K) (Arr n k b) xs fair ev))

  -- ---- refusal 14 and the answer 11 do not come

  unfoldable pub Roomy : ℕ → Steps K → Type 0
  Roomy k xs = (8 ≤ k) ⊎ (length (marks K.s xs) ≤ capacity)

  roomy_down : (k : ℕ) (x : StepOf K) (xs : Steps K) → Roomy k (x ∷ xs) → Roomy k xs
  unfolding Roomy marks
  roomy_down k x xs (inl h) = inl h
  roomy_down k x xs (inr h) = inr (omega (arith, h, length-append (stamped_at K.s (account K.s) x xs) (marks K.s xs)))

  not_eleven : (xs : Steps K) (j : ℕ) (y : Body) (h : Hand) → hand K xs c ≡ h → Roomy (awaits h) xs → Ever (Heard K c j xs y) xs → code_in y ≡ 11 →
      awaits h ≡ 4 → ⊥
  unfolding awaits Roomy
  not_eleven xs j y idle e room ev k a = omega (arith, a)
  not_eleven xs j y (clocking r n m) e room ev k a = omega (arith, a)
  not_eleven xs j y (storing d g) e (inl h) ev k a = omega (arith, h)
  not_eleven xs j y (storing d g) e (inr h) ev k a = omega (arith, h, eleven K c j xs d g e y ev k)
  not_eleven xs j y (completing d) e room ev k a = omega (arith, a)
  not_eleven xs j y (collecting g) e room ev k a = omega (arith, a)
  not_eleven xs j y (filtering cs g) e room ev k a = omega (arith, a)
  not_eleven xs j y (repairing d r) e room ev k a = omega (arith, a)

  -- a correct clock reply is a mark's number
  clock-low : (xs : Steps K) (j : ℕ) (y : Body) (r n : List ℕ) (m : ℕ) → hand K xs c ≡ clocking r n m → Ever (Heard K c j xs y) xs →
      (stamp_in y).number ≤ length (marks K.s xs)
  unfolding act marks
  clock-low xs j y r n m e ev = rise (λ (zs : Steps K). (stamp_in y).number ≤ length (marks K.s zs))
      (λ x zs l. omega (arith, l, length-append (stamped_at K.s (account K.s) x zs) (marks K.s zs))) xs
      (ever-map (Heard K c j xs y) (λ z zs. (stamp_in y).number ≤ length (marks K.s (z ∷ zs))) (λ z zs t.
      let a = at_step K c j xs y (clocking r n m) e z zs t in
      go z zs (ap (λ (σ : Stamp). σ.number) (ap stamp_in a.says)) a.old (latest_known K zs a.old j)) xs ev)
    where
      go : (z : StepOf K) (zs : Steps K) → (stamp_in y).number ≡ (lat K zs j).number → Fair K zs →
          ((srv K zs j).latest ≡ blank_candidate K.s.config) ⊎ Genuine K zs (srv K zs j).latest →
          (stamp_in y).number ≤ length (stamped_at K.s (account K.s) z zs ++ marks K.s zs)
      go z zs q f (inl b) = omega (arith, q, ap (λ (d : Candidate). d.stamp.number) b)
      go z zs q f (inr g) = omega (
        arith,
        q,
        ap (λ (σ : Stamp). σ.number) g.origin.stamp_is,
        mark-small K zs (small K zs f) g.origin.write g.origin.made,
        length-append (stamped_at K.s (account K.s) z zs) (marks K.s zs),
      )

  not-high : (xs : Steps K) → Fair K xs → (j : ℕ) (y : Body) (full : Bool) (h : Hand) → hand K xs c ≡ h → Roomy (awaits h) xs →
      Ever (Heard K c j xs y) xs → too_high K.s.P K.s.writers y full h ≡ true → ⊥
  unfolding too_high awaits Roomy Small Clocked
  not-high xs fair j y full idle e room ev t = clash t refl
  not-high xs fair j y full (clocking r n m) e (inl h) ev t = omega (arith, h)
  not-high xs fair j y full (clocking r n m) e (inr h) ev t =
      let top = leb-true top_number (higher K.s.P K.s.writers m (stamp_in y)) (and_right full _ t) in
      let low = subst (Low (length (marks K.s xs))) e (small K xs fair c).1 in
      omega (arith, top, h, higher-low K (length (marks K.s xs)) m (stamp_in y) low (λ z. clock-low xs j y r n m e ev))
  not-high xs fair j y full (storing d g) e room ev t = clash t refl
  not-high xs fair j y full (completing d) e room ev t = clash t refl
  not-high xs fair j y full (collecting g) e room ev t = clash t refl
  not-high xs fair j y full (filtering cs g) e room ev t = clash t refl
  not-high xs fair j y full (repairing d r) e room ev t = clash t refl

  good-faults : bad_faults K.s.config ≡ false
  good-faults = ap not (within_in 1 top_faults K.s.config.t K.legal.faulty (omega (arith, K.legal.most, K.legal.few)))

  -- refusal 5 does not come: a write in hand is a writer's
  own-client : (xs : Steps K) → 1 ≤ c → c ≤ top_client → bad_client_def (of_write (awaits (hand K xs c))) c ≡ false
  own-client xs low high = go (of_write (awaits (hand K xs c))) refl
    where
      go : (w : Bool) → of_write (awaits (hand K xs c)) ≡ w → bad_client_def w c ≡ false
      go true e = ap not (within_in 1 top_writer c low (hand-writer K.s xs c e))
      go false e = ap not (within_in 1 top_client c low high)

  pub arrived : (xs : Steps K) → Fair K xs → K.correct.client c ≡ true → (b : ℕ) → (n k : ℕ) → n ≡ calls K xs c → k ≡ awaits (hand K xs c) →
      is_idle (hand K xs c) ≡ false → Roomy k xs → Ever (Arr n k b) xs →
      replied K xs c b ≡ true
  unfolding Ever pos begun onto is_idle awaits stage high_at
  arrived [] fair good b n k nq kq busy room ev = absurd ev
  arrived (x ∷ xs) fair good b n k nq kq busy room (inr ev) =
      go (moved K.s c x xs) (λ u v z. arrived xs (past K x xs fair) good b n k u v z (roomy_down k x xs room) ev)
      (too_early xs (past K x xs fair) good n k b ev)
    where
      cl' : Client
      cl' = cli K (x ∷ xs) c

      go : MovedAt K.s c x xs →
          (n ≡ calls K xs c → k ≡ awaits (hand K xs c) → is_idle (hand K xs c) ≡ false → replied K xs c b ≡ true) →
          16 * n + k ≤ pos (cli K xs c) → cl'.marks b ≡ true
      go (kept e _) f low = subst (λ (z : Client). z.marks b ≡ true) (sym e)
          (f (nq ∙ ap (λ (z : Client). z.calls) e) (kq ∙ ap (λ (z : Client). awaits z.hand) e)
          (subst (λ (z : Client). is_idle z.hand ≡ false) e busy))
      go (wbegan r m s a i l e) f low =
          absurd (omega (arith, low, nq, ap (λ (z : Client). z.calls) e, (stage-bound (hand K xs c)).1, ap (λ (z : Client). awaits z.hand) e, kq))
      go (rbegan s a i e) f low = absurd
          (omega (arith, low, nq, ap (λ (z : Client). z.calls) e, (stage-bound (hand K xs c)).1, ap (λ (z : Client). awaits z.hand) e, kq))
      go (quit s a i e) f low = clash refl (subst (λ (z : Client). is_idle z.hand ≡ false) e busy)
      go (took p lent b' o s rd fit e v) f low =
          let t = turn_turned K.s c (cli K xs c) p in
          let cq : cl'.calls ≡ calls K xs c = ap (λ (y : Client). y.calls) e ∙ t.calls in
          let st = next_stage K.s c (hand K xs c) (last_of K xs c) cl'.hand cl'.last
          (subst (λ (y : Client). Next K.s c (hand K xs c) (last_of K xs c) y.hand y.last) (sym e) t.next) in
          let sq : stage (hand K xs c) ≡ stage cl'.hand =
          omega (arith, st.0, low, nq, cq, kq, stage-awaits cl'.hand busy, stage-awaits (hand K xs c) fit.busy) in
          subst (λ (y : Client). y.marks b ≡ true) (sym e)
          ((update_grown K.s c (cli K xs c) p.head.server p.body _ (hand K xs c) fit.busy
          (sq ∙ ap (λ (y : Client). stage y.hand) e)).0 b
          (f (nq ∙ cq) (omega (arith, kq, sq, stage-awaits cl'.hand busy, stage-awaits (hand K xs c) fit.busy)) fit.busy))
  arrived (x ∷ xs) fair good b n k nq kq busy room (inl a) = go (moved K.s c x xs)
    where
      cl' : Client
      cl' = cli K (x ∷ xs) c

      p : Packet
      p = a.packet

      made_by : Ever (MadeBy K (serves p.head.server) p) xs
      made_by = subst (λ (i : ℕ). Ever (MadeBy K (serves i) p) xs) (sym a.server) (sent-made K (serves b) a.reply p a.decoded xs a.sent)

      -- it was let in
      let_in : (q : Packet) (lent : Lent) (b' o : List ℕ) → x.step ≡ take-reply c lent b' o → decode b' ≡ some q → Fits K.s c (cli K xs c) q →
          cl' ≡ (turn K.s c (cli K xs c) q).client → cl'.marks b ≡ true
      let_in q lent b' o s rd fit e =
          let same_bytes : b' ≡ a.reply = take_inj (sym s ∙ a.step) in
          let pq : q ≡ p = some-injective _ _ (sym rd ∙ ap decode same_bytes ∙ a.decoded) in
          let ev : Ever (Heard K c q.head.server xs q.body) xs =
          heard K c xs (past K x xs fair) q good fit.mine fit.call fit.busy fit.kind
          (subst (λ (z : Packet). Ever (MadeBy K (serves z.head.server) z) xs) (sym pq) made_by) in
          let kk : k ≡ awaits (hand K xs c) = sym a.kind ∙ ap (λ (z : Packet). kind_of z.body) (sym pq) ∙ fit.kind in
          let sq : stage (hand K xs c) ≡ stage cl'.hand =
          omega (arith, kk, kq, stage-awaits cl'.hand busy, stage-awaits (hand K xs c) fit.busy) in
          subst (λ (y : Client). y.marks b ≡ true) (sym e)
          (subst (λ (i : ℕ). (turn K.s c (cli K xs c) q).client.marks i ≡ true) (ap (λ (z : Packet). z.head.server) pq ∙ a.server)
          ((update_grown K.s c (cli K xs c) q.head.server q.body _ (hand K xs c) fit.busy
          (sq ∙ ap (λ (y : Client). stage y.hand) e)).1
          (not_eleven xs q.head.server q.body (hand K xs c) refl (subst (λ (i : ℕ). Roomy i xs) kk (roomy_down k x xs room)) ev)))
        where
          take_inj : {l l' : Lent} {u v u' v' : List ℕ} → take-reply c l u v ≡ take-reply c l' u' v' → u ≡ u'
          take_inj e = cc

      -- it was turned down: its server had replied
      turned_down : cl' ≡ cli K xs c → accepted (result K x xs) ≡ false → cl'.marks b ≡ true
      turned_down e down =
          let hq : hand K (x ∷ xs) c ≡ hand K xs c = ap (λ (z : Client). z.hand) e in
          let busy' : is_idle (hand K xs c) ≡ false = subst (λ (z : Hand). is_idle z ≡ false) hq busy in
          let call : p.head.call ≡ calls K xs c = a.call ∙ nq ∙ ap (λ (z : Client). z.calls) e in
          let kind : kind_of p.body ≡ awaits (hand K xs c) = a.kind ∙ kq ∙ ap awaits hq in
          let ev = heard K c xs (past K x xs fair) p good a.client call busy' kind made_by in
          let room' : Roomy (awaits (hand K xs c)) xs = subst (λ (i : ℕ). Roomy i xs) (kq ∙ ap awaits hq) (roomy_down k x xs room) in
          let same-t : p.head.t ≡ K.s.config.t = told-t in let rg = K.parties.clients c good in
          let res = result_is K.s c x xs a.lent a.reply a.output p a.step a.decoded in
          code-cases (code K.s c (cli K xs c) p (length a.output)) (replied K xs c p.head.server)
          (high_at K.s.P K.s.config c K.s.writers K.s.keys (cli K xs c) p.head.server p.body)
          (ltb (length a.output) content_room)
          (code_is K.s c (cli K xs c) p (length a.output) good-faults (own-client xs rg.0 rg.1) same-t a.client busy' call kind)
          (λ u. subst (λ (z : Client). z.marks b ≡ true) (sym e) (subst (λ (i : ℕ). replied K xs c i ≡ true) a.server u))
          (λ u. absurd (not-high xs (past K x xs fair) p.head.server p.body
          (is_full_def K.s.config (upd (replied K xs c) p.head.server true)) (hand K xs c) refl room' ev u))
          (λ u. clash a.came (fifteen (turn K.s c (cli K xs c) p) (code K.s c (cli K xs c) p (length a.output)) res u))
          (λ u. clash (through (code K.s c (cli K xs c) p (length a.output)) res u) down)
        where
          told-t : p.head.t ≡ K.s.config.t
          told-t = ever-out (Told K p) xs (λ y ys t. reply-t p t.behind.ask _ t.behind.reply ∙ t.behind.asked.same-t)
              (reply_source K xs (past K x xs fair) p (subst (λ (i : ℕ). K.correct.client i ≡ true) (sym a.client) good) made_by)

          fifteen : (u : Turn) (v : ℕ) → result K x xs ≡ (on_refusal v u (record { client = cli K xs c; result = refused v })).result → v ≡ 15 →
              came_in (result K x xs) ≡ false
          fifteen u v r z = ap came_in (r ∙ ap (λ (i : ℕ). (on_refusal i u (record { client = cli K xs c; result = refused i })).result) z)

          through : (v : ℕ) → result K x xs ≡ (on_refusal v (turn K.s c (cli K xs c) p)
              (record { client = cli K xs c; result = refused v })).result → v ≡ 0 → accepted (result K x xs) ≡ true
          through v r z = ap accepted (r ∙ ap
              (λ (i : ℕ). (on_refusal i (turn K.s c (cli K xs c) p) (record { client = cli K xs c; result = refused i })).result) z)
              ∙ (turn_turned K.s c (cli K xs c) p).fine

      go : MovedAt K.s c x xs → cl'.marks b ≡ true
      go (kept e f) = turned_down e (f (ap (acting c) a.step ∙ eq-eqb c c refl))
      go (wbegan r m s z i l e) = absurd (let s' = sym s ∙ a.step in let y : ◌≡◌ {A = ℕ} 0 1 = cc in omega arith)
      go (rbegan s z i e) = absurd (let s' = sym s ∙ a.step in let y : ◌≡◌ {A = ℕ} 0 1 = cc in omega arith)
      go (quit s z i e) = absurd (let s' = sym s ∙ a.step in let y : ◌≡◌ {A = ℕ} 0 1 = cc in omega arith)
      go (took q lent b' o s rd fit e v) = let_in q lent b' o s rd fit e
