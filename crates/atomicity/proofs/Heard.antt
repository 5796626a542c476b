-- What only rises along a run; and that a correct server's reply to the round in hand was given in this very round, on the request of this
-- hand. So what such a reply says was true of that server after the call and the round began: late replies, replays and disorder do no harm.
-- Assumes nothing.
use mathlib.Core.Path.{◌≡◌, refl, sym, ap, ◌∙◌, subst}
use mathlib.Core.Bool.{Bool, true, false, cond}
use mathlib.Core.List.{[], ◌∷◌}
use mathlib.Core.Option.{some}
use Prim.Native.Nat.{ℕ, suc, ◌+◌, ◌*◌}
use native.Mathlib.Omega.{arith}
use lib.Dec.{leb, eqb}
use lib.ListN.{length}
use Rattle.cluster.specs.Ranges.{capacity}
use Rattle.protocol.specs.declared.Stamp.{Stamp}
use Rattle.protocol.specs.Values.{below, is_some}
use Rattle.protocol.specs.Packet.{Body, Packet, kind_of}
use Rattle.protocol.specs.Packet.{clock, clock_reply, store, store_reply, complete, complete_reply, collect, collect_reply, filter, filter_reply, repair}
use Rattle.protocol.specs.Packet.{repair_reply}
use Rattle.protocol.specs.Memory.{lookup}
use Rattle.protocol.specs.Server.{Server, Acted, barred, reply_to, act, on_store_def}
use Rattle.protocol.specs.Client.{Hand, idle, clocking, storing, completing, collecting, filtering, repairing, awaits, is_idle, request, made}
use Rattle.protocol.specs.Client.{accepted}
use Rattle.atomicity.specs.Lists.{Ever, In}
use Rattle.atomicity.specs.Steps.{System, Stamped, makes, serves, packet_in}
use Rattle.atomicity.proofs.Util.{clash, cond_both, ever-map, ever_with, ever-out}
use Rattle.atomicity.proofs.Stamps.{le_trans, below_irrefl}
use Rattle.atomicity.proofs.Model.{acts, marks}
use Rattle.atomicity.proofs.Setup.{Setup, Steps, StepOf, Meets, Fair, Same, same_step, lat, hand, calls, srv, cli, result}
use Rattle.atomicity.proofs.Serving.{making}
use Rattle.atomicity.proofs.Positions.{pos, stage-awaits, since, from, Before, ever-before}
use Rattle.atomicity.proofs.Marks.{marks-up}
use Rattle.atomicity.proofs.Servers.{latest_rises}
use Rattle.atomicity.proofs.Covers.{Covers, covers_up}
use Rattle.atomicity.proofs.Sources.{MadeBy, Told, reply_source}

module _ (K : Setup) where
  -- ---- what lasts

  pub lat-up : (x : StepOf K) (xs : Steps K) (j : ℕ) (a : Stamp) → below (lat K xs j) a ≡ false → below (lat K (x ∷ xs) j) a ≡ false
  lat-up x xs j a h = le_trans a (lat K xs j) (lat K (x ∷ xs) j) h (latest_rises K.s x xs j)

  -- from the moment when the call or the round began
  pub since-up : (c : ℕ) (P : Steps K → Type 0) → ((x : StepOf K) (xs : Steps K) → P xs → P (x ∷ xs)) → (xs : Steps K) → P (since K.s c xs) → P xs
  unfolding since
  since-up c P f [] h = h
  since-up c P f (x ∷ xs) h = f x xs (go (eqb (calls K xs c) (calls K (x ∷ xs) c)) h (λ k. since-up c P f xs k))
    where
      go : (b : Bool) → P (cond b (since K.s c xs) xs) → (P (since K.s c xs) → P xs) → P xs
      go true k r = r k
      go false k r = k

  pub from_up : (c : ℕ) (P : Steps K → Type 0) → ((x : StepOf K) (xs : Steps K) → P xs → P (x ∷ xs)) → (xs : Steps K) → P (from K.s c xs) → P xs
  unfolding from
  from_up c P f [] h = h
  from_up c P f (x ∷ xs) h = go (eqb (pos (cli K xs c)) (pos (cli K (x ∷ xs) c))) h (λ k. from_up c P f xs k)
    where
      go : (b : Bool) → P (cond b (from K.s c xs) (x ∷ xs)) → (P (from K.s c xs) → P xs) → P (x ∷ xs)
      go true k r = f x xs (r k)
      go false k r = k

  pub lat_since : (c : ℕ) (xs : Steps K) (j : ℕ) → below (lat K xs j) (lat K (since K.s c xs) j) ≡ false
  lat_since c xs j = since-up c (λ (zs : Steps K). below (lat K zs j) (lat K (since K.s c xs) j) ≡ false) (λ x zs h. lat-up x zs j _ h) xs
      (below_irrefl _)

  pub covers_from : (c : ℕ) (xs : Steps K) (j : ℕ) (a : Stamp) → Covers K (from K.s c xs) j a ≡ true → Covers K xs j a ≡ true
  covers_from c xs j a h = from_up c (λ (zs : Steps K). Covers K zs j a ≡ true) (λ x zs k. covers_up K x zs j a k) xs h

  pub marks_from : (c : ℕ) (xs : Steps K) (m : Stamped) → In m (marks K.s (from K.s c xs)) → In m (marks K.s xs)
  marks_from c xs m i = from_up c (λ (zs : Steps K). In m (marks K.s zs)) (marks-up K.s m) xs i

  -- the call and the round began in the phase of now
  pub same_since : (c : ℕ) (xs : Steps K) → Same K (since K.s c xs) xs
  same_since c xs = since-up c (Same K (since K.s c xs)) (λ x zs h. h ∙ same_step K x zs) xs refl

  pub same_from : (c : ℕ) (xs : Steps K) → Same K (from K.s c xs) xs
  same_from c xs = from_up c (Same K (from K.s c xs)) (λ x zs h. h ∙ same_step K x zs) xs refl

-- ---- kinds

pub act-kind : (s : System) (j : ℕ) (v : Server) (c : ℕ) (x : Body) → barred c x ≡ false → kind_of (acts s j v x).reply ≡ suc (kind_of x)
unfolding act on_store_def barred
act-kind s j v c clock e = refl
act-kind s j v c (store w) e = cond_both (λ (a : Acted). kind_of a.reply ≡ 4) (is_some (lookup w.stamp v.history)) _ _ refl
    (cond_both (λ (a : Acted). kind_of a.reply ≡ 4) (leb capacity (length v.history)) _ _ refl refl)
act-kind s j v c (complete d) e = refl
act-kind s j v c collect e = refl
act-kind s j v c (filter cs) e = refl
act-kind s j v c (repair d) e = refl
act-kind s j v c (clock_reply x) e = clash refl e
act-kind s j v c (store_reply x) e = clash refl e
act-kind s j v c complete_reply e = clash refl e
act-kind s j v c (collect_reply x) e = clash refl e
act-kind s j v c (filter_reply x) e = clash refl e
act-kind s j v c repair_reply e = clash refl e

pub request-kind : (h : Hand) (b : ℕ) → is_idle h ≡ false → suc (kind_of (request h b)) ≡ awaits h
unfolding awaits is_idle
request-kind idle b e = clash refl e
request-kind (clocking r n k) b e = refl
request-kind (storing d g) b e = refl
request-kind (completing d) b e = refl
request-kind (collecting g) b e = refl
request-kind (filtering cs g) b e = refl
request-kind (repairing d r) b e = refl

module _ (K : Setup) where
  -- y, after ys, is the step of server j that gave the reply x to the round that c has in hand after xs, in that very round
  pub record Heard (c j : ℕ) (xs : Steps K) (x : Body) (y : StepOf K) (ys : Steps K) : Type 0 where
    pub ask : Packet
    pub by : serves j y.step ≡ true
    pub got : packet_in y.step ≡ some ask
    pub body_is : ask.body ≡ request (hand K xs c) j
    pub fine : accepted (result K y ys) ≡ true
    pub says : x ≡ (acts K.s j (srv K ys j) ask.body).reply
    pub after : srv K (y ∷ ys) j ≡ (acts K.s j (srv K ys j) ask.body).server
    pub prem : Meets K y ys
    pub old : Fair K ys
    pub from_is : from K.s c ys ≡ from K.s c xs
    pub since_is : since K.s c ys ≡ since K.s c xs
    -- so who is correct after xs was so then
    pub phase : Same K ys xs

  -- the client's position when it made the request behind a reply
  asked_pos : (p : Packet) (y : StepOf K) (ys : Steps K) (t : Told K p y ys) (z : StepOf K) (zs : Steps K) →
      MadeBy K (makes p.head.client) t.behind.ask z zs →
      (is_idle (hand K zs p.head.client) ≡ false) × (pos (cli K zs p.head.client) ≡ 16 * p.head.call + kind_of p.body)
      × (t.behind.ask.body ≡ request (hand K zs p.head.client) p.head.server)
  unfolding pos made reply_to
  asked_pos p y ys t z zs h =
      let d = p.head.client in
      let a = t.behind in
      let m = making K.s d z zs a.ask h.0 h.2 in
      let bq : a.ask.body ≡ request (hand K zs d) m.to = ap (λ (x : Packet). x.body) m.is in
      let k : kind_of p.body ≡ awaits (hand K zs d) = ap (λ (x : Packet). kind_of x.body) a.reply
      ∙ act-kind K.s p.head.server _ a.ask.head.client a.ask.body a.asked.allowed
      ∙ ap (λ (x : Body). suc (kind_of x)) bq ∙ request-kind (hand K zs d) m.to m.busy in
      let cq : p.head.call ≡ calls K zs d = sym t.same-call ∙ ap (λ (x : Packet). x.head.call) m.is in
      let to_is : m.to ≡ p.head.server = sym (ap (λ (x : Packet). x.head.server) m.is) ∙ a.asked.mine in
      (m.busy, omega (arith, k, cq, stage-awaits (hand K zs d) m.busy), bq ∙ ap (request (hand K zs d)) to_is)

  -- the moment of the request behind a reply
  pub asked_at : (c : ℕ) (p : Packet) (y : StepOf K) (ys : Steps K) → p.head.client ≡ c → Told K p y ys →
      Ever (λ z zs. Before K.s c zs ys × (pos (cli K zs c) ≡ 16 * p.head.call + kind_of p.body)) ys
  asked_at c p y ys mine t = ever-map (λ z zs. MadeBy K (makes p.head.client) t.behind.ask z zs × Before K.s c zs ys) _
      (λ z zs h. (
        h.1,
        subst (λ (i : ℕ). pos (cli K zs i) ≡ 16 * p.head.call + kind_of p.body) mine
            (asked_pos p y ys t z zs h.0).1,
      ))
      ys (ever-before K.s c (MadeBy K (makes p.head.client) t.behind.ask) ys t.source)

  heard_at : (c : ℕ) (xs : Steps K) (p : Packet) → p.head.client ≡ c → p.head.call ≡ calls K xs c → is_idle (hand K xs c) ≡ false →
      kind_of p.body ≡ awaits (hand K xs c) →
      (y : StepOf K) (ys : Steps K) → Meets K y ys → Fair K ys → Told K p y ys → Before K.s c ys xs → Heard c p.head.server xs p.body y ys
  unfolding pos reply_to
  heard_at c xs p mine call busy kind y ys prem old t bef = ever-out _ ys
      (λ z zs h.
      let a = t.behind in
      let q = asked_pos p y ys t z zs h.0 in
      let here : pos (cli K zs c) ≡ pos (cli K xs c) =
      subst (λ (i : ℕ). pos (cli K zs i) ≡ pos (cli K xs c)) mine
      (omega (arith, q.1, call, kind, stage-awaits (hand K xs c) busy)) in
      let e1 = h.1.round (omega (arith, here, h.1.low, bef.low)) in
      let e2 = bef.round (omega (arith, here, h.1.low, bef.low)) in
      record {
        ask = a.ask;
        by = t.by;
        got = a.got;
        body_is = q.2 ∙ ap (λ (i : ℕ). request (hand K zs i) p.head.server) mine ∙ e1.2 p.head.server ∙ e2.2 p.head.server;
        fine = a.fine;
        says = ap (λ (x : Packet). x.body) a.reply;
        after = a.after;
        prem = prem;
        old = old;
        from_is = e2.0;
        since_is = e2.1;
        phase = sym (same_from K c ys) ∙ subst (λ (z : Steps K). Same K z xs) (sym e2.0) (same_from K c xs);
      })
      (ever-before K.s c (MadeBy K (makes p.head.client) t.behind.ask) ys t.source)

  pub heard : (c : ℕ) (xs : Steps K) → Fair K xs → (p : Packet) → K.correct.client c ≡ true → p.head.client ≡ c → p.head.call ≡ calls K xs c →
      is_idle (hand K xs c) ≡ false → kind_of p.body ≡ awaits (hand K xs c) → Ever (MadeBy K (serves p.head.server) p) xs →
      Ever (Heard c p.head.server xs p.body) xs
  heard c xs fair p good mine call busy kind ev =
      let t = reply_source K xs fair p (subst (λ (i : ℕ). K.correct.client i ≡ true) (sym mine) good) ev in
      let u = ever_with (Meets K) (Told K p) xs fair t in
      ever-map _ _ (λ y ys h. heard_at c xs p mine call busy kind y ys h.0.0 h.0.1 h.0.2 h.1) xs (ever-before K.s c _ xs u)
