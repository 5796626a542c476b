-- Where packets come from: a request of a correct client was made by it, a reply of a correct server was given by it on a request that the
-- client had made. It holds by the premise on channels and because bytes that were sent are read back as they were sent.
-- Assumes nothing.
use mathlib.Core.Path.{◌≡◌, refl, sym, ap, ◌∙◌, subst}
use mathlib.Core.Bool.{Bool, true, false, not}
use mathlib.Core.List.{List}
use mathlib.Core.Option.{some}
use Prim.Native.Nat.{ℕ, ◌≤◌}
use native.Mathlib.Omega.{arith}
use lib.Dec.{ltb, eqb}
use borrow.Author.Tests.{eqb-true, ltb-false}
use Rattle.cluster.specs.Ranges.{top_writer}
use Rattle.cluster.proofs.Tests.{or_none}
use Rattle.protocol.specs.Values.{Candidate, Share, Write}
use Rattle.protocol.specs.Packet.{Body, Packet, kind_of, decode}
use Rattle.protocol.specs.Packet.{clock, clock_reply, store, store_reply, complete, complete_reply, collect, collect_reply, filter, filter_reply, repair}
use Rattle.protocol.specs.Packet.{repair_reply}
use Rattle.protocol.specs.Rules.{ByServer}
use Rattle.protocol.specs.Server.{barred, reply_to}
use Rattle.protocol.specs.Client.{Hand, idle, clocking, storing, completing, collecting, filtering, repairing, request, accepted}
use Rattle.runs.specs.Runs.{Step, write, read, make, take-reply, give-up, serve, sent_of}
use Rattle.atomicity.specs.Lists.{Ever}
use Rattle.atomicity.specs.Steps.{bytes_in, packet_in, makes, serves}
use Rattle.atomicity.specs.Premises.{Authentic, PartyOf, odd}
use Rattle.atomicity.proofs.Util.{clash, ever-map, ever_with}
use Rattle.atomicity.proofs.Model.{account}
use Rattle.atomicity.proofs.Setup.{Setup, Steps, StepOf, Meets, Fair, right, result, sent}
use Rattle.atomicity.proofs.Serving.{Asked, answer, BehindAt}

-- ---- shapes of steps

pub serve_shape : (j : ℕ) (x : Step) → serves j x ≡ true → (b : List ℕ) × (o : List ℕ) × (x ≡ serve j b o)
serve_shape j (write c r n) e = clash e refl
serve_shape j (read c) e = clash e refl
serve_shape j (make c b o) e = clash e refl
serve_shape j (take-reply c lent b o) e = clash e refl
serve_shape j (give-up c) e = clash e refl
serve_shape j (serve i b o) e = (b, o, ap (λ (k : ℕ). serve k b o) (sym (eqb-true j i e)))

-- what is let in is a request
pub asked-odd : (c : ℕ) (x : Body) → barred c x ≡ false → odd (kind_of x) ≡ true
unfolding barred
asked-odd c clock e = refl
asked-odd c (store w) e = refl
asked-odd c (complete d) e = refl
asked-odd c collect e = refl
asked-odd c (filter cs) e = refl
asked-odd c (repair d) e = refl
asked-odd c (clock_reply x) e = clash refl e
asked-odd c (store_reply x) e = clash refl e
asked-odd c complete_reply e = clash refl e
asked-odd c (collect_reply x) e = clash refl e
asked-odd c (filter_reply x) e = clash refl e
asked-odd c repair_reply e = clash refl e

-- a store or a complete that is let in is from a writer
pub store-writer : (c : ℕ) (w : Write) → barred c (store w) ≡ false → c ≤ top_writer
unfolding barred
store-writer c w h = ltb-false top_writer c (or_none (ltb top_writer c) (not (eqb w.stamp.writer c)) h).0

pub complete-writer : (c : ℕ) (d : Candidate) → barred c (complete d) ≡ false → c ≤ top_writer
unfolding barred
complete-writer c d h = ltb-false top_writer c (or_none (ltb top_writer c) (not (eqb d.stamp.writer c)) h).0

-- ---- requests by hands

pub store-made : (h : Hand) (b : ℕ) (w : Write) → request h b ≡ store w → (d : Candidate) × (g : ByServer Share) × (h ≡ storing d g)
    × (w ≡ record { stamp = d.stamp; share = g b })
store-made idle b w q = absurd (let z : ◌≡◌ {A = ℕ} 0 1 = cc in omega arith)
store-made (clocking r n k) b w q = absurd (let z : ◌≡◌ {A = ℕ} 0 1 = cc in omega arith)
store-made (storing d g) b w q = (d, g, refl, let z : w ≡ record { stamp = d.stamp; share = g b } = cc in z)
store-made (completing d) b w q = absurd (let z : ◌≡◌ {A = ℕ} 0 1 = cc in omega arith)
store-made (collecting g) b w q = absurd (let z : ◌≡◌ {A = ℕ} 0 1 = cc in omega arith)
store-made (filtering cs g) b w q = absurd (let z : ◌≡◌ {A = ℕ} 0 1 = cc in omega arith)
store-made (repairing d r) b w q = absurd (let z : ◌≡◌ {A = ℕ} 0 1 = cc in omega arith)

pub complete-made : (h : Hand) (b : ℕ) (c : Candidate) → request h b ≡ complete c → h ≡ completing c
complete-made idle b w q = absurd (let z : ◌≡◌ {A = ℕ} 0 1 = cc in omega arith)
complete-made (clocking r n k) b w q = absurd (let z : ◌≡◌ {A = ℕ} 0 1 = cc in omega arith)
complete-made (storing d g) b w q = absurd (let z : ◌≡◌ {A = ℕ} 0 1 = cc in omega arith)
complete-made (completing d) b w q = cc
complete-made (collecting g) b w q = absurd (let z : ◌≡◌ {A = ℕ} 0 1 = cc in omega arith)
complete-made (filtering cs g) b w q = absurd (let z : ◌≡◌ {A = ℕ} 0 1 = cc in omega arith)
complete-made (repairing d r) b w q = absurd (let z : ◌≡◌ {A = ℕ} 0 1 = cc in omega arith)

module _ (K : Setup) where
  -- such a step sent p
  abbrev pub MadeBy : (Step → Bool) → Packet → StepOf K → Steps K → Type 0
  MadeBy who p y ys = (who y.step ≡ true) × (decode (sent_of (sent K y ys)) ≡ some p)
      × (sent K y ys ≡ some p)

  pub sent-made : (who : Step → Bool) (b : List ℕ) (p : Packet) → decode b ≡ some p → (xs : Steps K) →
      Ever (λ (y : StepOf K) ys. (who y.step ≡ true) × ((account K.s).sent y ys ≡ b)) xs → Ever (MadeBy who p) xs
  sent-made who b p d xs e = ever-map _ (MadeBy who p) (λ y ys h. let q = ap decode h.1 ∙ d in (h.0, q, K.laws.reads y ys p q)) xs e

  -- a correct party's packet was made by it: a request by its client, a reply by its server
  pub made_by : (x : StepOf K) (xs : Steps K) → Meets K x xs → (p : Packet) → packet_in x.step ≡ some p →
      accepted (result K x xs) ≡ true →
      (odd (kind_of p.body) ≡ true → K.correct.client p.head.client ≡ true → Ever (MadeBy (makes p.head.client) p) xs)
      × (odd (kind_of p.body) ≡ false → right K xs p.head.server ≡ true → Ever (MadeBy (serves p.head.server) p) xs)
  unfolding Authentic right
  made_by x xs prem p e f = let a = prem.authentic p e f in let b = bytes_in x.step in
      (λ o c. sent-made (makes p.head.client) b p e xs (a.0 o c), λ o c. sent-made (serves p.head.server) b p e xs (a.1 o c))

  -- a server that steps is correct, and one of the shelf
  pub server_correct : (x : StepOf K) (xs : Steps K) → Meets K x xs → (j : ℕ) → serves j x.step ≡ true → right K xs j ≡ true
  unfolding right
  server_correct x xs prem j e = let h = serve_shape j x.step e in
      subst (λ (y : Step). PartyOf K.s (account K.s) K.correct xs y) h.2 prem.party

  -- a writer's packet was made by it
  pub writer-made : (x : StepOf K) (xs : Steps K) → Meets K x xs → (j : ℕ) (p : Packet) → packet_in x.step ≡ some p → Asked K.s j p →
      accepted (result K x xs) ≡ true →
      p.head.client ≤ top_writer → Ever (MadeBy (makes p.head.client) p) xs
  writer-made x xs prem j p e a f l = (made_by x xs prem p e f).0 (asked-odd p.head.client p.body a.allowed)
      (K.parties.writers p.head.client (K.laws.heads (bytes_in x.step) p e a.same-t).0 l)

  -- ---- replies

  -- y, after ys, is the step of a server that gave the packet p, on a request that the client had made
  pub record Told (p : Packet) (y : StepOf K) (ys : Steps K) : Type 0 where
    pub by : serves p.head.server y.step ≡ true
    pub behind : BehindAt K.s p.head.server y ys p
    pub same-call : behind.ask.head.call ≡ p.head.call
    pub source : Ever (MadeBy (makes p.head.client) behind.ask) ys

  told_at : (p : Packet) → K.correct.client p.head.client ≡ true → (y : StepOf K) (ys : Steps K) → Meets K y ys →
      MadeBy (serves p.head.server) p y ys → Told p y ys
  unfolding reply_to
  told_at p c y ys prem m =
      let a = answer K.s p.head.server y ys p m.0 m.2 in
      let mine : a.ask.head.client ≡ p.head.client = sym (ap (λ (q : Packet). q.head.client) a.reply) in
      record {
        by = m.0;
        behind = a;
        same-call = sym (ap (λ (q : Packet). q.head.call) a.reply);
        source = subst (λ (i : ℕ). Ever (MadeBy (makes i) a.ask) ys) mine
            ((made_by y ys prem a.ask a.got a.fine).0 (asked-odd a.ask.head.client a.ask.body a.asked.allowed)
            (subst (λ (i : ℕ). K.correct.client i ≡ true) (sym mine) c));
      }

  pub reply_source : (xs : Steps K) → Fair K xs → (p : Packet) → K.correct.client p.head.client ≡ true →
      Ever (MadeBy (serves p.head.server) p) xs → Ever (Told p) xs
  reply_source xs h p c m = ever-map (λ y ys. Meets K y ys × Fair K ys × MadeBy (serves p.head.server) p y ys) (Told p)
      (λ y ys t. told_at p c y ys t.0 t.2) xs (ever_with (Meets K) (MadeBy (serves p.head.server) p) xs h m)
