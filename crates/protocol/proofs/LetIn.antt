-- What a reply that a client lets in is known by, and a packet's server.
-- By the order of the refusals. Nothing is assumed.
use mathlib.Core.Path.{◌≡◌, refl, sym, ap, ◌∙◌}
use mathlib.Core.Bool.{Bool, true, false, cond, not, ◌&&◌, ◌||◌, true≢false}
use mathlib.Core.List.{List}
use mathlib.Core.Option.{none, some}
use Prim.Native.Nat.{ℕ, zero, suc, ◌≤◌}
use native.Mathlib.Omega.{arith}
use lib.Dec.{leb, ltb, eqb, lit<}
use borrow.Author.Tests.{eqb-true, leb-true, not-false, ne_eqb}
use Rattle.cluster.specs.Config.{Config, shelf}
use Rattle.cluster.specs.Ranges.{within, top_writer, top_client, top_number, top_length}
use Rattle.cluster.proofs.Tests.{untrue, and_both, or_none, and-rest, within_in, within_bounds, inside, passes}
use Rattle.protocol.specs.declared.Call.{Call}
use Rattle.format.specs.Format.{via, seq, such, byte}
use Rattle.protocol.specs.Packet.{Body, Packet, PacketOk, packet_f, head_f, kind_of}
use Rattle.protocol.specs.Primitives.{Primitives}
use Rattle.protocol.specs.Rules.{ByServer}
use Rattle.protocol.specs.Client.{too_high, higher, stamp_in, bad_faults, bad_client_def, of_write, take_refusal, write_refusal_def, read_refusal_def}
use Rattle.protocol.specs.View.{hand_of}
use Rattle.protocol.proofs.ClientLift.{past, hand_past}

-- ---- refusals

-- a client that 5 does not refuse
pub client_range : (writing : Bool) (client : ℕ) → bad_client_def writing client ≡ false → (1 ≤ client) × (client ≤ top_client)
client_range true client e = let r = inside 1 top_writer client e in (r.0, omega (arith, r.1))
client_range false client e = inside 1 top_client client e

-- no call is for a client outside 1 to 16
pub no-client : (writing : Bool) (client : ℕ) → within 1 top_client client ≡ false → bad_client_def writing client ≡ true
no-client true client h =
    let q : within 1 top_writer client ≡ false = untrue (within 1 top_writer client) (λ e.
    let r = within_bounds 1 top_writer client e in true≢false (sym (within_in 1 top_client client r.0 (omega (arith, r.1))) ∙ h)) in
    ap not q
no-client false client h = ap not h

module _ (s : Config) (client : ℕ) (p : Packet) (calls kind : ℕ) (replied : ByServer Bool) where
  -- the tests of 8 and of 12
  abbrev foreign : Bool
  foreign = not (eqb p.head.t s.t && eqb p.head.client client)

  abbrev late : Bool
  late = not (eqb kind 0) && (not (eqb p.head.call calls && eqb (kind_of p.body) kind) || replied p.head.server)

  own-t : foreign ≡ false → p.head.t ≡ s.t
  own-t e = eqb-true p.head.t s.t (and_both _ _ (not-false (eqb p.head.t s.t && eqb p.head.client client) e)).0

  new-server : late ≡ false → eqb kind 0 ≡ false → replied p.head.server ≡ false
  new-server e i =
      (or_none (not (eqb p.head.call calls && eqb (kind_of p.body) kind)) (replied p.head.server)
      (and-rest (not (eqb kind 0)) _ (ap not i) e)).1

  same_kind : late ≡ false → eqb kind 0 ≡ false → kind_of p.body ≡ kind
  same_kind e i =
      let n = (or_none (not (eqb p.head.call calls && eqb (kind_of p.body) kind)) (replied p.head.server)
      (and-rest (not (eqb kind 0)) _ (ap not i) e)).0 in
      eqb-true (kind_of p.body) kind
      (and_both (eqb p.head.call calls) (eqb (kind_of p.body) kind) (not-false (eqb p.head.call calls && eqb (kind_of p.body) kind) n)).1

  -- what a packet that is let in is known by
  pub record LetIn (high : ℕ → Body → Bool) : Type 0 where
    pub faults : bad_faults s ≡ false
    pub kind_is : kind_of p.body ≡ kind
    pub same-t : p.head.t ≡ s.t
    pub pending : eqb kind 0 ≡ false
    pub new : replied p.head.server ≡ false
    pub low : high p.head.server p.body ≡ false

  pub let_in : (high : ℕ → Body → Bool) (room : ℕ) → take_refusal s client (some p) calls kind replied high room ≡ 0 → LetIn high
  unfolding take_refusal
  let_in high room e =
      let (a, e5) = passes (bad_faults s) 2 _ e in
      let (b, e8) = passes (bad_client_def (of_write kind) client) 4 _ e5 in
      let (own, e12) = passes foreign 7 _ e8 in
      let (l, e13) = passes late 11 _ e12 in
      let (i, e14) = passes (eqb kind 0) 12 _ e13 in
      let (g, e15) = passes (high p.head.server p.body) 13 _ e14 in
      record { faults = a; kind_is = same_kind l i; same-t = own-t own; pending = i; new = new-server l i; low = g }

-- what is no packet is refused
pub not_none : (s : Config) (client calls kind : ℕ) (replied : ByServer Bool) (high : ℕ → Body → Bool) (room : ℕ)
    → take_refusal s client none calls kind replied high room ≡ 0 → ⊥
unfolding take_refusal
not_none s client calls kind replied high room e =
    let (a, e5) = passes (bad_faults s) 2 _ e in
    let (b, e7) = passes (bad_client_def (of_write kind) client) 4 _ e5 in
    let z : ◌≡◌ {A = ℕ} 7 0 = e7 in
    omega arith

-- only clock can pass the highest number
pub high_is : (P : Primitives) (writers : List ℕ) (s : Config) (r : ℕ) (c : Call) (kept : List ℕ) (x : Body) (full : Bool)
    → too_high P writers x full (hand_of s r c kept) ≡ (eqb r 1 && (full && leb top_number (higher P writers c.high (stamp_in x))))
unfolding too_high hand_of
high_is P writers s zero c kept x full = refl
high_is P writers s (suc zero) c kept x full = refl
high_is P writers s (suc (suc zero)) c kept x full = refl
high_is P writers s (suc (suc (suc zero))) c kept x full = refl
high_is P writers s (suc (suc (suc (suc zero)))) c kept x full = refl
high_is P writers s (suc (suc (suc (suc (suc zero))))) c kept x full = refl
high_is P writers s (suc (suc (suc (suc (suc (suc zero)))))) c kept x full = refl
high_is P writers s (suc (suc (suc (suc (suc (suc (suc n))))))) c kept x full =
    ap (too_high P writers x full) (unfold hand_of in hand_past s n c kept) ∙ rw (past n 1 (lit< tt))

-- a packet's server is one of its shelf
pub server_range : (p : Packet) → PacketOk p → (1 ≤ p.head.server) × (p.head.server ≤ (shelf p.head.t).servers)
unfolding PacketOk packet_f head_f such via seq byte
server_range p h = (h.0.1.1.1.0.0, leb-true _ _ h.0.0)

pub shelf-t : (t : ℕ) → (shelf t).t ≡ t
unfolding shelf
shelf-t t = refl

-- a call begins where none is in hand
pub write-idle : (s : Config) (client n : ℕ) (pending : Bool) (calls : ℕ) → write_refusal_def s client n pending calls ≡ 0 → pending ≡ false
unfolding write_refusal_def
write-idle s client n pending calls e =
    let (a, e5) = passes (bad_faults s) 2 _ e in
    let (w, e6) = passes (bad_client_def true client) 4 _ e5 in
    let (z, e13) = passes (ltb top_length n) 5 _ e6 in
    (passes pending 12 _ e13).0

pub read-idle : (s : Config) (client : ℕ) (pending : Bool) (calls : ℕ) → read_refusal_def s client pending calls ≡ 0 → pending ≡ false
unfolding read_refusal_def
read-idle s client pending calls e =
    let (a, e5) = passes (bad_faults s) 2 _ e in
    let (w, e13) = passes (bad_client_def false client) 4 _ e5 in
    (passes pending 12 _ e13).0

pub other-round : (r k : ℕ) → within 1 6 r ≡ false → within 1 6 k ≡ true → eqb r k ≡ false
other-round r k out inside = ne_eqb r k (λ e. true≢false (sym inside ∙ ap (within 1 6) (sym e) ∙ out))

pub either : {A : Type 0} (b : Bool) (x : A) → cond b x x ≡ x
either true x = refl
either false x = refl
