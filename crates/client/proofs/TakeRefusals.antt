-- When a well-formed packet is refused, and with which number: the tests of its head come first, then clock's number and the output's room.
-- Each is the ordered list of tests with the known ones put in. Assumes nothing.
use mathlib.Core.Path.{◌≡◌, refl, sym, ap, ◌∙◌}
use mathlib.Core.Bool.{Bool, true, false, cond, not, ◌&&◌, ◌||◌, true≢false}
use mathlib.Core.List.{List}
use mathlib.Core.Option.{some}
use Prim.Native.Nat.{ℕ}
use native.Mathlib.Omega.{arith}
use lib.Dec.{leb, ltb, eqb}
use lib.ListN.{length}
use borrow.Author.Tests.{eqb-true, eq-eqb, ne_eqb, not-false}
use Rattle.cluster.specs.Config.{shelf}
use Rattle.cluster.specs.Ranges.{top_number, content_room}
use Rattle.cluster.proofs.Tests.{and_both, passes, refused_is, accepted_is}
use Rattle.protocol.specs.declared.Call.{Call}
use Rattle.protocol.specs.declared.Head.{Head}
use Rattle.protocol.specs.Answers.{refused_answer}
use Rattle.protocol.specs.Packet.{Body, Packet, kind_of}
use Rattle.protocol.specs.Primitives.{real}
use Rattle.protocol.specs.Rules.{ByServer}
use Rattle.protocol.specs.Client.{bad_faults, bad_client_def, of_write, take_refusal, higher, stamp_in}
use Rattle.protocol.specs.View.{marked}
use Rattle.protocol.specs.ClientBytes.{Took, awaited}
use Rattle.client.specs.Rounds.{took, take_in_def, take_on, high_in, ends}
use Rattle.client.specs.Steps.{foreign, other, reply_refusal_def}

-- a number that the first three tests give is the whole list's, and with 0 the rest of the list decides
early : (a b c : Bool) (x m : ℕ) → m ≡ cond a 8 (cond b 12 (cond c 13 0)) → (m ≡ 0 → ⊥) → cond a 8 (cond b 12 (cond c 13 x)) ≡ m
early true b c x m e h = sym e
early false true c x m e h = sym e
early false false true x m e h = sym e
early false false false x m e h = absurd (h e)

rest : (a b c : Bool) (x : ℕ) → ◌≡◌ {A = ℕ} (cond a 8 (cond b 12 (cond c 13 0))) 0 → cond a 8 (cond b 12 (cond c 13 x)) ≡ x
rest true b c x e = let z : ⊥ = omega arith in absurd z
rest false true c x e = let z : ⊥ = omega arith in absurd z
rest false false true x e = let z : ⊥ = omega arith in absurd z
rest false false false x e = refl

left_off : (a b : Bool) → (not a || b) ≡ false → a ≡ true
left_off true b e = refl
left_off false b e = absurd (true≢false e)

-- what a head that no test refuses tells
pub record Awaited (t client : ℕ) (c : Call) (h : Head) : Type 0 where
  pub of_shelf : h.t ≡ t
  pub of_kind : h.kind ≡ awaited c
  pub pending : eqb (awaited c) 0 ≡ false

pub awaited-reply : (t client : ℕ) (c : Call) (h : Head) → reply_refusal_def t client c h ≡ 0 → Awaited t client c h
unfolding reply_refusal_def
awaited-reply t client c h e =
    let p₁ = passes (foreign t client h) 7 _ e in
    let p₂ = passes (not (eqb (awaited c) 0) && other c (awaited c) h) 11 _ p₁.1 in
    let p₃ = passes (eqb (awaited c) 0) 12 _ p₂.1 in
    let f = and_both (eqb h.t t) (eqb h.client client) (not-false (eqb h.t t && eqb h.client client) p₁.0) in
    let o : other c (awaited c) h ≡ false = rw p₃.0 at p₂.0 in
    let k = and_both (eqb h.call c.number) (eqb h.kind (awaited c)) (left_off (eqb h.call c.number && eqb h.kind (awaited c))
    (marked c.tally.marks h.server) o) in
    record { of_shelf = eqb-true h.t t f.0; of_kind = eqb-true h.kind (awaited c) k.1; pending = p₃.0 }

module _ (t client : ℕ) (writers : List ℕ) (keys : ByServer (List ℕ)) (c : Call) (kept output : List ℕ) (h : Head) (x : Body) where
  abbrev packet : Packet
  packet = record { head = h; body = x }

  abbrev high : ℕ → Body → Bool
  high = high_in real (shelf t) client writers keys c kept output

  abbrev number : ℕ
  number = take_refusal (shelf t) client (some packet) c.number (awaited c) (marked c.tally.marks) high (length output)

  abbrev outcome : Took
  outcome = take_in_def real (shelf t) client writers keys c kept output (some packet)

  abbrev refused_with_def : ℕ → Took
  refused_with_def n = record { answer = refused_answer n; call = c; kept = kept; output = output }

  module _ (faults : bad_faults (shelf t) ≡ false) (reader : bad_client_def (of_write (awaited c)) client ≡ false) (kind : kind_of x ≡ h.kind) where
    list : number
        ≡ cond (foreign t client h) 8 (cond (not (eqb (awaited c) 0) && other c (awaited c) h) 12 (cond (eqb (awaited c) 0) 13
        (cond (high h.server x) 14 (cond (ltb (length output) content_room) 15 0))))
    unfolding take_refusal shelf
    list = rw (faults, reader, kind)

    pub head-refused : (m : ℕ) → m ≡ reply_refusal_def t client c h → (m ≡ 0 → ⊥) → outcome ≡ refused_with_def m
    unfolding take_in_def took reply_refusal_def
    head-refused m e ne =
        let q : number ≡ m = list ∙ early (foreign t client h) (not (eqb (awaited c) 0) && other c (awaited c) h) (eqb (awaited c) 0) _ m e ne in
        refused_is number _ _ (λ z. ne (sym q ∙ z)) ∙ ap refused_with_def q

    module _ (ready : reply_refusal_def t client c h ≡ 0) where
      rest-number : number ≡ cond (high h.server x) 14 (cond (ltb (length output) content_room) 15 0)
      unfolding reply_refusal_def
      rest-number = list ∙ rest (foreign t client h) (not (eqb (awaited c) 0) && other c (awaited c) h) (eqb (awaited c) 0) _ ready

      pub high-refused : high h.server x ≡ true → outcome ≡ refused_with_def 14
      unfolding take_in_def took
      high-refused e = let q : number ≡ 14 = rest-number ∙ rw e in refused_is number _ _ (λ z. (let y : ⊥ = omega (arith, q, z) in y)) ∙ ap
          refused_with_def q

      pub short-refused : high h.server x ≡ false → ltb (length output) content_room ≡ true → outcome ≡ refused_with_def 15
      unfolding take_in_def took
      short-refused e l = let q : number ≡ 15 = rest-number ∙ rw (e, l) in refused_is number _ _ (λ z. (let y : ⊥ = omega (arith, q, z) in y)) ∙ ap
          refused_with_def q

      pub taken-reply : high h.server x ≡ false → ltb (length output) content_room ≡ false
          → outcome ≡ take_on real (shelf t) client writers keys c kept output c.tally.round (some packet)
      unfolding take_in_def
      taken-reply e l = let q : number ≡ 0 = rest-number ∙ rw (e, l) in accepted_is number _ _ q

  -- only clock has a number that can be too high
  pub never-high : (c.tally.round ≡ 1 → ⊥) → high h.server x ≡ false
  unfolding high_in
  never-high ne = rw (ne_eqb c.tally.round 1 ne)

  pub clock-high : c.tally.round ≡ 1 → high h.server x ≡ (ends (shelf t) c h.server
      && leb top_number (higher real writers c.high (stamp_in x)))
  unfolding high_in
  clock-high e = rw (eq-eqb c.tally.round 1 e)
