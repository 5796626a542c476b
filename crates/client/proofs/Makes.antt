-- What making a packet does in each of its cases: kept bytes of another length, a refusal, or the round's packet; and what an accepted one tells of
-- its arguments. Each is the definition with the case's tests put in. Assumes nothing.
use mathlib.Core.Path.{◌≡◌, sym, ap, ◌∙◌}
use mathlib.Core.Bool.{true, not}
use mathlib.Core.List.{List}
use Prim.Native.Nat.{ℕ, ◌≤◌}
use lib.Dec.{ltb, eqb}
use lib.ListN.{length}
use borrow.Author.Tests.{eq-eqb, ne_eqb, ltb-false}
use Rattle.cluster.specs.Config.{shelf}
use Rattle.cluster.specs.Ranges.{within, top_faults, top_client, packet_room}
use Rattle.cluster.specs.Refusals.{wrong_size}
use Rattle.cluster.proofs.Tests.{inside, passes, refused_is}
use Rattle.protocol.specs.declared.Call.{Call}
use Rattle.protocol.specs.Packet.{encode}
use Rattle.protocol.specs.Client.{bad_faults, bad_client_def, of_write, make_refusal_def, made}
use Rattle.protocol.specs.ClientBytes.{in_hand, awaited, client_make}
use Rattle.protocol.proofs.LetIn.{client_range}
use Rattle.protocol.proofs.ClientLift.{busy_is}
use Rattle.client.specs.Rounds.{make_by_rounds}
use Rattle.client.proofs.StepsSame.{same_make}
use Rattle.protocol.specs.View.{kept_size, view}
use Rattle.client.specs.Core.{core_make}
use Rattle.client.specs.Steps.{whole_packet}

module _ (t client b : ℕ) (c : Call) (kept output : List ℕ) where
  abbrev no : ℕ
  no = make_refusal_def (shelf t) client b (awaited c) (length output)

  pub make_short : (length kept ≡ kept_size → ⊥) → core_make t client b c kept output ≡ record
      { result = record { number = wrong_size; count = 0 }; output = output }
  unfolding core_make
  make_short h = rw (ne_eqb (length kept) kept_size h)

  pub core_make_lem : length kept ≡ kept_size → core_make t client b c kept output ≡ client_make t client b c kept output
  unfolding core_make
  core_make_lem h = rw (eq-eqb (length kept) kept_size h)

  pub make-refused : length kept ≡ kept_size → (n : ℕ) → n ≡ no → (n ≡ 0 → ⊥)
      → core_make t client b c kept output ≡ record { result = record { number = n; count = 0 }; output = output }
  unfolding make_by_rounds
  make-refused h n e ne = core_make_lem h ∙ same_make t client c b kept output ∙ rw (refused_is no _ _ (λ z. ne (e ∙ z)), e)

  pub make_goes : length kept ≡ kept_size → no ≡ 0 → core_make t client b c kept output ≡ whole_packet (encode (made t client (view (shelf t) c kept) b))
      output
  unfolding make_by_rounds whole_packet
  make_goes h z = core_make_lem h ∙ same_make t client c b kept output ∙ rw z

  pub make-fits : no ≡ 0 → (1 ≤ t) × ((t ≤ top_faults) × ((client ≤ top_client) × ((1 ≤ b) ×
      ((b ≤ (shelf t).servers) × ((packet_room ≤ length output) × (in_hand c ≡ true))))))
  unfolding make_refusal_def shelf
  make-fits e =
      let p₁ = passes (bad_faults (shelf t)) 2 _ e in
      let p₂ = passes (not (within 1 (shelf t).servers b)) 3 _ p₁.1 in
      let p₃ = passes (bad_client_def (of_write (awaited c)) client) 4 _ p₂.1 in
      let p₄ = passes (eqb (awaited c) 0) 12 _ p₃.1 in
      let p₅ = passes (ltb (length output) packet_room) 14 _ p₄.1 in
      let i₁ = inside 1 top_faults t p₁.0 in
      let i₂ = inside 1 (shelf t).servers b p₂.0 in (
        i₁.0,
        (
          i₁.1,
          (
            (client_range (of_write (awaited c)) client p₃.0).1,
            (
              i₂.0,
              (
                i₂.1,
                (
                  ltb-false (length output) packet_room p₅.0,
                  sym (busy_is c) ∙ ap not p₄.0,
                ),
              ),
            ),
          ),
        ),
      )
