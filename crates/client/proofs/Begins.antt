-- What a begin does in each of its cases: kept bytes of another length, a refusal, or a call that begins; and what an accepted begin tells of its
-- arguments. Each is the definition with the case's tests put in. Assumes nothing.
use mathlib.Core.Path.{◌≡◌, ◌∙◌}
use mathlib.Core.Bool.{true, false}
use mathlib.Core.List.{List}
use Prim.Native.Nat.{ℕ, suc, ◌≤◌, ◌<◌, ◌*◌}
use lib.Dec.{leb, ltb}
use lib.ListN.{length, replicate}
use borrow.Author.Tests.{eq-eqb, ne_eqb, leb-false, ltb-false}
use Rattle.cluster.specs.Config.{shelf}
use Rattle.cluster.specs.Ranges.{most_servers, top_number, top_length}
use Rattle.cluster.proofs.Tests.{passes, refused_is}
use Rattle.protocol.specs.declared.Call.{Call}
use Rattle.protocol.specs.Client.{bad_faults, bad_client_def, write_refusal_def, read_refusal_def}
use Rattle.protocol.specs.View.{kept_size, nonce_place, candidates_place, candidate_slot}
use Rattle.protocol.specs.ClientBytes.{in_hand, fresh, begin_write_def, begin_read_def}
use Rattle.format.specs.Reading.{put}
use Rattle.client.specs.Rounds.{write_by_rounds, read_by_rounds}
use Rattle.client.proofs.StepsSame.{same_write, same_read}
use Rattle.client.specs.Core.{core_write, core_read, not_begun_def}

module _ (t client : ℕ) (c : Call) (kept : List ℕ) where
  module _ (content nonce : List ℕ) where
    abbrev no : ℕ
    no = write_refusal_def (shelf t) client (length content) (in_hand c) c.number

    pub write_short : (length kept ≡ kept_size → ⊥) → core_write t client c kept content nonce ≡ not_begun_def c kept
    unfolding core_write
    write_short h = rw (ne_eqb (length kept) kept_size h)

    pub write-refused : length c.tally.marks ≡ most_servers → length kept ≡ kept_size → (n : ℕ) → n ≡ no → (n ≡ 0 → ⊥)
        → core_write t client c kept content nonce ≡ record { result = record { number = n; count = 0 }; call = c; kept = kept }
    unfolding core_write write_by_rounds
    write-refused w h n e ne = rw (
      eq-eqb (length kept) kept_size h,
      same_write t client c w kept content nonce,
      refused_is no _ _ (λ z. ne (e ∙ z)),
      e,
    )

    pub write-begins : length c.tally.marks ≡ most_servers → length kept ≡ kept_size → no ≡ 0
        → core_write t client c kept content nonce
        ≡ record {
          result = record { number = 0; count = 0 };
          call = record {
            number = suc c.number;
            last = c.last;
            high = c.last;
            length =
                length content;
            tally = fresh 1;
          };
          kept = put (put kept 0 content) nonce_place nonce;
        }
    unfolding core_write write_by_rounds
    write-begins w h z = rw (eq-eqb (length kept) kept_size h, same_write t client c w kept content nonce, z)

    pub write-fits : no ≡ 0 → (length content ≤ top_length) × (c.number < top_number)
    unfolding write_refusal_def
    write-fits e =
        let p₁ = passes (bad_faults (shelf t)) 2 _ e in
        let p₂ = passes (bad_client_def true client) 4 _ p₁.1 in
        let p₃ = passes (ltb top_length (length content)) 5 _ p₂.1 in
        let p₄ = passes (in_hand c) 12 _ p₃.1 in
        let p₅ = passes (leb top_number c.number) 13 _ p₄.1 in
        (ltb-false top_length (length content) p₃.0, leb-false top_number c.number p₅.0)

  abbrev none : ℕ
  none = read_refusal_def (shelf t) client (in_hand c) c.number

  pub read_short : (length kept ≡ kept_size → ⊥) → core_read t client c kept ≡ not_begun_def c kept
  unfolding core_read
  read_short h = rw (ne_eqb (length kept) kept_size h)

  pub read-refused : length c.tally.marks ≡ most_servers → length kept ≡ kept_size → (n : ℕ) → n ≡ none → (n ≡ 0 → ⊥)
      → core_read t client c kept ≡ record { result = record { number = n; count = 0 }; call = c; kept = kept }
  unfolding core_read read_by_rounds
  read-refused w h n e ne = rw (eq-eqb (length kept) kept_size h, same_read t client c w kept, refused_is none _ _ (λ z. ne (e ∙ z)), e)

  pub read-begins : length c.tally.marks ≡ most_servers → length kept ≡ kept_size → none ≡ 0
      → core_read t client c kept
      ≡ record {
        result = record { number = 0; count = 0 };
        call = record {
          number = suc c.number;
          last = c.last;
          high = c.high;
          length =
              c.length;
          tally = fresh 4;
        };
        kept = put kept candidates_place (replicate (candidate_slot * most_servers) 0);
      }
  unfolding core_read read_by_rounds
  read-begins w h z = rw (eq-eqb (length kept) kept_size h, same_read t client c w kept, z)

  pub read_fits : none ≡ 0 → c.number < top_number
  unfolding read_refusal_def
  read_fits e =
      let p₁ = passes (bad_faults (shelf t)) 2 _ e in
      let p₂ = passes (bad_client_def false client) 4 _ p₁.1 in
      let p₃ = passes (in_hand c) 12 _ p₂.1 in
      leb-false top_number c.number (passes (leb top_number c.number) 13 _ p₃.1).0

  pub core_write_lem : (content nonce : List ℕ) → length kept ≡ kept_size → core_write t client c kept content nonce ≡ begin_write_def t client c kept content
      nonce
  unfolding core_write
  core_write_lem content nonce h = rw (eq-eqb (length kept) kept_size h)

  pub core_read_lem : length kept ≡ kept_size → core_read t client c kept ≡ begin_read_def t client c kept
  unfolding core_read
  core_read_lem h = rw (eq-eqb (length kept) kept_size h)
