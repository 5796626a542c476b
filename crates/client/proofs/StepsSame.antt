-- Begins, giving up and making a packet, by the call's own fields on bytes, are those that look at the bytes as a client and put it back: for every
-- state. Refusals are one list; what an accepted step writes is the same. The width of the marks is that of their type. Nothing is assumed.
use mathlib.Core.Path.{◌≡◌, refl, sym, ap, ◌∙◌, subst}
use mathlib.Core.Bool.{Bool, true, false, cond, not}
use mathlib.Core.List.{List, []}
use mathlib.Core.Option.{none, some}
use Prim.Native.Nat.{ℕ, zero, suc, ◌*◌}
use lib.Dec.{T, eqb}
use lib.ListN.{length, replicate}
use Rattle.cluster.specs.Config.{Config, shelf}
use Rattle.cluster.specs.Ranges.{within, most_servers}
use Rattle.cluster.specs.Refusals.{on_refusal}
use Rattle.cluster.proofs.Tests.{passes}
use Rattle.protocol.specs.declared.Call.{Call}
use Rattle.protocol.specs.declared.Aborted.TheVariants as aborts
use Rattle.protocol.specs.Answers.{aborted_answer, refused_answer}
use Rattle.protocol.specs.Values.{blank_candidate}
use Rattle.protocol.specs.Packet.{encode}
use Rattle.protocol.specs.Rules.{count_to, nobody}
use Rattle.protocol.specs.Client.{Turn, Made, made, refused, more, aborted, idle, clocking, collecting, awaits, onto, begun, bad_faults, bad_client_def, of_write, write_refusal_def, read_refusal_def, abort_refusal_def, make_refusal_def, write_step, read_step, abort_step, make_step}
use Rattle.format.specs.Reading.{over, put}
use Rattle.protocol.specs.View.{hand_of, view, nonce_place, candidate_slot, candidates_place}
use Rattle.protocol.specs.ClientBytes.{fresh, in_hand, awaited, Begun, GaveUp, Filled, sent_of, put_marks, begins, put_back, told, after, begun_by, begin_write_def, begin_read_def, give_up_def, client_make}
use Rattle.client.specs.Rounds.{with_tally_def, write_by_rounds, read_by_rounds, abort_by_rounds, make_by_rounds}
use Rattle.protocol.proofs.ClientLift.{out_of-rounds, busy_is, awaits_is, pending_is}
use Rattle.protocol.proofs.LetIn.{write-idle, read-idle, other-round, either}
use Rattle.protocol.proofs.PutMarks.{marks-fresh}
use Rattle.protocol.proofs.Marks.{count-nobody}

-- a call is given up where one is
abort_busy : (s : Config) (client : ℕ) (c : Call) → abort_refusal_def s client (awaited c) ≡ 0 → in_hand c ≡ true
unfolding abort_refusal_def
abort_busy s client c e =
    let (a, e5) = passes (bad_faults s) 2 _ e in
    let (w, e13) = passes (bad_client_def (of_write (awaited c)) client) 4 _ e5 in
    sym (busy_is c) ∙ ap not (passes (eqb (awaited c) 0) 12 _ e13).0

-- the two steps agree where their refusals do and what they do agrees
at-refusals : {A B : Type 0} (f : A → B) (ok : A) (down : ℕ → A) (ok' down' : ℕ → B) (m n : ℕ) → m ≡ n → (n ≡ 0 → f ok ≡ ok' 0)
    → ((k : ℕ) → f (down (suc k)) ≡ down' (suc k)) → f (on_refusal m ok (down m)) ≡ on_refusal n (ok' n) (down' n)
at-refusals f ok down ok' down' m n e g h = ap (λ (k : ℕ). f (on_refusal k ok (down k))) e ∙ go n g
  where
    go : (n : ℕ) → (n ≡ 0 → f ok ≡ ok' 0) → f (on_refusal n ok (down n)) ≡ on_refusal n (ok' n) (down' n)
    go zero g = g refl
    go (suc k) g = h k

module _ (t client : ℕ) (c : Call) (wide : length c.tally.marks ≡ most_servers) where
  abbrev s : Config
  s = shelf t

  none-marked : put_marks 0 c.tally.marks nobody ≡ replicate most_servers 0
  none-marked = marks-fresh c.tally.marks wide

  none-counted : count_to s.servers nobody ≡ 0
  none-counted = count-nobody s.servers

  pub same_write : (kept content nonce : List ℕ) → begin_write_def t client c kept content nonce ≡ write_by_rounds t client c kept content nonce
  unfolding begin_write_def write_by_rounds write_step view
  same_write kept content nonce =
      at-refusals (begun_by s c kept) _ (λ n. record { client = view s c kept; result = refused n }) done
      (λ n. record { result = record { number = n; count = 0 }; call = c; kept = kept }) _ _
      (ap (λ (z : Bool). write_refusal_def s client (length content) z c.number) (unfold view in pending_is s c kept))
      (λ e. begin (write-idle s client (length content) (in_hand c) c.number e)) (λ k. unfold begun_by after in refl)
    where
      done : ℕ → Begun
      done n =
          record {
            result = record { number = n; count = 0 };
            call = record { number = suc c.number; last = c.last; high = c.last; length = length content; tally = fresh 1 };
            kept = put (put kept 0 content) nonce_place nonce;
          }

      begin : in_hand c ≡ false → begun_by s c kept (record { client = begun (view s c kept) (clocking content nonce c.last); result = more })
          ≡ done 0
      begin p = unfold begun_by after put_back begins awaits begun fresh in_hand
          in rw (none-marked, none-counted, other-round c.tally.round 1 p refl)

  pub same_read : (kept : List ℕ) → begin_read_def t client c kept ≡ read_by_rounds t client c kept
  unfolding begin_read_def read_by_rounds read_step view
  same_read kept =
      at-refusals (begun_by s c kept) _ (λ n. record { client = view s c kept; result = refused n }) done
      (λ n. record { result = record { number = n; count = 0 }; call = c; kept = kept }) _ _
      (ap (λ (z : Bool). read_refusal_def s client z c.number) (unfold view in pending_is s c kept))
      (λ e. begin (read-idle s client (in_hand c) c.number e)) (λ k. unfold begun_by after in refl)
    where
      done : ℕ → Begun
      done n =
          record {
            result = record { number = n; count = 0 };
            call = record { number = suc c.number; last = c.last; high = c.high; length = c.length; tally = fresh 4 };
            kept = put kept candidates_place (replicate (candidate_slot * most_servers) 0);
          }

      begin : in_hand c ≡ false → begun_by s c kept (record { client = begun (view s c kept) (collecting (λ b. blank_candidate s)); result = more })
          ≡ done 0
      begin p = unfold begun_by after put_back begins awaits begun fresh in_hand
          in rw (none-marked, none-counted, other-round c.tally.round 4 p refl)

  -- complete is round 3
  complete_is : (r : ℕ) → within 1 6 r ≡ true → eqb (awaits (hand_of s r c [])) 6 ≡ eqb r 3
  unfolding hand_of awaits
  complete_is zero i = refl
  complete_is (suc zero) i = refl
  complete_is (suc (suc zero)) i = refl
  complete_is (suc (suc (suc zero))) i = refl
  complete_is (suc (suc (suc (suc zero)))) i = refl
  complete_is (suc (suc (suc (suc (suc zero))))) i = refl
  complete_is (suc (suc (suc (suc (suc (suc zero)))))) i = refl
  complete_is (suc (suc (suc (suc (suc (suc (suc n))))))) i = absurd (subst T (sym i ∙ out_of-rounds n) tt)

  pub same_abort : give_up_def t client c ≡ abort_by_rounds t client c
  unfolding give_up_def abort_by_rounds abort_step
  same_abort =
      at-refusals gave-up _ (λ n. record { client = view s c []; result = refused n })
      (λ n. record { answer = aborted_answer (cond (eqb c.tally.round 3) aborts.InComplete aborts.Before); call = with_tally_def c (fresh 0) })
      (λ n. record { answer = refused_answer n; call = c }) _ _
      (ap (abort_refusal_def s client) (awaits_is s c []))
      (λ e. end (abort_busy s client c e)) (λ k. unfold after in refl)
    where
      gave-up : Turn → GaveUp
      gave-up u =
          record {
            answer = (told u.result).answer;
            call = (after s c [] [] u).call;
          }

      end : in_hand c ≡ true → gave-up (record { client = onto (view s c []) nobody idle; result = aborted (eqb (awaits (view s c []).hand) 6) })
          ≡ record { answer = aborted_answer (cond (eqb c.tally.round 3) aborts.InComplete aborts.Before); call = with_tally_def c (fresh 0) }
      end p = unfold after put_back begins awaits onto fresh in_hand view in rw (none-marked, none-counted, complete_is c.tally.round p, either)

module _ (t client : ℕ) (c : Call) where
  abbrev sh : Config
  sh = shelf t

  pub same_make : (b : ℕ) (kept output : List ℕ) → client_make t client b c kept output ≡ make_by_rounds t client b c kept output
  unfolding client_make make_by_rounds make_step shelf over
  same_make b kept output =
      at-refusals {B = Filled} (λ (d : Made). record {
        result = record { number = d.number; count = length (sent_of d.packet) };
        output = over (sent_of d.packet) output;
      }) (record { number = 0; packet = some (made t client (view sh c kept) b) }) (λ n. record { number = n; packet = none })
      (λ n. record { result = record { number = n; count = length bytes }; output = over bytes output })
      (λ n. record { result = record { number = n; count = 0 }; output = output }) _ _
      (ap (λ (k : ℕ). make_refusal_def sh client b k (length output)) (awaits_is sh c kept)) (λ e. refl) (λ k. refl)
    where
      bytes : List ℕ
      bytes = encode (made t client (view sh c kept) b)
