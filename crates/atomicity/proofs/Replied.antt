-- How many replies a call gets, read off an account of a run by the packets that servers send: at most one of each server in each of its rounds, and
-- just that many if in each round all servers reply. So a finished write then has 3 * S, a read 2 * S, a repaired read 3 * S, as many as requests.
-- Replies may still be sent after the call has ended: a finished call's rounds stay until the next call begins, since no step but a begin changes an
-- idle client. Assumes nothing; it holds of every list of steps, whoever lies.
use mathlib.Core.Path.{◌≡◌, refl, sym, ap, ◌∙◌, subst}
use mathlib.Core.Bool.{true}
use mathlib.Core.List.{List, [], ◌∷◌, ◌++◌}
use Prim.Native.Nat.{ℕ, ◌*◌, ◌≤◌}
use native.Mathlib.Nat.{le_refl}
use native.Mathlib.Omega.{arith}
use lib.ListN.{length}
use Rattle.protocol.specs.Client.{Client, awaits, is_idle, begun}
use Rattle.runs.specs.Runs.{Lent, take-reply, Account}
use Rattle.atomicity.specs.Steps.{StepIn, System}
use Rattle.atomicity.specs.Traffic.{went_through, had_reply, replies_had, EachReplied}
use Rattle.atomicity.proofs.Util.{clash}
use Rattle.atomicity.proofs.Model.{Run, account, client_at_def, hand_at, calls_at}
use Rattle.atomicity.proofs.Moves.{MovedAt, kept, wbegan, rbegan, quit, took, moved}
use Rattle.atomicity.proofs.Positions.{pos, stage-bound, before_one}
use Rattle.atomicity.proofs.Through.{rounds_by, finishes, stay, call-over}
use Rattle.atomicity.proofs.PerRound.{most-rounds, all-rounds}

-- of an account of runs
pub record ByReplies (s : System) (A : Account (StepIn s)) : Type 0 where
  -- at any moment of a call; and, once the reply of step x has ended it, at every later moment at which it is still the last call
  pub most : (c : ℕ) (l : List (StepIn s)) → replies_had s A c l ≤ length (went_through s A c l) * s.config.servers
  pub finished : (c : ℕ) (x : StepIn s) (xs ys : List (StepIn s)) (lent : Lent) (reply output : List ℕ) → x.step ≡ take-reply c lent reply output
      → finishes (A.result x xs) ≡ true → (A.client (ys ++ x ∷ xs) c).calls ≡ (A.client (x ∷ xs) c).calls → EachReplied s A c (ys ++ x ∷ xs)
      → replies_had s A c (ys ++ x ∷ xs) ≡ length (rounds_by (A.result x xs) (awaits (A.client xs c).hand)) * s.config.servers

module _ (s : System) (c : ℕ) where
  calls_rise : (x : StepIn s) (xs : Run s) → calls_at s xs c ≤ calls_at s (x ∷ xs) c
  unfolding pos
  calls_rise x xs = omega (arith, (before_one s c x xs).low, (stage-bound (hand_at s xs c)).0, (stage-bound (hand_at s (x ∷ xs) c)).1)

  calls-later : (ys xs : Run s) → calls_at s xs c ≤ calls_at s (ys ++ xs) c
  calls-later [] xs = le_refl _
  calls-later (y ∷ ys) xs = omega (arith, calls-later ys xs, calls_rise y (ys ++ xs))

  -- what is known of an idle client while no call begins: it is as it was, and so are its last call's rounds
  record Rests (l xs : Run s) : Type 0 where
    same : client_at_def s l c ≡ client_at_def s xs c
    rounds : went_through s (account s) c l ≡ went_through s (account s) c xs

  unmoved : (y : StepIn s) (l : Run s) → is_idle (hand_at s l c) ≡ true → calls_at s (y ∷ l) c ≡ calls_at s l c → client_at_def s (y ∷ l) c ≡ client_at_def s l c
  unfolding begun
  unmoved y l i n = go (moved s c y l)
    where
      go : MovedAt s c y l → client_at_def s (y ∷ l) c ≡ client_at_def s l c
      go (kept e _) = e
      go (wbegan r m a b d t e) = absurd (omega (arith, n, ap (λ (z : Client). z.calls) e))
      go (rbegan a b d e) = absurd (omega (arith, n, ap (λ (z : Client). z.calls) e))
      go (quit a b d e) = clash i d
      go (took p lent b o a d f e r) = clash i f.busy

  rests : (ys xs : Run s) → is_idle (hand_at s xs c) ≡ true → calls_at s (ys ++ xs) c ≡ calls_at s xs c → Rests (ys ++ xs) xs
  unfolding went_through
  rests [] xs i n = record { same = refl; rounds = refl }
  rests (y ∷ ys) xs i n =
      let l : Run s = ys ++ xs in
      let m : calls_at s l c ≡ calls_at s xs c = omega (arith, n, calls-later ys xs, calls_rise y l) in
      let r : Rests l xs = rests ys xs i m in
      let e : client_at_def s (y ∷ l) c ≡ client_at_def s l c =
      unmoved y l (subst (λ (z : Client). is_idle z.hand ≡ true) (sym r.same) i) (n ∙ sym m) in
      record { same = e ∙ r.same; rounds = rw e (stay (calls_at s l c) (awaits (hand_at s l c)) (went_through s (account s) c l)) ∙ r.rounds }

pub by_replies : (s : System) → ByReplies s (account s)
by_replies s =
    record {
      most = λ c l. most-rounds s.config.servers (had_reply s (account s) c l) (went_through s (account s) c l);
      finished = λ c x xs ys lent reply output e f n h.
          let z = call-over s c x xs lent reply output e f in
          let i : is_idle (hand_at s (x ∷ xs) c) ≡ true = subst (λ g. is_idle g ≡ true) (sym z.idles) (unfold is_idle awaits in refl) in
          all-rounds s.config.servers (had_reply s (account s) c (ys ++ x ∷ xs)) (went_through s (account s) c (ys ++ x ∷ xs)) h
          ∙ ap (λ (ks : List ℕ). length ks * s.config.servers) ((rests s c ys (x ∷ xs) i n).rounds ∙ z.rounds);
    }
