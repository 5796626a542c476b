-- Rounds, requests and replies of calls in the runs of demand 3, on bytes with the real functions: the rounds that a finished call went through, how
-- many requests it makes, that no request is outside its rounds and servers, that kind and server tell the packet, and that a reply is to one
-- request. What is shown of the account by values goes over. Assumes nothing; it holds of every list of steps, whoever lies.
use mathlib.Core.Path.{◌≡◌, sym, ap, ◌∙◌, subst}
use mathlib.Core.Bool.{true}
use mathlib.Core.List.{List, ◌∷◌}
use mathlib.Core.Option.{some}
use Prim.Native.Nat.{ℕ, suc, ◌*◌, ◌≤◌}
use lib.ListN.{length}
use Rattle.protocol.specs.Packet.{Packet, kind_of, decode}
use Rattle.protocol.specs.Primitives.{real}
use Rattle.protocol.specs.Server.{reply_to}
use Rattle.protocol.specs.Client.{awaits}
use Rattle.runs.specs.Runs.{Lent, take-reply, Account}
use Rattle.runs.proofs.ValueRuns.{by_values}
use Rattle.protocol.proofs.Primitive.{real-lengths}
use Rattle.runs.proofs.Accounts.{claimed}
use Rattle.atomicity.specs.Lists.{Always, In}
use Rattle.atomicity.specs.Steps.{StepIn, System, makes, serves, packet_in}
use Rattle.atomicity.specs.Claim.{system_of_def, OnBytes}
use Rattle.atomicity.specs.Traffic.{went_through, is_ask, asks, asked, requests, EachAsked}
use Rattle.atomicity.proofs.Util.{and_right}
use Rattle.atomicity.proofs.Model.{Run, Laws, account, server_at_def}
use Rattle.atomicity.proofs.Serving.{BehindAt, answer}
use Rattle.atomicity.proofs.Heard.{act-kind}
use Rattle.atomicity.proofs.Through.{rounds_by, finishes, ByRounds, by-rounds}
use Rattle.atomicity.proofs.Asked.{ask_apart, requests-most, requests_of_lem, asked-within, same-packet}
use Rattle.atomicity.proofs.Replied.{ByReplies, by_replies}
use Rattle.atomicity.proofs.Real.{real_laws}

-- r answers the request q
pub record Answers (q r : Packet) : Type 0 where
  pub kind : kind_of r.body ≡ suc (kind_of q.body)
  pub client : r.head.client ≡ q.head.client
  pub server : r.head.server ≡ q.head.server
  pub call : r.head.call ≡ q.head.call

-- of an account of runs
pub record ByRequests (s : System) (A : Account (StepIn s)) : Type 0 where
  -- at any moment of a call, and at its end if each round went to all servers
  pub most : (c : ℕ) (l : List (StepIn s)) → requests s A c l ≤ length (went_through s A c l) * s.config.servers
  pub finished : (c : ℕ) (x : StepIn s) (xs : List (StepIn s)) (lent : Lent) (reply output : List ℕ) → x.step ≡ take-reply c lent reply output
      → finishes (A.result x xs) ≡ true → EachAsked s A c (x ∷ xs)
      → requests s A c (x ∷ xs) ≡ length (rounds_by (A.result x xs) (awaits (A.client xs c).hand)) * s.config.servers
  -- a request is of one of the call's rounds, to one of the servers
  pub inside : (c : ℕ) (l : List (StepIn s)) (k b : ℕ) → asked s A c l k b ≡ true → In k (went_through s A c l)
      × ((1 ≤ b) × (b ≤ s.config.servers))
  -- made again within the call it is the same packet
  pub same : (c k b : ℕ) (x : StepIn s) (xs : List (StepIn s)) → asks s A c k b x xs ≡ true
      → Always (λ y ys. asks s A c k b y ys ≡ true → (A.client ys c).calls ≡ (A.client xs c).calls → A.sent y ys ≡ A.sent x xs) xs
  -- and of another round or server it is another packet
  pub other : (c k b k' b' : ℕ) (x y : StepIn s) (xs ys : List (StepIn s)) → asks s A c k b x xs ≡ true → asks s A c k' b' y ys ≡ true
      → A.sent x xs ≡ A.sent y ys → (k ≡ k') × (b ≡ b')
  -- what a server sends is the answer to the request that it took
  pub replies : (b : ℕ) (x : StepIn s) (xs : List (StepIn s)) (r : Packet) → serves b x.step ≡ true → decode (A.sent x xs) ≡ some r
      → (q : Packet) × ((packet_in x.step ≡ some q) × Answers q r)

module _ (s : System) (laws : Laws s) where
  answers : (b : ℕ) (x : StepIn s) (xs : Run s) (r : Packet) (h : BehindAt s b x xs r) → Answers h.ask r
  unfolding reply_to
  answers b x xs r h =
      record {
        kind = ap (λ (p : Packet). kind_of p.body) h.reply
            ∙ act-kind s b (server_at_def s xs b) h.ask.head.client h.ask.body h.asked.allowed;
        client = ap (λ (p : Packet). p.head.client) h.reply;
        server = ap (λ (p : Packet). p.head.server) h.reply;
        call = ap (λ (p : Packet). p.head.call) h.reply;
      }

  others : (c k b k' b' : ℕ) (x y : StepIn s) (xs ys : Run s) → asks s (account s) c k b x xs ≡ true → asks s (account s) c k' b' y ys ≡ true
      → (account s).sent x xs ≡ (account s).sent y ys → (k ≡ k') × (b ≡ b')
  others c k b k' b' x y xs ys e f g =
      let q : is_ask k' b' (decode ((account s).sent y ys)) ≡ true = and_right (makes c y.step) _ f in
      ask_apart k b k' b' (decode ((account s).sent x xs)) (and_right (makes c x.step) _ e)
      (subst (λ (z : List ℕ). is_ask k' b' (decode z) ≡ true) (sym g) q)

  by-requests : ByRequests s (account s)
  by-requests =
      record {
        most = requests-most s (account s);
        finished = requests_of_lem s (account s) (by-rounds s);
        inside = asked-within s laws;
        same = same-packet s laws;
        other = others;
        replies = λ b x xs r e d. let h = answer s b x xs r e (laws.reads x xs r d) in (h.ask, (h.got, answers b x xs r h));
      }

-- ---- on bytes, with the real functions

pub finished-rounds : OnBytes ByRounds
finished-rounds sh lo hi first sized =
    claimed real real-lengths sh (lo, hi) first sized (ByRounds (system_of_def sh)) (unfold by_values in by-rounds (system_of_def sh))

pub counted_replies : OnBytes ByReplies
counted_replies sh lo hi first sized =
    claimed real real-lengths sh (lo, hi) first sized (ByReplies (system_of_def sh)) (unfold by_values in by_replies (system_of_def sh))

pub counted-requests : OnBytes ByRequests
counted-requests sh lo hi first sized =
    claimed real real-lengths sh (lo, hi) first sized (ByRequests (system_of_def sh)) (unfold by_values in by-requests (system_of_def sh) (real_laws sh lo hi))
