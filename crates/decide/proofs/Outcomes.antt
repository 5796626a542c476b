-- What is decided, by the highest rank that stays and by what was found: a refusal of other arguments, blank where the rank is the blank one, nothing
-- yet where no slot was found, and else the slot, the leader and the content that its members' fragments give. Nothing is assumed.
use mathlib.Core.Path.{◌≡◌, refl, sym, ap, ◌∙◌, subst}
use mathlib.Core.Bool.{true}
use mathlib.Core.Logic.{◌≢◌}
use mathlib.Core.List.{List, [], ◌∷◌}
use mathlib.Core.Option.{Option, none, some}
use Prim.Native.Nat.{ℕ, suc, ◌+◌, ◌-◌, ◌≤◌, ◌<◌}
use native.Mathlib.Omega.{arith}
use lib.Dec.{T}
use lib.ListN.{length, take}
use Rattle.cluster.specs.Config.{shelf}
use Rattle.cluster.specs.Ranges.{most_servers}
use Rattle.cluster.proofs.Tests.{refused_is}
use Rattle.sha256.specs.Sha256.{sha256}
use Rattle.format.specs.Format.{Bytes}
use Rattle.protocol.specs.Values.{Candidate}
use Rattle.protocol.specs.Answers.{refusals}
use Rattle.protocol.specs.Primitives.{real}
use Rattle.protocol.specs.Rules.{any, first, gather, live, proven, choice, restored_by}
use Rattle.format.specs.Reading.{over}
use Rattle.protocol.specs.View.{marked, candidates_in, replies_in, reply_slot_of}
use Rattle.protocol.specs.Packet.{share_size_def}
use Rattle.protocol.proofs.Room.{shelf-fits}
use Rattle.decide.specs.declared.leading.Choice.{Choice}
use Rattle.decide.specs.Decided.{slot_of, bare_verdict, decision_answer, decided_on, decide_refusal_def, decided}
use Rattle.decide.specs.declared.Decision.TheVariants as decisions
use Rattle.decide.specs.Steps.{Usable, blank_rank, servers_of_def, fits_at, agrees_at_def, leads_at, leader_at, top_at, Full, members_at, first_proven, Hit, content_of, Rising}
use Rattle.decide.proofs.Contents.{restored-members}
use Rattle.decide.proofs.Ranks.{candidate-writer, reply-writer}
use Rattle.decide.proofs.Groups.{leader_full, leads-fits, leader-leads}
use Rattle.decide.proofs.Firsts.{slot_of_lem}
use Rattle.decide.proofs.Rises.{members_rise}
use Rattle.decide.proofs.Chosen.{live_none, live_some, highest-top}
use Rattle.decide.proofs.Replies.{size_in_def}
use Rattle.decide.proofs.Arguments.{few}

-- ---- the slot that was found

module _ (t : ℕ) (marks kept : List ℕ) (u : Usable t kept) (key : ℕ) (r : Choice) (k : Hit t marks kept key r) where
  abbrev b : ℕ
  b = r.group.leader

  led : (leads_at t marks kept r.slot b ≡ true) × (b < (shelf t).servers)
  led = leader-leads t marks kept r.slot (shelf t).servers b k.leader

  -- the leader's reply fits
  hit-fits : (fits_at t marks kept r.slot b ≡ true) × ((shelf t).threshold ≤ length
      (servers_of_def (shelf t).servers (agrees_at_def t marks kept r.slot b)))
  hit-fits = leads-fits t marks kept r.slot b led.0

  pub hit-small : b < most_servers
  hit-small = omega (arith, led.1, few u)

  pub hit_full : Full (reply_slot_of kept b)
  hit_full = leader_full t marks kept r.slot (sha256 (candidates_in (shelf t) kept (suc r.slot)).nonce) refl b hit-small hit-fits.0

  pub hit_rises : Rising t r.group.servers
  hit_rises = members_rise t (agrees_at_def t marks kept r.slot b) r.group.servers (unfold members_at in k.members) hit-fits.1

  hit-content : restored_by real (shelf t) (marked marks) (replies_in (shelf t) marks kept) (candidates_in (shelf t) kept (suc r.slot)) (suc b)
      (replies_in (shelf t) marks kept (suc b)).share
      ≡ content_of t kept b (take (shelf t).threshold r.group.servers)
  unfolding share_size_def
  hit-content =
      let f = shelf-fits t u.low u.high in
      restored-members t marks kept r.slot (sha256 (candidates_in (shelf t) kept (suc r.slot)).nonce) refl b hit-small hit-fits.0 f.few
      (omega (arith, f.room (size_in_def (reply_slot_of kept b)) hit_full.top))
      ∙ ap (content_of t kept b) (sym k.members)

  hit-slot : slot_of (candidates_in (shelf t) kept) (candidates_in (shelf t) kept (suc r.slot)) (shelf t).servers ≡ r.slot
  hit-slot =
      let z : suc r.slot + ((shelf t).servers - suc r.slot) ≡ (shelf t).servers = omega (arith, k.slot) in
      sym (ap (slot_of (candidates_in (shelf t) kept) (candidates_in (shelf t) kept (suc r.slot))) z)
      ∙ slot_of_lem (candidates_in (shelf t) kept) r.slot k.listed ((shelf t).servers - suc r.slot)

-- ---- what is decided

module _ (t : ℕ) (marks kept output : List ℕ) where
  abbrev number : ℕ
  number = decide_refusal_def t (length kept) (length output)

  pub decided-refused : (n : ℕ) → n ≡ number → n ≢ 0 → decided t marks kept output
      ≡ record { answer = bare_verdict (refusals + n); output = output }
  unfolding decided
  decided-refused n e ne =
      refused_is number _ _ (λ z. ne (e ∙ z))
      ∙ ap (λ (k : ℕ). record { answer = bare_verdict (refusals + k); output = output }) (sym e)

  module _ (e : number ≡ 0) (bytes : Bytes kept) where
    writers : (i : ℕ) → (candidates_in (shelf t) kept i).stamp.writer < 256
    writers = candidate-writer (shelf t) kept bytes

    repliers : (i : ℕ) → (replies_in (shelf t) marks kept i).stamp.writer < 256
    repliers = reply-writer (shelf t) kept marks bytes

    on : decided t marks kept output
        ≡ decided_on (shelf t) (marked marks) (replies_in (shelf t) marks kept) (candidates_in (shelf t) kept) output
        (live real (shelf t) (marked marks) (replies_in (shelf t) marks kept) (gather (candidates_in (shelf t) kept) (shelf t).servers))
        (choice real (shelf t) (marked marks) (replies_in (shelf t) marks kept) (gather (candidates_in (shelf t) kept) (shelf t).servers))
    on = unfold decided in rw e

    pub decided-blank : top_at t marks kept (shelf t).servers ≤ blank_rank → decided t marks kept output ≡ record
        { answer = decision_answer decisions.Blank; output = output }
    unfolding top_at decided_on
    decided-blank h = on ∙ rw (live_none (shelf t) (marked marks) (replies_in (shelf t) marks kept) (candidates_in (shelf t) kept) writers repliers h)

    -- the choice is what was looked for
    choice_is : blank_rank < top_at t marks kept (shelf t).servers
        → choice real (shelf t) (marked marks) (replies_in (shelf t) marks kept) (gather (candidates_in (shelf t) kept) (shelf t).servers)
        ≡ first_proven t marks kept (top_at t marks kept (shelf t).servers) (shelf t).servers
    unfolding top_at choice first_proven
    choice_is h =
        ap (first (proven real (shelf t) (marked marks) (replies_in (shelf t) marks kept)))
        (highest-top (shelf t) (marked marks) (replies_in (shelf t) marks kept) (candidates_in (shelf t) kept) writers repliers h)

    -- with a live candidate, the choice decides
    by-choice : (ls : List Candidate) (o : Option Candidate) → any (λ d. true) ls ≡ true → (y : Candidate)
        → decided_on (shelf t) (marked marks) (replies_in (shelf t) marks kept) (candidates_in (shelf t) kept) output ls o
        ≡ decided_on (shelf t) (marked marks) (replies_in (shelf t) marks kept) (candidates_in (shelf t) kept) output (y ∷ []) o
    unfolding decided_on any
    by-choice [] o h y = absurd (subst T (sym h) tt)
    by-choice (x ∷ xs) none h y = refl
    by-choice (x ∷ xs) (some c) h y = refl

    chosen_on : blank_rank < top_at t marks kept (shelf t).servers → (o : Option Candidate)
        → first_proven t marks kept (top_at t marks kept (shelf t).servers) (shelf t).servers ≡ o
        → decided t marks kept output
        ≡ decided_on (shelf t) (marked marks) (replies_in (shelf t) marks kept) (candidates_in (shelf t) kept) output
        (candidates_in (shelf t) kept 0 ∷ []) o
    chosen_on h o q =
        on
        ∙ by-choice (live real (shelf t) (marked marks) (replies_in (shelf t) marks kept) (gather (candidates_in (shelf t) kept) (shelf t).servers))
        (choice real (shelf t) (marked marks) (replies_in (shelf t) marks kept) (gather (candidates_in (shelf t) kept) (shelf t).servers))
        (live_some (shelf t) (marked marks) (replies_in (shelf t) marks kept) (candidates_in (shelf t) kept) writers repliers (unfold top_at in h))
        (candidates_in (shelf t) kept 0)
        ∙ ap (decided_on (shelf t) (marked marks) (replies_in (shelf t) marks kept) (candidates_in (shelf t) kept) output
        (candidates_in (shelf t) kept 0 ∷ [])) (choice_is h ∙ q)

    pub decided_none : blank_rank < top_at t marks kept (shelf t).servers → first_proven t marks kept (top_at t marks kept (shelf t).servers)
        (shelf t).servers ≡ none
        → decided t marks kept output ≡ record { answer = decision_answer decisions.Wait; output = output }
    unfolding decided_on
    decided_none h q = chosen_on h none q

    pub decided-found : (u : Usable t kept) (r : Choice) → blank_rank < top_at t marks kept (shelf t).servers
        → Hit t marks kept (top_at t marks kept (shelf t).servers) r
        → decided t marks kept output
        ≡ record {
          answer = decision_answer (decisions.Found r.slot (suc r.group.leader) (length (content_of t kept r.group.leader (take (shelf t).threshold r.group.servers))));
          output = over (content_of t kept r.group.leader (take (shelf t).threshold r.group.servers)) output;
        }
    unfolding decided_on leader_at
    decided-found u r h k =
        let key : ℕ = top_at t marks kept (shelf t).servers in
        chosen_on h (some (candidates_in (shelf t) kept (suc r.slot))) k.chosen
        ∙ rw (k.leader, hit-content t marks kept u key r k, hit-slot t marks kept u key r k)
