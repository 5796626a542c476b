-- A reply that is ready to be taken has a shelf, a client, a server and a code in their ranges: its refusals were tested, and its packet was let through.
-- Assumes nothing.
use mathlib.Core.Path.{◌≡◌, refl, sym, ap, subst, ◌∙◌}
use mathlib.Core.Logic.{◌⊎◌}
use mathlib.Core.Bool.{true, ◌||◌}
use mathlib.Core.List.{List, []}
use mathlib.Core.Option.{some}
use Prim.Native.Nat.{ℕ, ◌≤◌, ◌<◌}
use native.Mathlib.Omega.{arith}
use lib.Dec.{eqb, leb}
use lib.ListN.{drop, get_or}
use lib.Seq.{get_or-drop}
use Rattle.std.specs.declared.option.Option.{Option}
use Rattle.std.specs.Option.{is_some, MatchOption}
use Rattle.cluster.specs.Config.{shelf}
use Rattle.cluster.specs.Ranges.{top_faults, top_client, most_servers}
use Rattle.cluster.proofs.Tests.{inside}
use Rattle.protocol.specs.declared.Call.{Call}
use Rattle.protocol.specs.declared.Head.{Head}
use Rattle.protocol.specs.declared.Label.{Label}
use Rattle.protocol.specs.declared.codes.Code.{Code}
use Rattle.protocol.specs.Kinds.{code_number}
use Rattle.format.specs.Format.{such, byte}
use Rattle.protocol.specs.Packet.{Body, BodyOk, decode, head_size, code_f, store_reply}
use Rattle.protocol.specs.Client.{of_write}
use Rattle.protocol.specs.ClientBytes.{key_of, awaited}
use Rattle.protocol.proofs.LetIn.{client_range}
use Rattle.protocol.proofs.Bodies.{decode-ok, body_ok}
use Rattle.wire.specs.Places.{packet_at, body_at, body_number}
use Rattle.wire.specs.Reads.{TookPacket}
use Rattle.wire.proofs.Laws.{head_ranges}
use Rattle.client.specs.Steps.{Ready}
use Rattle.client.proofs.Tests.{told-code}
use Rattle.client.proofs.TakenReplies.{body_at_lem}

-- the server of a packet that was let through
pub server_range : (reply : List ℕ) (h : Head) → decode reply ≡ some (packet_at h reply) → (1 ≤ h.server) × (h.server ≤ most_servers)
unfolding shelf packet_at
server_range reply h e = let r = head_ranges reply (packet_at h reply) e in (r.server.0, omega (arith, r.server.1, r.t.1))

module _ (t client : ℕ) (c : Call) (reply : List ℕ) (h : Head) (y : Ready t client c reply h) where
  pub ready-faults : (1 ≤ t) × (t ≤ top_faults)
  unfolding shelf
  ready-faults = inside 1 top_faults t y.faults

  pub ready-client : (1 ≤ client) × (client ≤ top_client)
  ready-client = client_range (of_write (awaited c)) client y.reader

  pub ready-server : (1 ≤ h.server) × (h.server ≤ most_servers)
  ready-server = server_range reply h y.decoded

  -- a store reply's number is its code, the byte after the head
  pub store-number : c.tally.round ≡ 2 → (l : Label) (n : ℕ) → TookPacket reply h l n → n ≡ get_or reply head_size 0
  unfolding body_at body_number
  store-number e l n p =
      p.number ∙ ap body_number (body_at_lem t client [] (key_of []) c [] [] reply h y 2 e refl) ∙ get_or-drop head_size reply 0 0

  -- and it is a code's number
  pub store-code : c.tally.round ≡ 2 → (n : ℕ) → n ≡ get_or reply head_size 0 → (o : Option Code)
      → MatchOption o (((0 < n) × (n < 10)) ⊎ (11 < n)) (λ k. code_number k ≡ n) → is_some o ≡ true
  unfolding packet_at body_at code_f such byte
  store-code e n q o m =
      let d : List ℕ = drop head_size reply in
      let body : Body = (packet_at h reply).body in
      let b : body ≡ store_reply (get_or d 0 0) = body_at_lem t client [] (key_of []) c [] [] reply h y 2 e refl in
      let f : BodyOk (shelf h.t) (store_reply (get_or d 0 0)) = subst (BodyOk (shelf h.t)) b
      (body_ok (packet_at h reply) (decode-ok reply (packet_at h reply) y.decoded)) in
      let k : get_or d 0 0 ≡ n = get_or-drop head_size reply 0 0 ∙ sym q in
      let g : ((eqb n 0 || leb 10 n) ≡ true) × ((0 ≤ n) × (n ≤ 11)) = rw k at f in
      told-code n g.0 g.1.1 o m
