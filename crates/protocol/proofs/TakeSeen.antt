-- A taken reply on bytes is `take_step` on values, for every state: the result is the step's, and the bytes after it stand for the client after it.
-- Round by round; a refused reply leaves every byte. Nothing is assumed but the primitives' lengths.
use mathlib.Core.Path.{◌≡◌, refl, sym, ◌∙◌, subst}
use mathlib.Core.Bool.{Bool, true}
use mathlib.Core.List.{List, []}
use mathlib.Core.Option.{Option, none, some}
use Prim.Native.Nat.{ℕ, zero, suc, ◌*◌}
use lib.Dec.{T}
use lib.ListN.{length}
use Rattle.cluster.specs.Config.{Config, shelf}
use Rattle.cluster.specs.Ranges.{within}
use Rattle.cluster.specs.Refusals.{on_refusal}
use Rattle.protocol.specs.declared.Call.{Call}
use Rattle.protocol.specs.Packet.{Body, Packet, PacketOk}
use Rattle.protocol.specs.Primitives.{Primitives, Lengths}
use Rattle.protocol.specs.Rules.{ByServer}
use Rattle.protocol.specs.Client.{Client, Turn, refused, awaits, is_full_def, update, take_refusal, turn_on, high_at, take_step}
use Rattle.format.specs.Reading.{over}
use Rattle.protocol.specs.View.{marked, hand_of, view}
use Rattle.protocol.specs.ClientBytes.{put_reply_def, after, took_by}
use Rattle.protocol.proofs.Told.{refused_back}
use Rattle.protocol.proofs.ClientLift.{Sound, out_of-rounds, awaits_is}
use Rattle.protocol.proofs.LetIn.{let_in, not_none}
use Rattle.protocol.proofs.Noted.{Reply, in_round, with_mark, kept_with, reply_of_lem, round_of_lem}
use Rattle.protocol.proofs.WriteSeen.{Turned, clock-turn, store-turn, complete-turn}
use Rattle.protocol.proofs.ReadSeen.{collect-turn, filter-turn, repair-turn}

-- an accepted reply in its round; q: with it a quorum has replied
round-turn : (P : Primitives) → Lengths P → (client : ℕ) (writers : List ℕ) (keys : ByServer (List ℕ)) (output : List ℕ)
    {s : Config} {c : Call} {kept : List ℕ} {b : ℕ} {x : Body} → Reply s c kept b x
    → (q : Bool) (r : ℕ) → within 1 6 r ≡ true
    → let u = update P s client writers keys (view s (in_round c r) kept) b x (with_mark c b) q (hand_of s r (in_round c r) kept) in
    Turned s u (took_by s (in_round c r) kept (kept_with s kept b x (2 * r)) output u)
round-turn P law client writers keys output a q zero i = absurd (subst T (sym i) tt)
round-turn P law client writers keys output a q (suc zero) i = clock-turn P law client writers keys output a q
round-turn P law client writers keys output a q (suc (suc zero)) i = store-turn P law client writers keys output a q
round-turn P law client writers keys output a q (suc (suc (suc zero))) i = complete-turn P law client writers keys output a q
round-turn P law client writers keys output a q (suc (suc (suc (suc zero)))) i = collect-turn P law client writers keys output a q
round-turn P law client writers keys output a q (suc (suc (suc (suc (suc zero))))) i = filter-turn P law client writers keys output a q
round-turn P law client writers keys output a q (suc (suc (suc (suc (suc (suc zero)))))) i = repair-turn P law client writers keys output a q
round-turn P law client writers keys output a q (suc (suc (suc (suc (suc (suc (suc n))))))) i = absurd (subst T (sym i ∙ out_of-rounds n) tt)

module _ (P : Primitives) (law : Lengths P) (t client : ℕ) (writers : List ℕ) (keys : ByServer (List ℕ)) (c : Call) (kept output : List ℕ)
    (h : Sound (shelf t) c kept) where
  abbrev s : Config
  s = shelf t

  abbrev cl : Client
  cl = view (shelf t) c kept

  abbrev code : Option Packet → ℕ
  code o = take_refusal s client o cl.calls (awaits cl.hand) cl.marks (high_at P s client writers keys cl) (length output)

  abbrev Taken : Option Packet → Turn → Type 0
  Taken o u = Turned s u (took_by s c kept (put_reply_def s kept o) output u)

  accepted-turn : (p : Packet) → PacketOk p → code (some p) ≡ 0 → Taken (some p) (turn_on P s client writers keys cl (some p))
  unfolding turn_on view put_reply_def
  accepted-turn p ok e =
      let kind : ℕ = awaits (hand_of s c.tally.round c kept) in
      let a = let_in s client p c.number kind (marked c.tally.marks) _ (length output) e in
      let (i, k) = round_of_lem t client c kept p kind _ a (unfold view in awaits_is s c kept) in
      rw k
      (round-turn P law client writers keys output (reply_of_lem t client c kept p kind _ a h ok) (is_full_def s (with_mark c p.head.server))
      c.tally.round i)

  settle : (o : Option Packet) → ((p : Packet) → o ≡ some p → PacketOk p) → (n : ℕ) → code o ≡ n
      → Taken o (on_refusal n (turn_on P s client writers keys cl o) (record { client = cl; result = refused n }))
  settle o ok (suc n) e = unfold took_by after in record { result = refused_back (suc n) (over [] output); client = record { seen = refl; sound = h } }
  settle (some p) ok zero e = accepted-turn p (ok p refl) e
  settle none ok zero e = absurd (not_none s client cl.calls (awaits cl.hand) cl.marks _ (length output) e)

  -- bytes in, bytes out, as the values say
  pub take_seen : (o : Option Packet) → ((p : Packet) → o ≡ some p → PacketOk p) → Taken o (take_step P s client writers keys cl o (length output))
  unfolding take_step
  take_seen o ok = settle o ok (code o) refl
