-- Taking a reply by rounds on bytes is `client_take`, which looks at the bytes as a client, does its step, and puts it back: for every state.
-- Refusals are one list; each round is the same. The sizes are those of the types. Nothing is assumed.
use Rattle.protocol.specs.Answers.{refused_answer}
use mathlib.Core.Path.{◌≡◌, refl, sym, ap, ◌∙◌, subst}
use mathlib.Core.Bool.{Bool, true, cond}
use mathlib.Core.List.{List}
use mathlib.Core.Option.{Option, none, some}
use Prim.Native.Nat.{ℕ, zero, suc, ◌*◌}
use lib.Dec.{T, eqb}
use lib.ListN.{length}
use Rattle.cluster.specs.Config.{Config, shelf}
use Rattle.cluster.specs.Ranges.{within, most_servers}
use Rattle.cluster.specs.Refusals.{on_refusal}
use Rattle.protocol.specs.declared.Call.{Call}
use Rattle.protocol.specs.Packet.{Body, Packet, PacketOk, decode}
use Rattle.protocol.specs.Primitives.{Primitives}
use Rattle.protocol.specs.Rules.{ByServer}
use Rattle.protocol.specs.Client.{Client, refused, awaits, update, is_full_def, take_refusal, turn_on, high_at, take_step}
use Rattle.format.specs.Reading.{over}
use Rattle.protocol.specs.View.{marked, hand_of, view, kept_size}
use Rattle.protocol.specs.ClientBytes.{key_of, awaited, put_reply_def, after, took_by, client_take}
use Rattle.protocol.proofs.Bodies.{decode-ok}
use Rattle.protocol.proofs.ClientLift.{Sound, out_of-rounds, awaits_is}
use Rattle.protocol.proofs.LetIn.{let_in, not_none, high_is}
use Rattle.protocol.proofs.Noted.{Reply, in_round, with_mark, kept_with, reply_of_lem, round_of_lem}
use Rattle.client.specs.Rounds.{took, take_clock_def, take_store_def, take_complete_def, take_collect_def, take_filter_def, take_repair_def, ends, take_on, high_in, take_in_def, take_by_rounds}
use Rattle.client.proofs.RoundsSame.{clock_one, store_one, complete_one, collect_one, filter_one, repair_one}

-- an accepted reply in its round; q: with it a quorum has replied
round_one : (P : Primitives) (client : ℕ) (writers : List ℕ) (keys : ByServer (List ℕ)) (output : List ℕ)
    {s : Config} {c : Call} {kept : List ℕ} {b : ℕ} {x : Body} → Reply s c kept b x
    → (q : Bool) (r : ℕ) → within 1 6 r ≡ true → let C = in_round c r in
    took_by s C kept (kept_with s kept b x (2 * r)) output (update P s client writers keys (view s C kept) b x (with_mark c b) q (hand_of s r C kept))
    ≡ cond (eqb r 1) (take_clock_def P s client writers keys C kept output q b x) (cond (eqb r 2) (take_store_def P s client writers keys C kept output q b x)
    (cond (eqb r 3) (take_complete_def P s client writers keys C kept output q b) (cond (eqb r 4) (take_collect_def P s client writers keys C kept output q b x)
    (cond (eqb r 5) (take_filter_def P s client writers keys C kept output q b x) (take_repair_def P s client writers keys C kept output q b)))))
round_one P client writers keys output a q zero i = absurd (subst T (sym i) tt)
round_one P client writers keys output a q (suc zero) i = clock_one P client writers keys output a q
round_one P client writers keys output a q (suc (suc zero)) i = store_one P client writers keys output a q
round_one P client writers keys output a q (suc (suc (suc zero))) i = complete_one P client writers keys output a q
round_one P client writers keys output a q (suc (suc (suc (suc zero)))) i = collect_one P client writers keys output a q
round_one P client writers keys output a q (suc (suc (suc (suc (suc zero))))) i = filter_one P client writers keys output a q
round_one P client writers keys output a q (suc (suc (suc (suc (suc (suc zero)))))) i = repair_one P client writers keys output a q
round_one P client writers keys output a q (suc (suc (suc (suc (suc (suc (suc n))))))) i = absurd (subst T (sym i ∙ out_of-rounds n) tt)

module _ (P : Primitives) (t client : ℕ) (writers : List ℕ) (keys : ByServer (List ℕ)) (c : Call) (kept output : List ℕ) (h : Sound (shelf t) c kept)
  where
    abbrev s : Config
    s = shelf t

    abbrev cl : Client
    cl = view (shelf t) c kept

    abbrev high : ℕ → Body → Bool
    high = high_in P s client writers keys c kept output

    abbrev code : Option Packet → ℕ
    code o = take_refusal s client o c.number (awaited c) (marked c.tally.marks) high (length output)

    high_same : high_at P s client writers keys cl ≡ high
    unfolding high_in high_at view ends
    high_same = λ i b x. high_is P writers s c.tally.round c kept x (is_full_def s (with_mark c b)) i

    code_is : (o : Option Packet)
        → take_refusal s client o cl.calls (awaits cl.hand) cl.marks (high_at P s client writers keys cl) (length output) ≡ code o
    unfolding view
    code_is o =
        λ i. take_refusal s client o c.number (unfold view in awaits_is s c kept i) (marked c.tally.marks) (unfold view in high_same i)
        (length output)

    -- an accepted reply
    accepted_one : (p : Packet) → PacketOk p → code (some p) ≡ 0
        → took_by s c kept (put_reply_def s kept (some p)) output (turn_on P s client writers keys cl (some p))
        ≡ take_on P s client writers keys c kept output c.tally.round (some p)
    unfolding turn_on take_on view ends put_reply_def
    accepted_one p ok e =
        let a = let_in s client p c.number (awaited c) (marked c.tally.marks) high (length output) e in
        let (i, k) = round_of_lem t client c kept p (awaited c) high a refl in
        rw k
        (round_one P client writers keys output (reply_of_lem t client c kept p (awaited c) high a h ok) (is_full_def s (with_mark c p.head.server))
        c.tally.round i)

    settle : (o : Option Packet) → ((p : Packet) → o ≡ some p → PacketOk p) → (n : ℕ) → code o ≡ n
        → took_by s c kept (put_reply_def s kept o) output (on_refusal n (turn_on P s client writers keys cl o) (record { client = cl; result = refused n }))
        ≡ on_refusal n (take_on P s client writers keys c kept output c.tally.round o)
        (record { answer = refused_answer n; call = c; kept = kept; output = output })
    settle o ok (suc n) e = unfold took_by took after over in refl
    settle (some p) ok zero e = accepted_one p (ok p refl) e
    settle none ok zero e = absurd (not_none s client c.number (awaited c) (marked c.tally.marks) _ (length output) e)

    take_one : (o : Option Packet) → ((p : Packet) → o ≡ some p → PacketOk p)
        → took_by s c kept (put_reply_def s kept o) output (take_step P s client writers keys cl o (length output))
        ≡ take_in_def P s client writers keys c kept output o
    unfolding take_step take_in_def
    take_one o ok =
        ap (λ (n : ℕ). took_by s c kept (put_reply_def s kept o) output
        (on_refusal n (turn_on P s client writers keys cl o) (record { client = cl; result = refused n }))) (code_is o)
        ∙ settle o ok (code o) refl

pub same_take : (P : Primitives) (t client : ℕ) (writers : List ℕ) (keys : List (List ℕ)) (c : Call) (kept reply output : List ℕ)
    → length kept ≡ kept_size → length c.tally.marks ≡ most_servers
    → client_take P t client writers keys c kept reply output ≡ take_by_rounds P t client writers keys c kept reply output
unfolding client_take take_by_rounds
same_take P t client writers keys c kept reply output size wide =
    take_one P t client writers (key_of keys) c kept output (record { size = size; width = wide }) (decode reply) (λ p e. decode-ok reply p e)
