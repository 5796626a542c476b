-- An accepted reply is noted: what is known of it, what then stands in the marks and in its server's slot, and the client that the bytes stand for.
-- Its bytes are read back by place; the rest stays. Nothing is assumed.
use mathlib.Core.Path.{◌≡◌, refl, sym, ap, ◌∙◌, subst}
use mathlib.Core.Bool.{Bool, true, false, cond}
use mathlib.Core.List.{List}
use Prim.Native.Nat.{ℕ, suc, ◌+◌, ◌-◌, ◌*◌, ◌≤◌}
use native.Mathlib.Omega.{arith}
use lib.Dec.{eqb}
use lib.ListN.{length, set, replicate, length-set, length-replicate}
use Rattle.cluster.specs.Config.{Config, shelf}
use Rattle.cluster.specs.Ranges.{within, most_servers, top_faults}
use Rattle.cluster.proofs.Tests.{inside}
use Rattle.protocol.specs.declared.Call.{Call}
use Rattle.protocol.specs.Packet.{Body, BodyOk, Packet, PacketOk, kind_of, any_candidate_f, held_f}
use Rattle.protocol.specs.Rules.{ByServer, count_to, upd, nobody}
use Rattle.protocol.specs.Client.{Hand, candidate_in, held_in_def}
use Rattle.protocol.specs.View.{marked, candidates_in, replies_in, hand_of, content_of, view, kept_size, candidate_slot, candidates_place, replies_place, reply_slot}
use Rattle.protocol.specs.ClientBytes.{awaited, in_hand, put_marks}
use Rattle.format.specs.Reading.{put}
use Rattle.protocol.proofs.Packets.{CandidateLengths, candidate-length, any-print, any-candidate-lengths}
use Rattle.protocol.proofs.Room.{Fitting, shelf-fits}
use Rattle.format.proofs.Puts.{put-length}
use Rattle.protocol.proofs.Readers.{held-lengths}
use Rattle.protocol.proofs.Marks.{marked-fresh, marked-set}
use Rattle.protocol.proofs.Slots.{slots_put, slots_past, replies_put}
use Rattle.protocol.proofs.Bodies.{body_ok}
use Rattle.protocol.proofs.HandOk.{candidate_in_lem, held_in, held-room}
use Rattle.protocol.proofs.ClientLift.{Sound, Lifted, in-round}
use Rattle.protocol.proofs.LetIn.{LetIn, server_range, shelf-t}
use Rattle.protocol.proofs.PutMarks.{marks-same, marks-fresh, marks-noted}

-- ---- a reply x of server b, and where it is put

-- the call in round r: where r is a numeral, what is done in a round computes
abbrev pub in_round : Call → ℕ → Call
in_round c r =
    record {
      number = c.number;
      last = c.last;
      high = c.high;
      length = c.length;
      tally = record { round = r; count = c.tally.count; marks = c.tally.marks };
    }

-- the marks with server b's
abbrev pub with_mark : Call → ℕ → ByServer Bool
with_mark c b = upd (marked c.tally.marks) b true

-- the kept bytes with a reply to collect, with one to filter, and with a reply of any kind
abbrev pub collected : Config → List ℕ → ℕ → Body → List ℕ
collected s kept b x = put kept (candidates_place + candidate_slot * (b - 1)) ((any_candidate_f s).print (candidate_in s x))

abbrev pub filtered : Config → List ℕ → ℕ → Body → List ℕ
filtered s kept b x = put kept (replies_place + reply_slot * (b - 1)) ((held_f s).print (held_in_def x))

abbrev pub kept_with : Config → List ℕ → ℕ → Body → ℕ → List ℕ
kept_with s kept b x kind = cond (eqb kind 8) (collected s kept b x) (cond (eqb kind 10) (filtered s kept b x) kept)

-- what an accepted reply is known by
pub record Reply (s : Config) (c : Call) (kept : List ℕ) (b : ℕ) (x : Body) : Type 0 where
  pub fits : Fitting s
  pub sound : Sound s c kept
  pub lo : 1 ≤ b
  pub hi : b ≤ s.servers
  pub new : marked c.tally.marks b ≡ false
  pub body : BodyOk s x

module _ (t client : ℕ) (c : Call) (kept : List ℕ) (p : Packet) (kind : ℕ) (high : ℕ → Body → Bool)
    (a : LetIn (shelf t) client p c.number kind (marked c.tally.marks) high) where
  pub reply_of_lem : Sound (shelf t) c kept → PacketOk p → Reply (shelf t) c kept p.head.server p.body
  reply_of_lem h ok =
      record {
        fits = let r = inside 1 top_faults (shelf t).t a.faults in shelf-fits t (rw shelf-t at r.0) (rw shelf-t at r.1);
        sound = h;
        lo = (server_range p ok).0;
        hi = subst (λ (z : ℕ). p.head.server ≤ (shelf z).servers) (a.same-t ∙ shelf-t t) (server_range p ok).1;
        new = a.new;
        body = subst (λ (z : ℕ). BodyOk (shelf z) p.body) (a.same-t ∙ shelf-t t) (body_ok p ok);
      }

  -- it is of the round that it is awaited in
  pub round_of_lem : kind ≡ awaited c → (within 1 6 c.tally.round ≡ true) × (kind_of p.body ≡ 2 * c.tally.round)
  round_of_lem w = let i = in-round c (ap (λ (k : ℕ). eqb k 0) (sym w) ∙ a.pending) in (i, a.kind_is ∙ w ∙ twice i)
    where
      twice : within 1 6 c.tally.round ≡ true → awaited c ≡ 2 * c.tally.round
      twice i = unfold awaited in_hand in rw i

module _ {s : Config} {c : Call} {kept : List ℕ} {b : ℕ} {x : Body} (a : Reply s c kept b x) where
  -- ---- marks

  abbrev ms : List ℕ
  ms = c.tally.marks

  below-most : b ≤ most_servers
  below-most = omega (arith, a.hi, a.fits.few)

  one_more : suc (b - 1) ≡ b
  one_more = omega (arith, a.lo)

  pub fresh-marks : put_marks 0 ms nobody ≡ replicate most_servers 0
  fresh-marks = marks-fresh ms a.sound.width

  pub noted-marks : put_marks 0 ms (with_mark c b) ≡ set ms (b - 1) 1
  noted-marks = marks-noted ms b a.lo (omega (arith, below-most, a.sound.width)) a.new

  pub marks_now : marked (set ms (b - 1) 1) ≡ with_mark c b
  marks_now = marked-set ms (b - 1) (omega (arith, below-most, a.lo)) ∙ ap (λ (i : ℕ). upd (marked ms) i true) one_more

  -- ---- slots

  candidate-lengths : CandidateLengths s (candidate_in s x)
  candidate-lengths = any-candidate-lengths s _ (candidate_in_lem s x a.body)

  pub collected-size : length (collected s kept b x) ≡ kept_size
  collected-size =
      put-length kept (candidates_place + candidate_slot * (b - 1)) ((any_candidate_f s).print (candidate_in s x))
      (omega (arith, ap length (any-print s (candidate_in s x)), candidate-length s _ candidate-lengths, a.fits.few, a.hi, a.sound.size))
      ∙ a.sound.size

  pub collected_is : candidates_in s (collected s kept b x) ≡ upd (candidates_in s kept) b (candidate_in s x)
  collected_is =
      slots_put s a.fits.few kept a.sound.size (b - 1) (candidate_in s x) (omega (arith, below-most, a.lo)) candidate-lengths
      ∙ ap (λ (n : ℕ). upd (candidates_in s kept) n (candidate_in s x)) one_more

  held-ok : (held_f s).Ok (held_in_def x)
  held-ok = held_in s x a.body

  held-most : length ((held_f s).print (held_in_def x)) ≤ reply_slot
  held-most = held-room s a.fits (held_in_def x) held-ok

  pub filtered-size : length (filtered s kept b x) ≡ kept_size
  filtered-size =
      put-length kept (replies_place + reply_slot * (b - 1)) ((held_f s).print (held_in_def x)) (omega (arith, held-most, below-most, a.sound.size))
      ∙ a.sound.size

  pub slots_now : candidates_in s (filtered s kept b x) ≡ candidates_in s kept
  slots_now =
      slots_past s a.fits.few kept a.sound.size (replies_place + reply_slot * (b - 1)) ((held_f s).print (held_in_def x)) (omega arith)
      (omega (arith, held-most, below-most))

  pub replies_now : replies_in s (set ms (b - 1) 1) (filtered s kept b x) ≡ upd (replies_in s ms kept) b (held_in_def x)
  replies_now =
      replies_put s a.fits.few kept a.sound.size ms (b - 1) (held_in_def x) (omega (arith, below-most, a.lo)) a.sound.width
      (held-lengths s (held_in_def x) held-ok) held-most
      ∙ ap (λ (i : ℕ). upd (replies_in s ms kept) i (held_in_def x)) one_more

  -- ---- the client that the bytes stand for

  -- a step's call: what it writes, with the marks zs, which stand for m
  abbrev call : ℕ → ℕ → ℕ → ℕ → ByServer Bool → List ℕ → Call
  call l h w r m zs =
      record { number = c.number; last = l; high = h; length = w; tally = record { round = r; count = count_to s.servers m; marks = zs } }

  seen : (l h w r : ℕ) (m : ByServer Bool) (zs k : List ℕ) → put_marks 0 ms m ≡ zs → length zs ≡ most_servers → marked zs ≡ m → length k ≡ kept_size
      → (hand : Hand)
      → hand_of s r (call l h w r m zs) k ≡ hand
      → Lifted s (record { calls = c.number; last = l; marks = m; hand = hand }) (call l h w r m (put_marks 0 ms m)) k
  unfolding view
  seen l h w r m zs k e z o size hand g =
      rw e (record { seen = λ i. record { calls = c.number; last = l; marks = o i; hand = g i }; sound = record { size = size; width = z } })

  -- in a new round, or in none; with one more mark in the round; with the same marks
  pub fresh_seen : (l h w r : ℕ) (k : List ℕ) → length k ≡ kept_size → (hand : Hand) → hand_of s r (call l h w r nobody (replicate most_servers 0)) k
      ≡ hand
      → Lifted s (record { calls = c.number; last = l; marks = nobody; hand = hand }) (call l h w r nobody (put_marks 0 ms nobody)) k
  fresh_seen l h w r k z hand g =
      seen l h w r nobody (replicate most_servers 0) k fresh-marks (length-replicate {A = ℕ} most_servers 0) marked-fresh z hand g

  pub noted_seen : (h r : ℕ) (k : List ℕ) → length k ≡ kept_size
      → (hand : Hand)
      → hand_of s r (call c.last h c.length r (with_mark c b) (set ms (b - 1) 1)) k ≡ hand
      → Lifted s (record { calls = c.number; last = c.last; marks = with_mark c b; hand = hand })
      (call c.last h c.length r (with_mark c b) (put_marks 0 ms (with_mark c b))) k
  noted_seen h r k z hand g =
      seen c.last h c.length r (with_mark c b) (set ms (b - 1) 1) k noted-marks (length-set ms (b - 1) 1 ∙ a.sound.width) marks_now z hand g

  pub same_seen : (r : ℕ) → Lifted s (view s (in_round c r) kept)
      (call c.last c.high c.length r (marked ms) (put_marks 0 ms (marked ms))) kept
  unfolding view hand_of content_of
  same_seen r = seen c.last c.high c.length r (marked ms) ms kept (marks-same ms) a.sound.width refl a.sound.size _ refl
