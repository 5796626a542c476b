-- The laws that the proof rests on, of the real digest, tag and fragments and the real packets, on document 01's shelf; and with them the
-- claim of the operations on bytes, which give the same account of every run as the steps on values.
-- Assumes nothing.
use mathlib.Core.Path.{◌≡◌, sym, ◌∙◌, subst}
use mathlib.Core.Bool.{false}
use mathlib.Core.List.{List, [], ◌∷◌, map}
use mathlib.Core.Option.{some}
use Prim.Native.Nat.{ℕ, zero, suc, ◌≤◌, ◌<◌}
use native.Mathlib.Omega.{arith}
use lib.Dec.{eqb}
use lib.ListN.{length, get_or, replicate, length-replicate}
use borrow.Author.Tests.{leb-true, eqb-false}
use Rattle.cluster.specs.Config.{Config, shelf}
use Rattle.cluster.specs.Ranges.{top_faults, top_client}
use Rattle.cluster.proofs.Legal.{legal-shelf}
use Rattle.hmac.specs.Hmac.{tag_size}
use Rattle.gf256.proofs.Apart.{Distinct, Apart}
use Rattle.format.specs.Format.{Bytes, byte, number4, seq, via, such}
use Rattle.protocol.specs.Values.{digest_size}
use Rattle.protocol.specs.Packet.{Packet, PacketOk, packet_f, head_f, decode}
use Rattle.protocol.specs.Primitives.{Primitives, Lengths, real}
use Rattle.protocol.specs.View.{kept_size}
use Rattle.protocol.specs.ClientBytes.{key_of}
use Rattle.runs.specs.Runs.{Shelf, config_of, steps, sent_of}
use Rattle.protocol.proofs.Bodies.{decode-ok}
use Rattle.protocol.proofs.Primitive.{real-lengths, stamp_inj, cand_inj, apart, nth-run, restores-parts}
use Rattle.runs.proofs.RunLift.{AllFed, run-agrees, sent-value}
use Rattle.runs.proofs.Accounts.{claimed}
use Rattle.atomicity.specs.Lists.{All, AllPairs}
use Rattle.atomicity.specs.Steps.{System}
use Rattle.atomicity.specs.Claim.{OneServer, system_of_def, Demand3}
use Rattle.atomicity.proofs.Model.{Run, Laws, sent_at}
use Rattle.atomicity.proofs.OneServer.{one-server}

-- ---- lists of different servers

all_at : (P : ℕ → Type 0) (is : List ℕ) → All P is → (i : ℕ) → i < length is → P (get_or is i 0)
unfolding All
all_at P [] h i l = absurd (omega arith)
all_at P (x ∷ is) h zero l = h.0
all_at P (x ∷ is) h (suc i) l = all_at P is h.1 i (omega arith)

apart_from : (x : ℕ) (is : List ℕ) → All (λ y. eqb x y ≡ false) is → Apart x is
unfolding All
apart_from x [] h = tt
apart_from x (y ∷ is) h = (eqb-false x y h.0, apart_from x is h.1)

different : (is : List ℕ) → AllPairs (λ a b. eqb a b ≡ false) is → Distinct is
unfolding AllPairs
different [] h = tt
different (x ∷ is) h = (apart_from x is h.0, different is h.1)

-- ---- packets

head_ranges : (b : List ℕ) (p : Packet) → decode b ≡ some p → (1 ≤ p.head.client) × (p.head.client ≤ top_client) × (1 ≤ p.head.server)
    × (p.head.server ≤ (shelf p.head.t).servers)
unfolding PacketOk packet_f head_f via seq such byte number4
head_ranges b p e = let o = (decode-ok b p e).0 in
    (o.1.1.0.0, o.1.1.0.1, o.1.1.1.0.0, leb-true p.head.server (shelf p.head.t).servers o.0)

-- fragments of k or more different servers give a content back
abbrev pub Restores : Primitives → Config → Type 0
Restores P c =
    (r : List ℕ) → Bytes r → (is : List ℕ) → AllPairs (λ a b. eqb a b ≡ false) is → All (λ i. (1 ≤ i) × (i ≤ c.servers)) is
    → c.threshold ≤ length is
    → P.restored c.points c.threshold (length r) (map (λ i. record { server = i; bytes = P.fragment c.points c.threshold r i }) is) ≡ r

pub real-restores : (t : ℕ) → 1 ≤ t → t ≤ top_faults → Restores real (shelf t)
real-restores t lo hi r b is d a l =
    restores-parts (shelf t) (legal-shelf t lo hi) r b is (all_at (λ i. (1 ≤ i) × (i ≤ (shelf t).servers)) is a) (different is d) l

-- the laws of all primitives of these lengths that give contents back, on a shelf of document 01
module _ (P : Primitives) (size : Lengths P) (sh : Shelf) (lo : 1 ≤ sh.t) (hi : sh.t ≤ top_faults) where
  abbrev pub system_with : System
  system_with = record { P = P; config = config_of sh; writers = sh.writers; keys = key_of sh.keys }

  fed : (l : Run system_with) → AllFed P size sh (lo, hi) (steps l)
  unfolding AllFed
  fed [] = tt
  fed (x ∷ xs) = (x.fed, fed xs)

  pub laws_of : Restores P (config_of sh) → Laws system_with
  unfolding shelf
  laws_of back =
      record {
        reads =
            λ x xs p e.
            let a = run-agrees P size sh (lo, hi) (λ c. replicate kept_size 0) (λ c. length-replicate {A = ℕ} kept_size 0)
            x.step (steps xs) x.fed (fed xs) in
            sent-value P size sh (lo, hi) a (sent_of (sent_at system_with x xs)) p a.sent e;
        heads = λ b p e t. let h = head_ranges b p e in (h.0, h.1, h.2, subst (λ (k : ℕ). p.head.server ≤ (shelf k).servers) t h.3);
        digest_at = λ f i l h. nth-run digest_size (λ j. P.digest (f j)) (λ j. size.digest (f j)) (config_of sh).servers i l h;
        tag_at = λ k f i l h. nth-run tag_size (λ j. P.tag (k j) (f j)) (λ j. size.tag (k j) (f j)) (config_of sh).servers i l h;
        stamp_inj = stamp_inj;
        candidate_inj = λ a b m n e. cand_inj a b (P.digest m) (P.digest n) (size.digest m ∙ sym (size.digest n)) e;
        apart = λ a m c d e. apart a (P.digest m) c d (size.digest m) e;
        restores = back;
      }

pub real_laws : (sh : Shelf) → 1 ≤ sh.t → sh.t ≤ top_faults → Laws (system_of_def sh)
real_laws sh lo hi = laws_of real real-lengths sh lo hi (real-restores sh.t lo hi)

-- demand 3
pub atomic-and-live : Demand3
unfolding Demand3
atomic-and-live sh lo hi first sized = claimed real real-lengths sh (lo, hi) first sized (OneServer (system_of_def sh))
    (one-server (system_of_def sh) (legal-shelf sh.t lo hi) (real_laws sh lo hi))
