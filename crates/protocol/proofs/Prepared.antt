-- What a write makes at the end of clock is within the layout: its stamp, its tags, its candidate and every server's share.
-- Runs of digests and tags have their lengths because each entry has. Nothing is assumed but the primitives' lengths.
use mathlib.Core.Path.{◌≡◌, sym, subst}
use mathlib.Core.List.{List}
use Prim.Native.Nat.{ℕ, ◌≤◌, zero-le}
use lib.ListN.{length}
use borrow.Author.Tests.{le-leb}
use Rattle.cluster.specs.Config.{Config}
use Rattle.cluster.specs.Ranges.{top_number, top_length}
use Rattle.hmac.specs.Hmac.{tag_size}
use Rattle.protocol.specs.declared.Stamp.{Stamp}
use Rattle.format.specs.Format.{via, seq, run, byte, number2, number4}
use Rattle.protocol.specs.Values.{digest_size, nonce_size, tags_size_def}
use Rattle.protocol.specs.Packet.{stamp_f, candidate_f, share_f}
use Rattle.protocol.specs.Primitives.{Primitives, Lengths, stamp_message_def, candidate_message}
use Rattle.protocol.specs.Rules.{ByServer}
use Rattle.protocol.specs.Client.{stamp_of, tags_of, candidate_made, share_made, shares_made, prepared}
use Rattle.protocol.proofs.Packets.{CandidateLengths, ShareLengths}
use Rattle.protocol.proofs.Primitive.{run_length}
use Rattle.protocol.proofs.Kept.{Holdable}
use Rattle.protocol.proofs.HandOk.{WriteOk, HandOk}

module _ (P : Primitives) (law : Lengths P) (s : Config) (client : ℕ) (writers : List ℕ) (keys : ByServer (List ℕ)) where
  tags-length : (a : Stamp) (n : List ℕ) → length (tags_of P s client writers keys a n) ≡ tags_size_def s
  unfolding tags_of
  tags-length a n = run_length tag_size _ (λ i. law.tag (keys i) (candidate_message a (P.digest n))) s.servers

  -- server b is one of the shelf's
  pub shares_in_lem : (r n : List ℕ) (k b : ℕ) → 1 ≤ b → b ≤ s.servers
      → shares_made P s client writers keys r n k b ≡ share_made P s client writers keys r n k b
  unfolding shares_made
  shares_in_lem r n k b lo hi = rw (le-leb 1 b lo, le-leb b s.servers hi)

  module _ (r n : List ℕ) (k : ℕ) (short : length r ≤ top_length) (nonce : length n ≡ nonce_size) where
    pub candidate-made : CandidateLengths s (candidate_made P s client writers keys n k)
    unfolding candidate_made stamp_of
    candidate-made = record { tag = law.tag writers (stamp_message_def k client); nonce = nonce; tags = tags-length _ n }

    pub share-made : (b : ℕ) → ShareLengths s (share_made P s client writers keys r n k b)
    unfolding share_made
    share-made b =
        record {
          fragment = law.fragment s.points s.threshold r b;
          digests = run_length digest_size _ (λ i. law.digest (P.fragment s.points s.threshold r i)) s.servers;
          nonce_digest_def = law.digest n;
          tags = tags-length _ n;
        }

    share_short : (b : ℕ) → (share_made P s client writers keys r n k b).size ≤ top_length
    unfolding share_made
    share_short b = short

    pub shares-made : (b : ℕ) → 1 ≤ b → b ≤ s.servers → Holdable s (shares_made P s client writers keys r n k b)
    shares-made b lo hi = subst (Holdable s) (sym (shares_in_lem r n k b lo hi)) (record { lengths = share-made b; short = share_short b })

  module _ (r n : List ℕ) (k : ℕ) (w : WriteOk client r n) where
    candidate-ok : (1 ≤ k) × (k ≤ top_number) → (candidate_f s).Ok (candidate_made P s client writers keys n k)
    unfolding candidate_f stamp_f via seq run number4 byte candidate_made stamp_of
    candidate-ok h = let l = candidate-made r n k w.high w.nonce in ((h, (w.writer, l.tag)), (l.nonce, l.tags))

    share-ok : (b : ℕ) → (share_f s).Ok (share_made P s client writers keys r n k b)
    unfolding share_f via seq run number2 share_made
    share-ok b = let l = share-made r n k w.high w.nonce b in ((zero-le, w.high), (l.fragment, (l.digests, (l.nonce_digest_def, l.tags))))

    pub prepared-ok : (1 ≤ k) × (k ≤ top_number) → HandOk s client (prepared P s client writers keys r n k)
    unfolding HandOk prepared
    prepared-ok h = (candidate-ok h, λ i lo hi. subst (share_f s).Ok (sym (shares_in_lem r n k i lo hi)) (share-ok i))
