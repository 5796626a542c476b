-- What the example's parties send is bytes and has its layout: the stamps, candidates and shares of the module Scene.
-- Assumes nothing.
use mathlib.Core.Path.{◌≡◌, refl, sym, ◌∙◌, subst}
use mathlib.Core.Bool.{Bool, true, false, cond}
use mathlib.Core.List.{List, [], ◌∷◌}
use mathlib.Core.Logic.{inr}
use Prim.Native.Nat.{ℕ, ◌<◌}
use native.Mathlib.Omega.{arith}
use lib.Dec.{eqb}
use lib.ListN.{replicate, length-replicate}
use Rattle.cluster.specs.Config.{shelf}
use Rattle.hmac.specs.Hmac.{tag_size}
use Rattle.erasure.specs.Fragments.{fragment}
use Rattle.protocol.specs.declared.Stamp.{Stamp}
use Rattle.format.specs.Format.{byte, number4, run, seq, via, such, or_blank, many}
use Rattle.protocol.specs.Values.{nonce_size}
use Rattle.protocol.specs.Packet.{Packet, PacketOk, stamp_f, any_stamp_f, candidate_f, any_candidate_f, candidates_f, body_f, head_f, packet_f, filter}
use Rattle.protocol.specs.Primitives.{stamp_message_def, candidate_message}
use Rattle.protocol.specs.Client.{stamp_of, tags_of, candidate_made, share_made}
use Rattle.protocol.proofs.Primitive.{run_length}
use Rattle.atomicity.specs.Lists.{All}
use Rattle.example.proofs.Playing.{Hashing, s, nonce1, nonce3}
use Rattle.example.proofs.Printed.{Byted, done, next, byted, bytes_ok, run-bytes, StampBytes, CandidateBytes, ShareBytes, PacketBytes}
use Rattle.example.proofs.Printed.{packet_of}
use Rattle.example.proofs.Scene.{spoil, spoil-length, content1, tag_for, cand, share, spoilt, stamp7, made_up, high_stamp}

small : (q : Bool) → cond q 1 0 < 256
small true = omega arith
small false = omega arith

spoil-bytes : {x : List ℕ} → Byted x → Byted (spoil x)
unfolding spoil
spoil-bytes done = done
spoil-bytes (next {x} h r) = next (small (eqb x 0)) r

nonce1-bytes : Byted nonce1
unfolding nonce1
nonce1-bytes = bytes_ok nonce1 refl

nonce3-bytes : Byted nonce3
unfolding nonce3
nonce3-bytes = bytes_ok nonce3 refl

module _ (H : Hashing) where
  tag-bytes : (a : Stamp) (n : List ℕ) (i : ℕ) → Byted (tag_for H a n i)
  tag-bytes a n i = byted _ (H.tag-bytes ((s H).keys i) (candidate_message a (H.digest n)))

  pub stamp-bytes : StampBytes (cand H).stamp
  unfolding cand candidate_made stamp_of
  stamp-bytes = record { number = omega arith; writer = omega arith; tag = byted _ (H.tag-bytes (s H).writers (stamp_message_def 1 1)) }

  tags-bytes : Byted (cand H).tags
  unfolding cand candidate_made tags_of
  tags-bytes = run-bytes (s H).config.servers (tag_for H (cand H).stamp nonce1) (tag-bytes (cand H).stamp nonce1)

  pub cand-bytes : CandidateBytes (cand H)
  unfolding cand candidate_made
  cand-bytes = record { stamp = stamp-bytes; nonce = nonce1-bytes; tags = tags-bytes }

  pub spoilt-bytes : CandidateBytes (spoilt H)
  unfolding spoilt
  spoilt-bytes =
      record {
        stamp = stamp-bytes;
        nonce = nonce1-bytes;
        tags = run-bytes (s H).config.servers (λ i. spoil (tag_for H (cand H).stamp nonce1 i))
            (λ i. spoil-bytes (tag-bytes (cand H).stamp nonce1 i));
      }

  pub made-up-bytes : CandidateBytes (made_up H)
  unfolding made_up
  made-up-bytes =
      record {
        stamp = record { number = omega arith; writer = omega arith; tag = bytes_ok (replicate tag_size 0) refl };
        nonce = nonce3-bytes;
        tags = run-bytes (s H).config.servers (λ i. spoil (tag_for H stamp7 nonce3 i)) (λ i. spoil-bytes (tag-bytes stamp7 nonce3 i));
      }

  -- a share whose fragment is the nonce
  pub share-bytes : (b : ℕ) → fragment (s H).config.points (s H).config.threshold content1 b ≡ nonce1 → ShareBytes (share H b)
  unfolding share share_made content1 tags_of cand candidate_made
  share-bytes b e =
      record {
        size = omega arith;
        fragment = subst Byted (sym e) nonce1-bytes;
        digests = run-bytes (s H).config.servers _ (λ i. byted _ (H.digest-bytes _));
        nonce_digest_def = byted _ (H.digest-bytes nonce1);
        tags = tags-bytes;
      }

  -- ---- layouts of what is made up

  pub spoilt-ok : (any_candidate_f (shelf 1)).Ok (spoilt H)
  unfolding any_candidate_f or_blank candidate_f stamp_f via seq number4 byte run spoilt cand candidate_made stamp_of nonce1
  spoilt-ok =
      inr (
        ((omega arith, omega arith), ((omega arith, omega arith), H.tag-size (s H).writers (stamp_message_def 1 1))),
        (
          length-replicate {A = ℕ} nonce_size 42,
          run_length tag_size (λ i. spoil (tag_for H (cand H).stamp nonce1 i))
              (λ i. spoil-length _ ∙ H.tag-size ((s H).keys i) (candidate_message (cand H).stamp (H.digest nonce1))) (s H).config.servers,
        ),
      )

  pub high-bytes : StampBytes (high_stamp H)
  unfolding high_stamp
  high-bytes = record {
    number = omega arith;
    writer = omega arith;
    tag = spoil-bytes
        (byted _ (H.tag-bytes (s H).writers (stamp_message_def 99999998 2)));
  }

  pub high-ok : any_stamp_f.Ok (high_stamp H)
  unfolding any_stamp_f or_blank stamp_f via seq number4 byte run high_stamp
  high-ok = inr ((omega arith, omega arith), ((omega arith, omega arith), spoil-length _ ∙ H.tag-size (s H).writers (stamp_message_def 99999998 2)))

  -- the wild client's packet
  unfoldable pub wild_packet : Packet
  wild_packet = record { head = record { kind = 9; client = 16; server = 2; t = 1; call = 1 }; body = filter (made_up H ∷ []) }

  pub wild-bytes : PacketBytes wild_packet
  unfolding wild_packet All
  wild-bytes = packet_of wild_packet refl (omega arith, (made-up-bytes, tt))

  pub wild-ok : PacketOk wild_packet
  unfolding PacketOk packet_f head_f body_f candidates_f candidate_f stamp_f via seq such many number4 byte run wild_packet made_up shelf nonce3
  wild-ok = (
    (
      refl,
      (
        (omega arith, omega arith),
        (
          (omega arith, omega arith),
          (
            (omega arith, omega arith),
            ((omega arith, omega arith), (omega arith, omega arith)),
          ),
        ),
      ),
    ),
    (
      refl,
      (
        (omega arith, omega arith),
        (
          refl,
          (
            (
              ((omega arith, omega arith), ((omega arith, omega arith), length-replicate {A = ℕ} tag_size 0)),
              (
                length-replicate {A = ℕ} nonce_size 7,
                run_length tag_size (λ i. spoil (tag_for H stamp7 nonce3 i))
                    (λ i. spoil-length _ ∙ H.tag-size ((s H).keys i) (candidate_message stamp7 (H.digest nonce3))) 4,
              ),
            ),
            tt,
          ),
        ),
      ),
    ),
  )
