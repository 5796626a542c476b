-- The laws of the layouts of a packet's parts: stamp, share, stored write, candidate, list of candidates, held, code, head; and the bytes each takes.
-- Each law is a term of the layout's shape. Nothing is assumed.
use mathlib.Core.Path.{◌≡◌, refl, sym, ap, ◌∙◌, subst}
use mathlib.Core.Bool.{Bool, true, false, cond}
use mathlib.Core.Logic.{inl, inr}
use mathlib.Core.List.{List, ◌++◌}
use Prim.Native.Nat.{ℕ, ◌+◌, ◌≤◌}
use native.Mathlib.Omega.{arith}
use lib.ListN.{length, replicate-append-replicate, length-append, length-replicate}
use lib.Dec.{eqb, lit≤}
use Rattle.cluster.specs.Config.{Config}
use Rattle.hmac.specs.Hmac.{tag_size}
use Rattle.erasure.specs.Fragments.{fragment_size_def}
use Rattle.protocol.specs.declared.Stamp.{Stamp}
use Rattle.protocol.specs.declared.Head.{Head}
use Rattle.format.specs.Format.{Lawful, byte, number2, number4, run, seq, via, such, or_blank, many}
use Rattle.protocol.specs.Values.{Candidate, Share, Write, blank_stamp, blank_candidate, digest_size, nonce_size, stamp_size, digests_size_def, tags_size_def, candidate_size_def}
use Rattle.protocol.specs.Packet.{stamp_f, any_stamp_f, share_f, write_f, candidate_f, any_candidate_f, candidates_f, held_most_def, held_f, code_f, head_f, head_size, share_size_def}
use Rattle.format.proofs.Formats.{byte_law, number2_law, number4_law, run_law, seq_law, via_law, keep_law}
use Rattle.format.proofs.Repeats.{or_blank_law, many_law, optional_law}

-- ---- stamps

pub stamp_law : Lawful stamp_f
unfolding stamp_f
stamp_law =
    via_law _ _ _ (λ b. refl) (λ a h. refl)
    (seq_law _ _ (number4_law _ _) (λ n. seq_law _ _ (byte_law _ _) (λ w. run_law _)))

pub any-stamp_law : Lawful any_stamp_f
unfolding any_stamp_f stamp_f via seq number4 byte run
any-stamp_law = or_blank_law stamp_size blank_stamp stamp_f refl (λ r. refl) stamp_law

-- ---- shares and stored writes

pub share_law : (s : Config) → Lawful (share_f s)
unfolding share_f
share_law s =
    via_law _ _ _ (λ b. refl) (λ a h. refl)
    (seq_law _ _ (number2_law _ _)
    (λ n. seq_law _ _ (run_law _)
    (λ p. seq_law _ _ (run_law _) (λ d. seq_law _ _ (run_law _) (λ e. run_law _)))))

pub write_law : (s : Config) → Lawful (write_f s)
unfolding write_f
write_law s = via_law _ _ _ (λ b. refl) (λ a h. refl) (seq_law _ _ stamp_law (λ a. share_law s))

-- ---- candidates

pub candidate_law : (s : Config) → Lawful (candidate_f s)
unfolding candidate_f
candidate_law s =
    via_law _ _ _ (λ b. refl) (λ a h. refl) (seq_law _ _ stamp_law (λ a. seq_law _ _ (run_law _) (λ n. run_law _)))

pub any-candidate_law : (s : Config) → Lawful (any_candidate_f s)
unfolding any_candidate_f candidate_f stamp_f via seq number4 byte run
any-candidate_law s =
    or_blank_law (candidate_size_def s) (blank_candidate s) (candidate_f s) (replicate-append-replicate (stamp_size + nonce_size) (tags_size_def s) 0)
    (λ r. ap (λ (z : List ℕ). (candidate_f s).parse (z ++ r)) (sym (replicate-append-replicate (stamp_size + nonce_size) (tags_size_def s) 0)))
    (candidate_law s)

pub candidates_law : (s : Config) → Lawful (candidates_f s)
unfolding candidates_f seq many
candidates_law s =
    via_law _ _ _ (λ b. refl) (λ a h. λ i. (h.1.0 i, a.1))
    (seq_law _ _ (byte_law _ _) (λ n. many_law (candidate_f s) (candidate_law s) n))

-- ---- what a server holds for a stamp; the answer to store; the head

pub held-most : (b : Bool) → cond b 0 1 ≤ 1
held-most true = lit≤ tt
held-most false = lit≤ tt

pub held_law : (s : Config) → Lawful (held_f s)
unfolding held_f
held_law s =
    via_law _ _ _ (λ b. refl) (λ a h. refl)
    (seq_law _ _ any-stamp_law (λ a. optional_law (held_most_def a) (share_f s) (held-most (eqb a.number 0)) (share_law s)))

pub code_law : Lawful code_f
unfolding code_f
code_law = keep_law _ _ (byte_law _ _)

pub head_law : Lawful head_f
unfolding head_f
head_law =
    keep_law _ _
    (via_law _ _ _ (λ b. refl) (λ a h. refl)
    (seq_law _ _ (byte_law _ _)
    (λ k. seq_law _ _ (byte_law _ _)
    (λ c. seq_law _ _ (byte_law _ _) (λ b. seq_law _ _ (byte_law _ _) (λ t. number4_law _ _))))))

-- ---- how many bytes each takes

pub head-length : (h : Head) → length (head_f.print h) ≡ head_size
unfolding head_f such via seq byte number4
head-length h = refl

pub stamp-length : (a : Stamp) → length a.tag ≡ tag_size → length (stamp_f.print a) ≡ stamp_size
unfolding stamp_f via seq number4 byte run
stamp-length a e = rw e

module _ (s : Config) where
  -- the lengths within a share, and within a candidate, that the layout takes
  pub record ShareLengths (h : Share) : Type 0 where
    pub fragment : length h.fragment ≡ fragment_size_def s.threshold h.size
    pub digests : length h.digests ≡ digests_size_def s
    pub nonce_digest_def : length h.nonce_digest_def ≡ digest_size
    pub tags : length h.tags ≡ tags_size_def s

  pub record CandidateLengths (c : Candidate) : Type 0 where
    pub tag : length c.stamp.tag ≡ tag_size
    pub nonce : length c.nonce ≡ nonce_size
    pub tags : length c.tags ≡ tags_size_def s

  pub share-lengths : (h : Share) → (share_f s).Ok h → ShareLengths h
  unfolding share_f via seq run
  share-lengths h (o, (p, (d, (e, g)))) = record { fragment = p; digests = d; nonce_digest_def = e; tags = g }

  pub share-length : (h : Share) → ShareLengths h → length ((share_f s).print h) ≡ share_size_def s h.size
  unfolding share_f via seq number2 run share_size_def
  share-length h l =
      omega (
        arith,
        length-append h.fragment (h.digests ++ (h.nonce_digest_def ++ h.tags)),
        length-append h.digests (h.nonce_digest_def ++ h.tags),
        length-append h.nonce_digest_def h.tags,
        l.fragment,
        l.digests,
        l.nonce_digest_def,
        l.tags,
      )

  pub write-length : (w : Write) → (write_f s).Ok w → length ((write_f s).print w) ≡ stamp_size + share_size_def s w.share.size
  unfolding write_f stamp_f via seq number4 byte run
  write-length w ((n, (c, g)), h) =
      omega (arith, length-append w.stamp.tag ((share_f s).print w.share), g, share-length w.share (share-lengths w.share h))

  pub candidate-lengths : (c : Candidate) → (candidate_f s).Ok c → CandidateLengths c
  unfolding candidate_f stamp_f via seq run
  candidate-lengths c ((n, (w, g)), (h, k)) = record { tag = g; nonce = h; tags = k }

  pub any-candidate-lengths : (c : Candidate) → (any_candidate_f s).Ok c → CandidateLengths c
  unfolding any_candidate_f or_blank
  any-candidate-lengths c (inr h) = candidate-lengths c h
  any-candidate-lengths c (inl e) = subst CandidateLengths (sym e) (record { tag = refl; nonce = refl; tags = length-replicate (tags_size_def s) 0 })

  pub candidate-length : (c : Candidate) → CandidateLengths c → length ((candidate_f s).print c) ≡ candidate_size_def s
  unfolding candidate_f stamp_f via seq number4 byte run
  candidate-length c l =
      omega (arith, length-append c.stamp.tag (c.nonce ++ c.tags), length-append c.nonce c.tags, l.tag, l.nonce, l.tags)

  -- a blank is printed like any other
  pub any-print : (c : Candidate) → (any_candidate_f s).print c ≡ (candidate_f s).print c
  unfolding any_candidate_f or_blank
  any-print c = refl

  pub any-candidate-length : (c : Candidate) → (any_candidate_f s).Ok c → length ((any_candidate_f s).print c) ≡ candidate_size_def s
  any-candidate-length c h = ap length (any-print c) ∙ candidate-length c (any-candidate-lengths c h)

pub any-stamp-tag : (a : Stamp) → any_stamp_f.Ok a → length a.tag ≡ tag_size
unfolding any_stamp_f or_blank stamp_f via seq run
any-stamp-tag a (inl e) = ap (λ (x : Stamp). length x.tag) e
any-stamp-tag a (inr h) = h.1.1
