-- What is known of a client's hand with the marks of who replied, and of a correct server's reply to it; and that all of it lasts while others
-- step.
-- Assumes nothing.
use mathlib.Core.Path.{◌≡◌, ◌∙◌}
use mathlib.Core.Bool.{Bool, true, false}
use mathlib.Core.List.{List, ◌∷◌}
use mathlib.Core.Option.{some}
use mathlib.Core.Logic.{◌⊎◌, inl, inr}
use Prim.Native.Nat.{ℕ, ◌≤◌, ◌<◌}
use lib.Dec.{eqb}
use Rattle.protocol.specs.declared.Stamp.{Stamp}
use Rattle.protocol.specs.Values.{Candidate, Share, Held, below, blank_candidate}
use Rattle.protocol.specs.Packet.{Body}
use Rattle.protocol.specs.Rules.{ByServer, count_to}
use Rattle.protocol.specs.Client.{Hand, idle, clocking, storing, completing, collecting, filtering, repairing, stamp_in, code_in, candidate_in, held_in_def}
use Rattle.protocol.specs.Client.{higher}
use Rattle.atomicity.specs.Lists.{In}
use Rattle.atomicity.specs.Steps.{Stamped}
use Rattle.atomicity.proofs.Model.{marks, tagged, share_for}
use Rattle.atomicity.proofs.Setup.{Setup, Steps, StepOf, right, right_step, lat}
use Rattle.atomicity.proofs.Genuine.{Revealed, revealed-up, Genuine, genuine-up}
use Rattle.atomicity.proofs.Covers.{Covers, covers_up}
use Rattle.atomicity.proofs.Heard.{lat-up}
use Rattle.atomicity.proofs.Quorums.{S, Q, FullAt, full-up, WBeats, Beats}

module _ (K : Setup) where
  -- ---- what a correct reply told

  pub record Coll (xs z0 : Steps K) (j : ℕ) (d : Candidate) : Type 0 where
    pub high : below d.stamp (lat K z0 j) ≡ false
    pub real : (d ≡ blank_candidate K.s.config) ⊎ Genuine K xs d

  -- a share that a correct server gave is that of a write that was shown
  pub record Piece (xs : Steps K) (j : ℕ) (a : Stamp) (f : Share) : Type 0 where
    pub origin : Revealed K xs a
    pub share_is : f ≡ share_for K.s origin.write j

  pub record Sift (xs z1 : Steps K) (j : ℕ) (cs : List Candidate) (h : Held) : Type 0 where
    pub piece : (f : Share) → h.share ≡ some f → Piece xs j h.stamp f
    pub tags : (d : Candidate) → In d cs → tagged K.s j d ≡ true → below (lat K xs j) d.stamp ≡ false
    pub stands : (d : Candidate) → In d cs → Covers K z1 j d.stamp ≡ true → (m : Stamped) → In m (marks K.s z1) →
        m.stamp ≡ d.stamp → m.nonce ≡ d.nonce → below h.stamp d.stamp ≡ false

  -- what collect left: q replies, and each correct one's candidate is in the list or blank
  pub record Collected (z0 z1 : Steps K) (cs : List Candidate) : Type 0 where
    pub whom : ByServer Bool
    pub what : ByServer Candidate
    pub enough : Q K ≤ count_to (S K) whom
    pub each : (j : ℕ) → right K z1 j ≡ true → whom j ≡ true →
        (below (what j).stamp (lat K z0 j) ≡ false)
        × ((what j ≡ blank_candidate K.s.config) ⊎ (In (what j) cs × Genuine K z1 (what j) × FullAt K z1 (what j).stamp))

  -- a candidate that a read may give, with its content
  pub record Proved (xs z0 : Steps K) (d : Candidate) (r : List ℕ) : Type 0 where
    pub origin : Revealed K xs d.stamp
    pub content_is : r ≡ origin.write.content
    pub beats : Beats K z0 d.stamp

  abbrev pub Tagged : Candidate → Type 0
  Tagged d = (j : ℕ) → 1 ≤ j → j ≤ S K → tagged K.s j d ≡ true

  -- ---- the hands; m marks who replied in this round

  pub record Clocks (xs z0 : Steps K) (top : ℕ) (m : ByServer Bool) : Type 0 where
    pub short : count_to (S K) m < Q K
    pub low : (j : ℕ) → right K xs j ≡ true → m j ≡ true → (lat K z0 j).number ≤ top

  pub record Stores (xs z0 : Steps K) (a : Stamp) (m : ByServer Bool) : Type 0 where
    pub short : count_to (S K) m < Q K
    pub beats : WBeats K z0 a
    pub holds : (j : ℕ) → right K xs j ≡ true → m j ≡ true → Covers K xs j a ≡ true

  pub record Completes (xs : Steps K) (a : Stamp) (m : ByServer Bool) : Type 0 where
    pub short : count_to (S K) m < Q K
    pub full : FullAt K xs a
    pub high : (j : ℕ) → right K xs j ≡ true → m j ≡ true → below (lat K xs j) a ≡ false

  pub record Collects (xs z0 : Steps K) (g : ByServer Candidate) (m : ByServer Bool) : Type 0 where
    pub short : count_to (S K) m < Q K
    pub coll : (j : ℕ) → right K xs j ≡ true → m j ≡ true → Coll xs z0 j (g j)

  pub record Filters (xs z0 z1 : Steps K) (cs : List Candidate) (g : ByServer Held) (m : ByServer Bool) : Type 0 where
    pub first : Collected z0 z1 cs
    pub sift : (j : ℕ) → right K xs j ≡ true → m j ≡ true → Sift xs z1 j cs (g j)

  pub record Repairs (xs z0 : Steps K) (d : Candidate) (r : List ℕ) (m : ByServer Bool) : Type 0 where
    pub short : count_to (S K) m < Q K
    pub proved : Proved xs z0 d r
    pub tagged : Tagged d
    pub high : (j : ℕ) → right K xs j ≡ true → m j ≡ true → below (lat K xs j) d.stamp ≡ false

  unfoldable pub HandOk : Steps K → Steps K → Steps K → ByServer Bool → Hand → Type 0
  HandOk xs z0 z1 m idle = Unit {0}
  HandOk xs z0 z1 m (clocking r n k) = Clocks xs z0 k m
  HandOk xs z0 z1 m (storing d h) = Stores xs z0 d.stamp m
  HandOk xs z0 z1 m (completing d) = Completes xs d.stamp m
  HandOk xs z0 z1 m (collecting g) = Collects xs z0 g m
  HandOk xs z0 z1 m (filtering cs g) = Filters xs z0 z1 cs g m
  HandOk xs z0 z1 m (repairing d r) = Repairs xs z0 d r m

  -- ---- what lasts

  pub coll-up : (z0 : Steps K) (j : ℕ) (d : Candidate) (x : StepOf K) (xs : Steps K) → Coll xs z0 j d → Coll (x ∷ xs) z0 j d
  coll-up z0 j d x xs h = record { high = h.high; real = go h.real }
    where
      go : (d ≡ blank_candidate K.s.config) ⊎ Genuine K xs d → (d ≡ blank_candidate K.s.config) ⊎ Genuine K (x ∷ xs) d
      go (inl e) = inl e
      go (inr g) = inr (genuine-up K d x xs g)

  pub piece_up : (j : ℕ) (a : Stamp) (f : Share) (x : StepOf K) (xs : Steps K) → Piece xs j a f → Piece (x ∷ xs) j a f
  unfolding revealed-up
  piece_up j a f x xs p = record { origin = revealed-up K a x xs p.origin; share_is = p.share_is }

  pub sift-up : (z1 : Steps K) (j : ℕ) (cs : List Candidate) (h : Held) (x : StepOf K) (xs : Steps K) → Sift xs z1 j cs h → Sift (x ∷ xs) z1 j cs h
  sift-up z1 j cs h x xs t = record {
    piece = λ f e. piece_up j h.stamp f x xs (t.piece f e);
    tags = λ d i e. lat-up K x xs j d.stamp (t.tags d i e);
    stands = t.stands;
  }

  pub proved-up : (z0 : Steps K) (d : Candidate) (r : List ℕ) (x : StepOf K) (xs : Steps K) → Proved xs z0 d r → Proved (x ∷ xs) z0 d r
  unfolding revealed-up
  proved-up z0 d r x xs p = record { origin = revealed-up K d.stamp x xs p.origin; content_is = p.content_is; beats = p.beats }

  pub ok-up : (z0 z1 : Steps K) (m : ByServer Bool) (h : Hand) (x : StepOf K) (xs : Steps K) → HandOk xs z0 z1 m h → HandOk (x ∷ xs) z0 z1 m h
  unfolding HandOk
  ok-up z0 z1 m idle x xs h = tt
  ok-up z0 z1 m (clocking r n k) x xs h = record { short = h.short; low = λ j g i. h.low j (right_step K x xs j ∙ g) i }
  ok-up z0 z1 m (storing d g) x xs h =
      record {
        short = h.short;
        beats = h.beats;
        holds = λ j g i. covers_up K x xs j d.stamp (h.holds j (right_step K x xs j ∙ g) i);
      }
  ok-up z0 z1 m (completing d) x xs h =
      record {
        short = h.short;
        full = full-up K d.stamp x xs h.full;
        high = λ j g i. lat-up K x xs j d.stamp (h.high j (right_step K x xs j ∙ g) i);
      }
  ok-up z0 z1 m (collecting g) x xs h = record { short = h.short; coll = λ j k i. coll-up z0 j (g j) x xs (h.coll j (right_step K x xs j ∙ k) i) }
  ok-up z0 z1 m (filtering cs g) x xs h =
      record {
        first = h.first;
        sift = λ j k i. sift-up z1 j cs (g j) x xs (h.sift j (right_step K x xs j ∙ k) i);
      }
  ok-up z0 z1 m (repairing d r) x xs h =
      record {
        short = h.short;
        proved = proved-up z0 d r x xs h.proved;
        tagged = h.tagged;
        high = λ j g i. lat-up K x xs j d.stamp (h.high j (right_step K x xs j ∙ g) i);
      }

  -- what the reply x of a correct server j to the hand means
  unfoldable pub Says : Steps K → Steps K → Steps K → ℕ → Body → Hand → Type 0
  Says xs z0 z1 j x idle = Unit {0}
  Says xs z0 z1 j x (clocking r n k) = (i : ℕ) → (lat K z0 j).number ≤ higher K.s.P K.s.writers i (stamp_in x)
  Says xs z0 z1 j x (storing d h) = eqb (code_in x) 11 ≡ false → Covers K xs j d.stamp ≡ true
  Says xs z0 z1 j x (completing d) = below (lat K xs j) d.stamp ≡ false
  Says xs z0 z1 j x (collecting g) = Coll xs z0 j (candidate_in K.s.config x)
  Says xs z0 z1 j x (filtering cs g) = Sift xs z1 j cs (held_in_def x)
  Says xs z0 z1 j x (repairing d r) = tagged K.s j d ≡ true → below (lat K xs j) d.stamp ≡ false

  pub says-up : (z0 z1 : Steps K) (j : ℕ) (x : Body) (h : Hand) (y : StepOf K) (xs : Steps K) → Says xs z0 z1 j x h → Says (y ∷ xs) z0 z1 j x h
  unfolding Says
  says-up z0 z1 j x idle y xs h = tt
  says-up z0 z1 j x (clocking r n k) y xs h = h
  says-up z0 z1 j x (storing d g) y xs h = λ e. covers_up K y xs j d.stamp (h e)
  says-up z0 z1 j x (completing d) y xs h = lat-up K y xs j d.stamp h
  says-up z0 z1 j x (collecting g) y xs h = coll-up z0 j (candidate_in K.s.config x) y xs h
  says-up z0 z1 j x (filtering cs g) y xs h = sift-up z1 j cs (held_in_def x) y xs h
  says-up z0 z1 j x (repairing d r) y xs h = λ e. lat-up K y xs j d.stamp (h e)
