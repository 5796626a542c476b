-- A stored write as the rest of the proof knows it: a server covers a stamp whose write its history holds. What is acknowledged is covered,
-- what is covered stays so and is held, and an answer to a filter is not below a genuine candidate that is covered.
-- Assumes nothing.
use mathlib.Core.Path.{◌≡◌, sym, ap, ◌∙◌, subst}
use mathlib.Core.Bool.{Bool, true, false}
use mathlib.Core.List.{List, ◌∷◌}
use mathlib.Core.Option.{Option, some}
use Prim.Native.Nat.{ℕ}
use lib.Dec.{eqb}
use Rattle.protocol.specs.declared.Stamp.{Stamp}
use Rattle.protocol.specs.Values.{Candidate, Share, Write, below, blank_candidate, is_some}
use Rattle.protocol.specs.Packet.{store, filter}
use Rattle.protocol.specs.Memory.{lookup}
use Rattle.protocol.specs.Server.{Server, has_digest, valid, by_history_def, act}
use Rattle.protocol.specs.Client.{code_in, held_in_def}
use Rattle.atomicity.specs.Lists.{In}
use Rattle.atomicity.specs.Steps.{Stamped}
use Rattle.atomicity.proofs.Util.{or_left, is_some_lem}
use Rattle.atomicity.proofs.Stamps.{same_is}
use Rattle.atomicity.proofs.Model.{acts, marks, is_valid}
use Rattle.atomicity.proofs.Setup.{Setup, Steps, StepOf, Fair, srv, hist}
use Rattle.atomicity.proofs.Rising.{by-stamp}
use Rattle.atomicity.proofs.Best.{best-max}
use Rattle.atomicity.proofs.Servers.{held_some, in_held, history_keeps, store-held}
use Rattle.atomicity.proofs.Histories.{history}

module _ (K : Setup) where
  unfoldable pub Covers : Steps K → ℕ → Stamp → Bool
  Covers xs j a = is_some (lookup a (hist K xs j))

  -- what is covered is held
  pub covers-held : (xs : Steps K) (j : ℕ) (a : Stamp) → Covers xs j a ≡ true → (f : Share) × (lookup a (hist K xs j) ≡ some f)
  unfolding Covers
  covers-held xs j a h = is_some_lem (lookup a (hist K xs j)) h

  -- it stays covered
  pub covers_up : (x : StepOf K) (xs : Steps K) (j : ℕ) (a : Stamp) → Covers xs j a ≡ true → Covers (x ∷ xs) j a ≡ true
  unfolding Covers
  covers_up x xs j a h = let f = is_some_lem (lookup a (hist K xs j)) h in let e = held_some a f.0 (hist K xs j) f.1 in
      in_held a (hist K (x ∷ xs) j) e.0 (history_keeps K.s x xs j e.0 e.1) e.2

  -- what is acknowledged is covered
  pub covers_stored : (j : ℕ) (w : Write) (y : StepOf K) (ys : Steps K) → srv K (y ∷ ys) j ≡ (acts K.s j (srv K ys j) (store w)).server →
      eqb (code_in (acts K.s j (srv K ys j) (store w)).reply) 11 ≡ false → Covers (y ∷ ys) j w.stamp ≡ true
  unfolding Covers
  covers_stored j w y ys e k = subst (λ (z : Server). is_some (lookup w.stamp z.history) ≡ true) (sym e) (store-held K.s j (srv K ys j) w k)

  covers-valid : (ys : Steps K) → Fair K ys → (j : ℕ) (d : Candidate) (m : Stamped) → In m (marks K.s ys) → m.stamp ≡ d.stamp →
      m.nonce ≡ d.nonce → Covers ys j d.stamp ≡ true → is_valid K.s j (srv K ys j) d ≡ true
  unfolding valid by_history_def
  covers-valid ys fair j d m i a n h =
      let f = covers-held ys j d.stamp h in
      let e = held_some d.stamp f.0 (hist K ys j) f.1 in
      let o = history K ys fair j e.0 e.1 in
      let k : o.0.stamp ≡ m.stamp = sym (ap (λ (z : Write). z.stamp) o.2) ∙ e.2 ∙ sym a in
      let eq : o.0 ≡ m = by-stamp K.s ys o.0 m o.1 i k in
      let nd : f.0.nonce_digest_def ≡ K.s.P.digest d.nonce = sym (ap (λ (z : Share). z.nonce_digest_def) e.3)
      ∙ ap (λ (z : Write). z.share.nonce_digest_def) o.2 ∙ ap (λ (z : Stamped). K.s.P.digest z.nonce) eq ∙ ap K.s.P.digest n in
      or_left _ _ (subst (λ (z : Option Share). has_digest (K.s.P.digest d.nonce) z ≡ true) (sym f.1)
      (same_is f.0.nonce_digest_def (K.s.P.digest d.nonce) nd))

  -- an answer is not below what is covered
  pub not_lower : (ys : Steps K) → Fair K ys → (j : ℕ) (d : Candidate) (m : Stamped) → In m (marks K.s ys) → m.stamp ≡ d.stamp →
      m.nonce ≡ d.nonce → Covers ys j d.stamp ≡ true → (cs : List Candidate) → In d cs →
      below (held_in_def (acts K.s j (srv K ys j) (filter cs)).reply).stamp d.stamp ≡ false
  unfolding act
  not_lower ys fair j d m i a n h cs k = best-max K.s j (srv K ys j) (blank_candidate K.s.config) cs d k (covers-valid ys fair j d m i a n h)
