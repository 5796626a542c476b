-- What is known of each call of the log, with a stamp that the proof keeps beside it; and that it lasts while other calls step. A write's
-- stamp is above all that had ended when it began, a read's is at least as high and is that of the write whose content it gave.
-- Assumes nothing.
use mathlib.Core.Path.{◌≡◌, refl, sym, ap, ◌∙◌, subst}
use mathlib.Core.Bool.{Bool, true, false, cond}
use mathlib.Core.List.{List, [], ◌∷◌}
use mathlib.Core.Option.{Option, none, some}
use mathlib.Core.Logic.{◌⊎◌, inl, inr}
use Prim.Native.Nat.{ℕ, suc, ◌≤◌, ◌<◌}
use native.Mathlib.Omega.{arith}
use lib.Dec.{eqb}
use lib.ListN.{length}
use Rattle.protocol.specs.declared.Stamp.{Stamp}
use Rattle.protocol.specs.Values.{Candidate, below, blank_stamp, is_some}
use Rattle.protocol.specs.Packet.{Packet, decode}
use Rattle.protocol.specs.Client.{Client, Hand, Result, idle, clocking, storing, completing, collecting, filtering, repairing, begun, onto, accepted}
use Rattle.runs.specs.Runs.{Lent, take-reply}
use Rattle.format.proofs.Answers.{at-cond}
use Rattle.atomicity.specs.Lists.{Ever, In}
use Rattle.atomicity.specs.Steps.{Stamped, stamped_at}
use Rattle.atomicity.specs.Claim.{Logged}
use Rattle.atomicity.proofs.Util.{left_in, right_in}
use Rattle.atomicity.proofs.Model.{account, marks}
use Rattle.atomicity.proofs.Setup.{Setup, Steps, StepOf, hand, calls, cli, Show, result}
use Rattle.atomicity.proofs.Moves.{kept, wbegan, rbegan, quit, took, moved, MovedAt}
use Rattle.atomicity.proofs.Rounds.{turn_turned}
use Rattle.atomicity.proofs.Positions.{since, since-same}
use Rattle.atomicity.proofs.Genuine.{Revealed, revealed-up}
use Rattle.atomicity.proofs.Invariant.{Ends}

module _ (K : Setup) where
  -- a mark, and when its call began
  abbrev pub MarkAt : Stamped → ℕ → Steps K → Type 0
  MarkAt m t xs = Ever (λ (y : StepOf K) ys. In m (stamped_at K.s (account K.s) y ys) × (length (since K.s m.client ys) ≡ t)) xs

  pub mark_at : (m : Stamped) (t : ℕ) (zs : Steps K) → MarkAt m t zs → In m (marks K.s zs)
  unfolding Ever marks
  mark_at m t [] h = absurd h
  mark_at m t (z ∷ zs) (inl h) = left_in m (stamped_at K.s (account K.s) z zs) (marks K.s zs) h.0
  mark_at m t (z ∷ zs) (inr h) = right_in m (stamped_at K.s (account K.s) z zs) (marks K.s zs) (mark_at m t zs h)

  pub since-length : (c : ℕ) (xs : Steps K) → length (since K.s c xs) ≤ length xs
  unfolding since
  since-length c [] = omega arith
  since-length c (x ∷ xs) = at-cond (eqb (calls K xs c) (calls K (x ∷ xs) c)) _ xs (λ (z : Steps K). length z ≤ length (x ∷ xs))
      (λ e. omega (arith, since-length c xs)) (λ e. omega arith)

  -- an end before the begin of the call lies before it
  pub ends_since : (c : ℕ) (xs : Steps K) (a : Stamp) (e : ℕ) → Ends K a e xs → e < length (since K.s c xs) → Ends K a e (since K.s c xs)
  unfolding since Ever
  ends_since c [] a e h l = h
  ends_since c (x ∷ xs) a e h l = go (eqb (calls K xs c) (calls K (x ∷ xs) c)) h l (λ k m. ends_since c xs a e k m) (since-length c xs)
    where
      go : (b : Bool) → Ends K a e (x ∷ xs) → e < length (cond b (since K.s c xs) xs) →
          (Ends K a e xs → e < length (since K.s c xs) → Ends K a e (since K.s c xs)) →
          length (since K.s c xs) ≤ length xs → Ends K a e (cond b (since K.s c xs) xs)
      go true (inl k) m f n = absurd (omega (arith, k.0, m, n))
      go true (inr k) m f n = f k m
      go false (inl k) m f n = absurd (omega (arith, k.0, m))
      go false (inr k) m f n = k

  pub ends_back : (x : StepOf K) (xs : Steps K) (a : Stamp) (e : ℕ) → Ends K a e (x ∷ xs) → e < length xs → Ends K a e xs
  unfolding Ever
  ends_back x xs a e (inl k) l = absurd (omega (arith, k.0, l))
  ends_back x xs a e (inr k) l = k

  -- ---- a call of the log, with its stamp

  -- the mark of client c's write that began after t steps, with content v and stamp σ
  pub record Own (xs : Steps K) (c t : ℕ) (v : List ℕ) (σ : Stamp) : Type 0 where
    pub write : Stamped
    pub client_is : write.client ≡ c
    pub content_is : write.content ≡ v
    pub stamp_is : write.stamp ≡ σ
    pub since-when : MarkAt write t xs

  pub record WriteOf (xs : Steps K) (c t : ℕ) (v : List ℕ) (σ : Stamp) : Type 0 where
    pub floor : (b : Stamp) (e : ℕ) → Ends K b e xs → e < t → b.number < σ.number
    pub own : Own xs c t v σ

  -- the write had shown its nonce when a step was done that e steps came before
  abbrev pub ShownBy : ℕ → Stamped → Steps K → Type 0
  ShownBy e m xs = Ever (λ y ys. (length ys ≡ e) × Ever (Show K m.client m.nonce) (y ∷ ys)) xs

  -- the answer is blank, or the content of a write that has shown its nonce, and had so when the read ended
  abbrev pub Grounded : Steps K → ℕ → Option (List ℕ) → Stamp → Type 0
  Grounded xs e v σ =
      ((v ≡ none) × (σ ≡ blank_stamp))
      ⊎ ((r : Revealed K xs σ) × (v ≡ some r.write.content) × ShownBy e r.write xs)

  pub record Read (xs : Steps K) (a : Logged) (e : ℕ) (σ : Stamp) : Type 0 where
    pub floor : (b : Stamp) (e : ℕ) → Ends K b e xs → e < a.begun → below σ b ≡ false
    pub value : Grounded xs e a.answer σ

  pub record Base (xs : Steps K) (a : Logged) (σ : Stamp) : Type 0 where
    pub begun-lt : a.begun < length xs
    pub number-le : a.number ≤ calls K xs a.client
    pub ended : (e : ℕ) → a.over ≡ some e → (a.begun < e) × (e < length xs) × Ends K σ e xs
    pub write : (v : List ℕ) → a.wrote ≡ some v → is_some a.reached ≡ true → WriteOf xs a.client a.begun v σ
    pub read : (e : ℕ) → a.wrote ≡ none → a.over ≡ some e → Read xs a e σ
    pub reaches : (v : List ℕ) (e : ℕ) → a.wrote ≡ some v → a.over ≡ some e → is_some a.reached ≡ true
    pub reach-lt : (k : ℕ) → a.reached ≡ some k → k < length xs
    pub leaves : a.gave_up ≡ true → a.over ≡ none

  -- the call in hand
  pub record Open (xs : Steps K) (a : Logged) : Type 0 where
    pub going : a.over ≡ none
    pub staying : a.gave_up ≡ false
    pub began : a.begun ≡ length (since K.s a.client xs)
    pub unreached : a.reached ≡ none

  -- a write in hand that has its stamp
  pub record Writing (xs : Steps K) (a : Logged) (σ : Stamp) (d : Candidate) : Type 0 where
    pub content : List ℕ
    pub content_is : a.wrote ≡ some content
    pub own : Own xs a.client a.begun content σ
    pub hand_is : d.stamp ≡ σ

  unfoldable pub Cur : Steps K → Logged → Stamp → Hand → Type 0
  Cur xs a σ idle = Unit {0}
  Cur xs a σ (clocking r n k) = Open xs a × (a.wrote ≡ some r)
  Cur xs a σ (storing d g) = Open xs a × Writing xs a σ d
  Cur xs a σ (completing d) = Writing xs a σ d × (a.over ≡ none) × (a.gave_up ≡ false) × (is_some a.reached ≡ true)
  Cur xs a σ (collecting g) = Open xs a × (a.wrote ≡ none)
  Cur xs a σ (filtering cs g) = Open xs a × (a.wrote ≡ none)
  Cur xs a σ (repairing d r) = Open xs a × (a.wrote ≡ none)

  pub record CallOk (xs : Steps K) (a : Logged) (σ : Stamp) : Type 0 where
    pub base : Base xs a σ
    pub current : a.number ≡ calls K xs a.client → Cur xs a σ (hand K xs a.client)

  -- ---- what lasts

  own-up : (x : StepOf K) (xs : Steps K) (c t : ℕ) (v : List ℕ) (σ : Stamp) → Own xs c t v σ → Own (x ∷ xs) c t v σ
  unfolding Ever
  own-up x xs c t v σ o =
      record { write = o.write; client_is = o.client_is; content_is = o.content_is; stamp_is = o.stamp_is; since-when = inr o.since-when }

  pub written-up : (x : StepOf K) (xs : Steps K) (c t : ℕ) (v : List ℕ) (σ : Stamp) → t < length xs → WriteOf xs c t v σ
      → WriteOf (x ∷ xs) c t v σ
  written-up x xs c t v σ l w =
      record { floor = λ b e k m. w.floor b e (ends_back x xs b e k (omega (arith, l, m))) m; own = own-up x xs c t v σ w.own }

  pub base-up : (x : StepOf K) (xs : Steps K) (a : Logged) (σ : Stamp) → calls K xs a.client ≤ calls K (x ∷ xs) a.client → Base xs a σ →
      Base (x ∷ xs) a σ
  unfolding Ever revealed-up
  base-up x xs a σ l h = record {
    begun-lt = omega (arith, h.begun-lt);
    number-le = omega (arith, h.number-le, l);
    ended = λ e q. let r = h.ended e q in (r.0, omega (arith, r.1), inr r.2);
    write = λ v p q. written-up x xs a.client a.begun v σ h.begun-lt (h.write v p q);
    read = λ e p q. let r = h.read e p q in
        record { floor = λ b i k m. r.floor b i (ends_back x xs b i k (omega (arith, m, h.begun-lt))) m; value = go e r.value };
    reaches = h.reaches;
    reach-lt = λ k q. omega (arith, h.reach-lt k q);
    leaves = h.leaves;
  }
    where
      go : (e : ℕ) → Grounded xs e a.answer σ → Grounded (x ∷ xs) e a.answer σ
      go e (inl p) = inl p
      go e (inr g) = inr (revealed-up K σ x xs g.0, g.1, inr g.2)

  pub open_up : (x : StepOf K) (xs : Steps K) (a : Logged) → calls K xs a.client ≡ calls K (x ∷ xs) a.client → Open xs a → Open (x ∷ xs) a
  open_up x xs a e h = record {
    going = h.going;
    staying = h.staying;
    began = h.began ∙ ap length (sym (since-same K.s a.client x xs e));
    unreached = h.unreached;
  }

  pub writing-up : (x : StepOf K) (xs : Steps K) (a : Logged) (σ : Stamp) (d : Candidate) → Writing xs a σ d → Writing (x ∷ xs) a σ d
  writing-up x xs a σ d h = record {
    content = h.content;
    content_is = h.content_is;
    own = own-up x xs a.client a.begun h.content σ h.own;
    hand_is = h.hand_is;
  }

  pub cur-up : (x : StepOf K) (xs : Steps K) (a : Logged) (σ : Stamp) (h : Hand) → calls K xs a.client ≡ calls K (x ∷ xs) a.client →
      Cur xs a σ h → Cur (x ∷ xs) a σ h
  unfolding Cur
  cur-up x xs a σ idle e c = tt
  cur-up x xs a σ (clocking r n k) e c = (open_up x xs a e c.0, c.1)
  cur-up x xs a σ (storing d g) e c = (open_up x xs a e c.0, writing-up x xs a σ d c.1)
  cur-up x xs a σ (completing d) e c = (writing-up x xs a σ d c.0, c.1, c.2, c.3)
  cur-up x xs a σ (collecting g) e c = (open_up x xs a e c.0, c.1)
  cur-up x xs a σ (filtering cs g) e c = (open_up x xs a e c.0, c.1)
  cur-up x xs a σ (repairing d r) e c = (open_up x xs a e c.0, c.1)

  -- what a step keeps of a call
  pub record Keeps (a : Logged) (σ : Stamp) (b : Logged) (τ : Stamp) : Type 0 where
    pub client : b.client ≡ a.client
    pub number : b.number ≡ a.number
    pub begun : b.begun ≡ a.begun
    pub wrote : b.wrote ≡ a.wrote
    pub reached : is_some a.reached ≡ true → (b.reached ≡ a.reached) × (τ ≡ σ)

  pub keeps-refl : (a : Logged) (σ : Stamp) → Keeps a σ a σ
  keeps-refl a σ = record { client = refl; number = refl; begun = refl; wrote = refl; reached = λ e. (refl, refl) }

  -- a call that takes no reply in this step
  pub carry : (x : StepOf K) (xs : Steps K) (a : Logged) (σ : Stamp) → CallOk xs a σ →
      ((p : Packet) (lent : Lent) (b o : List ℕ) → x.step ≡ take-reply a.client lent b o → decode b ≡ some p →
      accepted (result K x xs) ≡ true → a.number ≡ calls K xs a.client → ⊥) →
      CallOk (x ∷ xs) a σ
  unfolding Cur begun onto
  carry x xs a σ h f = go (moved K.s a.client x xs)
    where
      cl' : Client
      cl' = cli K (x ∷ xs) a.client

      go : MovedAt K.s a.client x xs → CallOk (x ∷ xs) a σ
      go (kept e _) = let q : calls K xs a.client ≡ cl'.calls = sym (ap (λ (z : Client). z.calls) e) in
          record {
            base = base-up x xs a σ (omega (arith, q)) h.base;
            current = λ n. subst (λ (z : Client). Cur (x ∷ xs) a σ z.hand) (sym e)
                (cur-up x xs a σ (hand K xs a.client) q (h.current (n ∙ sym q)));
          }
      go (wbegan r n s b i l e) = let q : cl'.calls ≡ suc (calls K xs a.client) = ap (λ (z : Client). z.calls) e in
          record { base = base-up x xs a σ (omega (arith, q)) h.base; current = λ n. absurd (omega (arith, n, q, h.base.number-le)) }
      go (rbegan s b i e) = let q : cl'.calls ≡ suc (calls K xs a.client) = ap (λ (z : Client). z.calls) e in
          record { base = base-up x xs a σ (omega (arith, q)) h.base; current = λ n. absurd (omega (arith, n, q, h.base.number-le)) }
      go (quit s b i e) = let q : cl'.calls ≡ calls K xs a.client = ap (λ (z : Client). z.calls) e in
          record {
            base = base-up x xs a σ (omega (arith, q)) h.base;
            current = λ n. subst (λ (z : Client). Cur (x ∷ xs) a σ z.hand) (sym e) tt;
          }
      go (took p lent b o s rd fit e v) = let t = turn_turned K.s a.client (cli K xs a.client) p in
          let q : cl'.calls ≡ calls K xs a.client = ap (λ (z : Client). z.calls) e ∙ t.calls in
          record {
            base = base-up x xs a σ (omega (arith, q)) h.base;
            current = λ n. absurd (f p lent b o s rd (subst (λ (z : Result). accepted z ≡ true) (sym v) t.fine) (n ∙ q));
          }
