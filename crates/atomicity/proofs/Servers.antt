-- What a request does to a server: the latest never falls, the history keeps its writes and grows by a stored one only, and a new latest is
-- the blank, a valid candidate of the request, or the one of a complete. And lookups in a history.
-- Assumes nothing.
use mathlib.Core.Path.{◌≡◌, refl, sym, ap, ◌∙◌, subst}
use mathlib.Core.Bool.{Bool, true, false, cond}
use mathlib.Core.List.{List, [], ◌∷◌, ◌++◌}
use mathlib.Core.Option.{Option, none, some}
use mathlib.Core.Logic.{◌⊎◌, inl, inr}
use Prim.Native.Nat.{ℕ}
use native.Mathlib.Omega.{arith}
use lib.Dec.{leb, eqb}
use lib.ListN.{length}
use Rattle.cluster.specs.Ranges.{capacity}
use Rattle.protocol.specs.declared.Stamp.{Stamp}
use Rattle.protocol.specs.Values.{Candidate, Share, Write, below, same_stamp, blank_candidate, is_some}
use Rattle.protocol.specs.Packet.{Body}
use Rattle.protocol.specs.Packet.{clock, clock_reply, store, store_reply, complete, complete_reply, collect, collect_reply, filter, filter_reply, repair}
use Rattle.protocol.specs.Packet.{repair_reply}
use Rattle.protocol.specs.Memory.{lookup}
use Rattle.protocol.specs.Server.{Server, Acted, has_digest, raise, on_store_def, act}
use Rattle.protocol.specs.Client.{code_in}
use Rattle.protocol.proofs.Equal.{same_true, stamp-same, stamp-refl}
use Rattle.format.proofs.Answers.{at-cond}
use Rattle.atomicity.specs.Lists.{In}
use Rattle.atomicity.specs.Steps.{StepIn, System, judged}
use Rattle.atomicity.proofs.Util.{cond_both, clash, left_in, right_in, split_in}
use Rattle.atomicity.proofs.Stamps.{below_irrefl, below_asym}
use Rattle.atomicity.proofs.Model.{Run, server_at_def, latest_at, history_at, acts, is_valid, best_of}
use Rattle.atomicity.proofs.Serving.{ServedAt, same, acted, served}
use Rattle.atomicity.proofs.Best.{best_case, repair-judged}

-- ---- lookups in a history

pub held_some : (a : Stamp) (f : Share) (es : List Write) → lookup a es ≡ some f → (e : Write) × In e es × (e.stamp ≡ a) × (e.share ≡ f)
unfolding lookup In
held_some a f [] h = absurd (let z : ◌≡◌ {A = ℕ} 0 1 = cc in omega arith)
held_some a f (e ∷ es) h = go (same_stamp e.stamp a) refl h (λ k. held_some a f es k)
  where
    go : (b : Bool) → same_stamp e.stamp a ≡ b → cond b (some e.share) (lookup a es) ≡ some f →
        (lookup a es ≡ some f → (x : Write) × In x es × (x.stamp ≡ a) × (x.share ≡ f)) →
        (x : Write) × In x (e ∷ es) × (x.stamp ≡ a) × (x.share ≡ f)
    go true q k r = (e, inl refl, stamp-same e.stamp a q, let z : e.share ≡ f = cc in z)
    go false q k r = let y = r k in (y.0, inr y.1, y.2, y.3)

pub in_held : (a : Stamp) (es : List Write) (e : Write) → In e es → e.stamp ≡ a → is_some (lookup a es) ≡ true
unfolding lookup In
in_held a [] e i q = absurd i
in_held a (x ∷ es) e (inl p) q = subst (λ (b : Bool). is_some (cond b (some x.share) (lookup a es)) ≡ true)
    (sym (subst (λ (y : Stamp). same_stamp y a ≡ true) (sym (ap (λ (y : Write). y.stamp) (sym p) ∙ q)) (stamp-refl a))) refl
in_held a (x ∷ es) e (inr i) q = go (same_stamp x.stamp a) (in_held a es e i q)
  where
    go : (b : Bool) → is_some (lookup a es) ≡ true → is_some (cond b (some x.share) (lookup a es)) ≡ true
    go true k = refl
    go false k = k

-- a write of the history behind a nonce digest
pub held-digest : (a : Stamp) (d : List ℕ) (es : List Write) → has_digest d (lookup a es) ≡ true → (e : Write) × In e es × (e.stamp ≡ a)
    × (e.share.nonce_digest_def ≡ d)
held-digest a d es h = go (lookup a es) refl h
  where
    go : (o : Option Share) → lookup a es ≡ o → has_digest d o ≡ true → (e : Write) × In e es × (e.stamp ≡ a) × (e.share.nonce_digest_def ≡ d)
    go none q k = clash k refl
    go (some f) q k = let r = held_some a f es q in (r.0, r.1, r.2, ap (λ (z : Share). z.nonce_digest_def) r.3 ∙ same_true f.nonce_digest_def d k)

-- ---- raise

pub raise_ge : (c : Candidate) (v : Server) → below (raise c v).latest.stamp c.stamp ≡ false
unfolding raise
raise_ge c v = at-cond (below v.latest.stamp c.stamp) _ v (λ (y : Server). below y.latest.stamp c.stamp ≡ false)
    (λ e. below_irrefl c.stamp) (λ e. e)

raise_rises : (c : Candidate) (v : Server) → below (raise c v).latest.stamp v.latest.stamp ≡ false
unfolding raise
raise_rises c v = at-cond (below v.latest.stamp c.stamp) _ v (λ (y : Server). below y.latest.stamp v.latest.stamp ≡ false)
    (λ e. below_asym v.latest.stamp c.stamp e) (λ e. below_irrefl v.latest.stamp)

raise-history : (c : Candidate) (v : Server) → (raise c v).history ≡ v.history
unfolding raise
raise-history c v = cond_both (λ (y : Server). y.history ≡ v.history) (below v.latest.stamp c.stamp) _ v refl refl

raise-view : (c : Candidate) (v : Server) → ((raise c v).latest ≡ v.latest)
    ⊎ (((raise c v).latest ≡ c) × (below v.latest.stamp c.stamp ≡ true))
unfolding raise
raise-view c v = at-cond (below v.latest.stamp c.stamp) _ v
    (λ (y : Server). (y.latest ≡ v.latest) ⊎ ((y.latest ≡ c) × (below v.latest.stamp c.stamp ≡ true))) (λ e. inr (refl, e)) (λ e. inl refl)

-- ---- one request

module _ (s : System) (j : ℕ) where
  -- where a new latest comes from
  abbrev pub Origin : Server → Body → Candidate → Type 0
  Origin v x c = (c ≡ blank_candidate s.config) ⊎ ((In c (judged s j v x) × (is_valid s j v c ≡ true)) ⊎ (x ≡ complete c))

  -- a server before and after the request x
  pub record Grows (v : Server) (x : Body) (v' : Server) : Type 0 where
    pub rises : below v'.latest.stamp v.latest.stamp ≡ false
    pub keeps : (e : Write) → In e v.history → In e v'.history
    pub new : (e : Write) → In e v'.history → In e v.history ⊎ (x ≡ store e)
    pub latest : (v'.latest ≡ v.latest) ⊎ Origin v x v'.latest

  unmoved : (v : Server) (x : Body) → Grows v x v
  unmoved v x = record { rises = below_irrefl v.latest.stamp; keeps = λ e i. i; new = λ e i. inl i; latest = inl refl }

  raised : (v : Server) (x : Body) (c : Candidate) → (below v.latest.stamp c.stamp ≡ true → Origin v x c) → Grows v x (raise c v)
  raised v x c o = record {
    rises = raise_rises c v;
    keeps = λ e i. subst (In e) (sym (raise-history c v)) i;
    new = λ e i. inl (subst (In e) (raise-history c v) i);
    latest = go (raise-view c v);
  }
    where
      go : ((raise c v).latest ≡ v.latest) ⊎ (((raise c v).latest ≡ c) × (below v.latest.stamp c.stamp ≡ true)) →
          ((raise c v).latest ≡ v.latest) ⊎ Origin v x (raise c v).latest
      go (inl e) = inl e
      go (inr e) = inr (subst (Origin v x) (sym e.0) (o e.1))

  stored : (v : Server) (w : Write) → Grows v (store w) (record { latest = v.latest; history = v.history ++ (w ∷ []) })
  unfolding In
  stored v w = record {
    rises = below_irrefl v.latest.stamp;
    keeps = λ e i. left_in e v.history (w ∷ []) i;
    new = λ e i. go e (split_in e v.history (w ∷ []) i);
    latest = inl refl;
  }
    where
      go : (e : Write) → In e v.history ⊎ ((e ≡ w) ⊎ ⊥) → In e v.history ⊎ (store w ≡ store e)
      go e (inl i) = inl i
      go e (inr (inl q)) = inr (ap store (sym q))
      go e (inr (inr z)) = absurd z

  pub act_grows : (v : Server) (x : Body) → Grows v x (acts s j v x).server
  unfolding act on_store_def judged In
  act_grows v clock = unmoved v clock
  act_grows v (store w) = cond_both (λ (a : Acted). Grows v (store w) a.server) (is_some (lookup w.stamp v.history)) _ _ (unmoved v (store w))
      (cond_both (λ (a : Acted). Grows v (store w) a.server) (leb capacity (length v.history)) _ _ (unmoved v (store w)) (stored v w))
  act_grows v (complete c) = raised v (complete c) c (λ up. inr (inr refl))
  act_grows v collect = unmoved v collect
  act_grows v (filter cs) = raised v (filter cs) (best_of s j v (blank_candidate s.config) cs) (λ up. go (best_case s j v (filter cs)))
    where
      c : Candidate
      c = best_of s j v (blank_candidate s.config) cs

      go : (c ≡ blank_candidate s.config) ⊎ (In c (judged s j v (filter cs)) × (In c cs × (is_valid s j v c ≡ true))) → Origin v (filter cs) c
      go (inl e) = inl e
      go (inr p) = inr (inl (p.0, p.1.1))
  act_grows v (repair c) = at-cond (is_valid s j v c) _ v (λ (y : Server). Grows v (repair c) y)
      (λ e. raised v (repair c) c (λ up. inr (inl (repair-judged s j v c e up, e)))) (λ e. unmoved v (repair c))
  act_grows v (clock_reply x) = unmoved v (clock_reply x)
  act_grows v (store_reply x) = unmoved v (store_reply x)
  act_grows v complete_reply = unmoved v complete_reply
  act_grows v (collect_reply x) = unmoved v (collect_reply x)
  act_grows v (filter_reply x) = unmoved v (filter_reply x)
  act_grows v repair_reply = unmoved v repair_reply

-- a reply other than 11 to a store means that the stamp is held
pub store-held : (s : System) (j : ℕ) (v : Server) (w : Write) → eqb (code_in (acts s j v (store w)).reply) 11 ≡ false →
    is_some (lookup w.stamp (acts s j v (store w)).server.history) ≡ true
unfolding act on_store_def In
store-held s j v w = go (is_some (lookup w.stamp v.history)) refl (leb capacity (length v.history))
  where
    go : (u : Bool) → is_some (lookup w.stamp v.history) ≡ u → (t : Bool) →
        let a = cond {A = Acted} u (record { server = v; reply = store_reply 10 })
        (cond t (record { server = v; reply = store_reply 11 })
        (record { server = record { latest = v.latest; history = v.history ++ (w ∷ []) }; reply = store_reply 0 })) in
        eqb (code_in a.reply) 11 ≡ false → is_some (lookup w.stamp a.server.history) ≡ true
    go true q t k = q
    go false q true k = clash refl k
    go false q false k = in_held w.stamp (v.history ++ (w ∷ [])) w (right_in w v.history (w ∷ []) (inl refl)) refl

-- ---- along a run

module _ (s : System) where
  pub latest_rises : (x : StepIn s) (xs : Run s) (j : ℕ) → below (latest_at s (x ∷ xs) j) (latest_at s xs j) ≡ false
  latest_rises x xs j = go (served s j x xs)
    where
      Goal : Server → Type 0
      Goal v = below v.latest.stamp (latest_at s xs j) ≡ false

      go : ServedAt s j x xs → Goal (server_at_def s (x ∷ xs) j)
      go (same e) = subst Goal (sym e) (below_irrefl (latest_at s xs j))
      go (acted p a b c d e) = subst Goal (sym e) (act_grows s j (server_at_def s xs j) p.body).rises

  pub history_keeps : (x : StepIn s) (xs : Run s) (j : ℕ) (e : Write) → In e (history_at s xs j) → In e (history_at s (x ∷ xs) j)
  history_keeps x xs j e i = go (served s j x xs)
    where
      go : ServedAt s j x xs → In e (history_at s (x ∷ xs) j)
      go (same q) = subst (λ (v : Server). In e v.history) (sym q) i
      go (acted p a b c d q) = subst (λ (v : Server). In e v.history) (sym q) ((act_grows s j (server_at_def s xs j) p.body).keeps e i)
