-- A correct server answers 11 only if more writes than its capacity have got a stamp: its history holds different marks, and none of them is
-- this one.
-- Assumes nothing.
use mathlib.Core.Path.{◌≡◌, refl, sym, ap, ◌∙◌, subst}
use mathlib.Core.Bool.{Bool, true, false, cond}
use mathlib.Core.List.{[], ◌∷◌, ◌++◌, map}
use mathlib.Core.Logic.{◌⊎◌, inl, inr}
use Prim.Native.Nat.{ℕ, ◌≤◌, ◌<◌}
use native.Mathlib.Omega.{arith}
use lib.Dec.{leb}
use lib.ListN.{length, length-map}
use borrow.Author.Tests.{leb-true}
use Rattle.cluster.specs.Ranges.{capacity}
use Rattle.protocol.specs.declared.Stamp.{Stamp}
use Rattle.protocol.specs.Values.{Candidate, Share, Write, below, is_some, blank_candidate}
use Rattle.protocol.specs.Packet.{Body}
use Rattle.protocol.specs.Packet.{clock, clock_reply, store, store_reply, complete, complete_reply, collect, collect_reply, filter, filter_reply, repair}
use Rattle.protocol.specs.Packet.{repair_reply}
use Rattle.protocol.specs.Memory.{lookup}
use Rattle.protocol.specs.Rules.{ByServer}
use Rattle.protocol.specs.Server.{Server, Acted, raise, on_store_def, act}
use Rattle.protocol.specs.Client.{storing, code_in}
use Rattle.runs.proofs.ValueRuns.{now_values}
use Rattle.format.proofs.Answers.{at-cond}
use Rattle.atomicity.specs.Lists.{Ever, In, AllPairs}
use Rattle.atomicity.specs.Steps.{System, Stamped}
use Rattle.atomicity.proofs.Util.{cond_both, clash, rise, ever-map, all_of, in_map, map_in}
use Rattle.atomicity.proofs.Model.{acts, marks, is_valid, best_of}
use Rattle.atomicity.proofs.Setup.{Setup, Steps, Fair, hand, hist, srv}
use Rattle.atomicity.proofs.Serving.{same, acted, served, ServedAt}
use Rattle.atomicity.proofs.Marks.{marks-up}
use Rattle.atomicity.proofs.Begun.{Known, known}
use Rattle.atomicity.proofs.Servers.{in_held}
use Rattle.atomicity.proofs.Histories.{history}
use Rattle.atomicity.proofs.Heard.{Heard}
use Rattle.atomicity.proofs.Telling.{at_step}
use Rattle.atomicity.proofs.Gathered.{pairs_snoc}
use Rattle.atomicity.proofs.Listed.{pigeon, map_apart}

-- ---- a history's stamps differ

Apart : Server → Type 0
Apart v = AllPairs (λ (a b : Write). a.stamp ≡ b.stamp → ⊥) v.history

raise_apart : (c : Candidate) (v : Server) → Apart v → Apart (raise c v)
unfolding raise Apart
raise_apart c v h = cond_both Apart (below v.latest.stamp c.stamp) _ v h h

act_apart : (s : System) (j : ℕ) (v : Server) (x : Body) → Apart v → Apart (acts s j v x).server
unfolding act on_store_def Apart
act_apart s j v clock h = h
act_apart s j v (store w) h = at-cond (is_some (lookup w.stamp v.history)) _ _ (λ (a : Acted). Apart a.server) (λ e. h)
    (λ e. cond_both (λ (a : Acted). Apart a.server) (leb capacity (length v.history)) _ _ h
    (pairs_snoc (λ (a b : Write). a.stamp ≡ b.stamp → ⊥) v.history w h
    (all_of (λ (a : Write). a.stamp ≡ w.stamp → ⊥) v.history (λ a i q. clash (in_held w.stamp v.history a i q) e))))
act_apart s j v (complete c) h = raise_apart c v h
act_apart s j v collect h = h
act_apart s j v (filter cs) h = raise_apart (best_of s j v (blank_candidate s.config) cs) v h
act_apart s j v (repair c) h = cond_both Apart (is_valid s j v c) _ v (raise_apart c v h) h
act_apart s j v (clock_reply x) h = h
act_apart s j v (store_reply x) h = h
act_apart s j v complete_reply h = h
act_apart s j v (collect_reply x) h = h
act_apart s j v (filter_reply x) h = h
act_apart s j v repair_reply h = h

store_full : (s : System) (j : ℕ) (v : Server) (w : Write) → code_in (acts s j v (store w)).reply ≡ 11 →
    (is_some (lookup w.stamp v.history) ≡ false) × (capacity ≤ length v.history)
unfolding act on_store_def
store_full s j v w = go (is_some (lookup w.stamp v.history)) refl (leb capacity (length v.history)) refl
  where
    go : (u : Bool) → is_some (lookup w.stamp v.history) ≡ u → (t : Bool) → leb capacity (length v.history) ≡ t →
        code_in (cond {A = Acted} u (record { server = v; reply = store_reply 10 })
        (cond t (record { server = v; reply = store_reply 11 })
        (record { server = record { latest = v.latest; history = v.history ++ (w ∷ []) }; reply = store_reply 0 }))).reply ≡ 11 →
        (is_some (lookup w.stamp v.history) ≡ false) × (capacity ≤ length v.history)
    go true p t q k = absurd (omega (arith, k))
    go false p true q k = (p, leb-true capacity (length v.history) q)
    go false p false q k = absurd (omega (arith, k))

module _ (K : Setup) where
  history_apart : (xs : Steps K) (j : ℕ) → AllPairs (λ (a b : Write). a.stamp ≡ b.stamp → ⊥) (hist K xs j)
  unfolding now_values AllPairs Apart
  history_apart [] j = tt
  history_apart (x ∷ xs) j = go (served K.s j x xs) (history_apart xs j)
    where
      go : ServedAt K.s j x xs → Apart (srv K xs j) →
          Apart (srv K (x ∷ xs) j)
      go (same e) h = subst Apart (sym e) h
      go (acted p a b c d e) h = subst Apart (sym e) (act_apart K.s j (srv K xs j) p.body h)

  -- the moment of an answer 11, seen from zs
  record Moment (j : ℕ) (a : Stamp) (zs : Steps K) : Type 0 where
    ys : Steps K
    kept-marks : (m : Stamped) → In m (marks K.s ys) → In m (marks K.s zs)
    fair_then : Fair K ys
    not-held : is_some (lookup a (hist K ys j)) ≡ false
    is_full_lem : capacity ≤ length (hist K ys j)

  pub eleven : (c j : ℕ) (xs : Steps K) → (d : Candidate) (g : ByServer Share) → hand K xs c ≡ storing d g → (x : Body) → Ever (Heard K c j xs x) xs →
      code_in x ≡ 11 → capacity < length (marks K.s xs)
  unfolding Known AllPairs In
  eleven c j xs d g hq x ev k =
      let v = rise (Moment j d.stamp)
      (λ x zs f. record {
        ys = f.ys;
        kept-marks = λ m i. marks-up K.s m x zs (f.kept-marks m i);
        fair_then = f.fair_then;
        not-held = f.not-held;
        is_full_lem = f.is_full_lem;
      }) xs
      (ever-map (Heard K c j xs x) (λ y ys. Moment j d.stamp (y ∷ ys)) (λ y ys t. let a = at_step K c j xs x (storing d g) hq y ys t in
      let w = store_full K.s j (srv K ys j) (record { stamp = d.stamp; share = g j }) (sym (ap code_in a.says) ∙ k) in
      record { ys = ys; kept-marks = λ m i. marks-up K.s m y ys i; fair_then = a.old; not-held = w.0; is_full_lem = w.1 }) xs ev) in
      let es = map (λ (e : Write). e.stamp) (hist K v.ys j) in
      let f = subst (Known K.s xs c) hq (known K.s xs c) in
      omega (
        arith,
        v.is_full_lem,
        length-map (hist K v.ys j) (λ (e : Write). e.stamp),
        length-map (marks K.s xs) (λ (m : Stamped). m.stamp),
        pigeon (d.stamp ∷ es) (map (λ (m : Stamped). m.stamp) (marks K.s xs)) (
          all_of (λ z. d.stamp ≡ z → ⊥) es
              (λ z i q. let w = map_in (λ (e : Write). e.stamp) (hist K v.ys j) z i in
              clash (in_held d.stamp (hist K v.ys j) w.0 w.1 (sym (q ∙ w.2))) v.not-held),
          map_apart (λ (e : Write). e.stamp) (λ a b. a.stamp ≡ b.stamp → ⊥) (hist K v.ys j) (λ a b i j r e. r e) (history_apart v.ys j),
        )
            (λ z i. each v.ys z (subst (λ (y : Stamp). In y (map (λ (m : Stamped). m.stamp) (marks K.s xs)))
            (sym (ap (λ (y : Candidate). y.stamp) f.3)) (in_map (λ (m : Stamped). m.stamp) (marks K.s xs) f.0 f.1))
            (λ e l. let o = history K v.ys v.fair_then j e l in
            subst (λ (y : Stamp). In y (map (λ (m : Stamped). m.stamp) (marks K.s xs))) (sym (ap (λ (y : Write). y.stamp) o.2))
            (in_map (λ (m : Stamped). m.stamp) (marks K.s xs) o.0 (v.kept-marks o.0 o.1))) i),
      )
    where
      each : (zs : Steps K) (z : Stamp) → In d.stamp (map (λ (m : Stamped). m.stamp) (marks K.s xs)) →
          ((e : Write) → In e (hist K zs j) → In e.stamp (map (λ (m : Stamped). m.stamp) (marks K.s xs))) →
          (z ≡ d.stamp) ⊎ In z (map (λ (e : Write). e.stamp) (hist K zs j)) → In z (map (λ (m : Stamped). m.stamp) (marks K.s xs))
      each zs z f g (inl q) = subst (λ (y : Stamp). In y (map (λ (m : Stamped). m.stamp) (marks K.s xs))) (sym q) f
      each zs z f g (inr i) = let w = map_in (λ (e : Write). e.stamp) (hist K zs j) z i in
          subst (λ (y : Stamp). In y (map (λ (m : Stamped). m.stamp) (marks K.s xs))) (sym w.2) (g w.0 w.1)
