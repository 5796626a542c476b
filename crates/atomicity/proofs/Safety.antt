-- The one order of a run's calls: sorted by stamp, a write before its reads, then by the begin. Real time holds because the keys go with it
-- (RealTime); each read gives the last write below it because that write's call is in the log and no other write has its stamp.
-- Assumes nothing.
use mathlib.Core.Path.{◌≡◌, sym, ap, ◌∙◌, subst}
use mathlib.Core.Bool.{true}
use mathlib.Core.List.{List, [], ◌∷◌}
use mathlib.Core.Option.{none, some}
use mathlib.Core.Logic.{◌⊎◌, inl, inr}
use Prim.Native.Nat.{ℕ, ◌≤◌, ◌<◌, suc}
use native.Mathlib.Omega.{arith}
use lib.Dec.{ltb}
use borrow.Author.Tests.{ltb-true}
use Rattle.protocol.specs.declared.Stamp.{Stamp}
use Rattle.protocol.specs.Values.{is_some}
use Rattle.atomicity.proofs.Genuine.{Revealed}
use Rattle.atomicity.specs.Page41.{Sourced}
use Rattle.atomicity.specs.Lists.{In, AllPairs}
use Rattle.atomicity.specs.Steps.{Stamped}
use Rattle.atomicity.specs.Claim.{Logged, counted, OneOrder}
use Rattle.atomicity.proofs.Util.{and_intro, or_right, in-keep, keep_pairs, all_map, no_some}
use Rattle.atomicity.proofs.Setup.{Setup, Steps, Fair}
use Rattle.atomicity.proofs.Marks.{mark_num, mark_who}
use Rattle.atomicity.proofs.Nonces.{by-nonce}
use Rattle.atomicity.proofs.Calls.{mark_at, Grounded, ShownBy}
use Rattle.atomicity.proofs.Shape.{Log}
use Rattle.atomicity.proofs.Logs.{Signed}
use Rattle.atomicity.proofs.Story.{story, story-log, story_pairs}
use Rattle.atomicity.proofs.Shown.{Counts, shown_then}
use Rattle.atomicity.proofs.Keys.{lex-lt, lex-eq, lex-view, part, part_write, part_read, lesser, less, less-chain, less_asym}
use Rattle.atomicity.proofs.Keys.{less-total, Rest, less-rest, between}
use Rattle.atomicity.proofs.Ordering.{Clear, Last, Explained, Reads, one-order, ReachedBy, InTurn}
use Rattle.atomicity.proofs.RealTime.{keyless, mark-when, counted_calls, write-reached, read-over, fits, turns}

module _ (K : Setup) (xs : Steps K) (fair : Fair K xs) where
  abbrev call_of : Signed K xs → Logged
  call_of g = g.call

  chain : (a b c : Signed K xs) → keyless a b ≡ true → keyless b c ≡ true → keyless a c ≡ true
  chain a b c = less-chain a.stamp a.call b.stamp b.call c.stamp c.call

  asym : (a b : Signed K xs) → keyless a b ≡ true → keyless b a ≡ true → ⊥
  asym a b = less_asym a.stamp a.call b.stamp b.call

  abbrev gs : List (Signed K xs)
  gs = counted_calls K xs fair

  -- the write that a read's content comes from
  record From (r : Signed K xs) (e : ℕ) : Type 0 where
    known : Signed K xs
    among : In known gs
    content : List ℕ
    wrote : known.call.wrote ≡ some content
    gives : r.call.answer ≡ some content
    stamp_is : known.stamp ≡ r.stamp
    begun : ℕ
    reached : known.call.reached ≡ some begun
    by : begun ≤ e

  from_write : (r : Signed K xs) (e : ℕ) (m : Revealed K xs r.stamp) → r.call.answer ≡ some m.write.content →
      ShownBy K e m.write xs → From r e
  unfolding counted
  from_write r e m v h =
      let C : Counts K xs fair m.write.nonce (suc e) = shown_then K xs fair m.write e h in
      let eq : C.write ≡ m.write = by-nonce K xs fair C.write m.write C.made m.made C.nonce_is in
      record {
        known = C.known;
        among = in-keep (λ (g : Signed K xs). counted g.call) (story K xs fair) C.known C.among
            (or_right (is_some C.known.call.over) _ (and_intro _ _ (ap is_some C.wrote) (ap is_some C.reached)));
        content = m.write.content;
        wrote = C.wrote ∙ ap (λ (z : Stamped). some z.content) eq;
        gives = v;
        stamp_is = sym C.stamp_is ∙ ap (λ (z : Stamped). z.stamp) eq ∙ m.stamp_is;
        begun = C.when;
        reached = C.reached;
        by = omega (arith, C.early);
      }

  -- it stands below the read
  below_it : (r : Signed K xs) (e : ℕ) → r.call.wrote ≡ none → (f : From r e) → keyless f.known r ≡ true
  unfolding less lesser
  below_it r e w f = lex-eq _ _ _ (ap (λ (a : Stamp). a.number) f.stamp_is) (lex-eq _ _ _ (ap (λ (a : Stamp). a.writer) f.stamp_is)
      (lex-lt (part f.known.call) (part r.call) _
      (omega (arith, part_write f.known.call f.content f.wrote, part_read r.call w))))

  -- and no other write between
  last : (r : Signed K xs) (e : ℕ) (f : From r e) (u : Signed K xs) (v : List ℕ) → In u gs → u.call.wrote ≡ some v →
      (f.known.stamp.number ≡ u.stamp.number) × (f.known.stamp.writer ≡ u.stamp.writer) × (lesser f.known.call u.call ≡ true) → ⊥
  unfolding lesser
  last r e f u v j q b =
      let W = (u.ok.base.write v q (write-reached K xs fair u j v q)).own in
      let X = (f.known.ok.base.write f.content f.wrote (write-reached K xs fair f.known f.among f.content f.wrote)).own in
      let wm = mark_at K W.write u.call.begun xs W.since-when in
      let xm = mark_at K X.write f.known.call.begun xs X.since-when in
      let sn : X.write.stamp.number ≡ W.write.stamp.number = ap (λ (a : Stamp). a.number) X.stamp_is ∙ b.0
      ∙ sym (ap (λ (a : Stamp). a.number) W.stamp_is) in
      let sw : X.write.stamp.writer ≡ W.write.stamp.writer = ap (λ (a : Stamp). a.writer) X.stamp_is ∙ b.1
      ∙ sym (ap (λ (a : Stamp). a.writer) W.stamp_is) in
      let t = mark-when K xs X.write W.write f.known.call.begun u.call.begun
      (sym (mark_who K.s xs X.write xm) ∙ sw ∙ mark_who K.s xs W.write wm) sn X.since-when W.since-when in
      early t (lex-view _ _ _ b.2)
    where
      early : f.known.call.begun ≡ u.call.begun → (part f.known.call < part u.call)
          ⊎ ((part f.known.call ≡ part u.call) × (ltb f.known.call.begun u.call.begun ≡ true)) → ⊥
      early t (inl k) = omega (arith, k, part_write u.call v q)
      early t (inr k) = omega (arith, t, ltb-true f.known.call.begun u.call.begun k.1)

  -- a read gives the last write below it
  reads : Reads call_of keyless chain asym none gs
  unfolding Reads Explained Clear Last less lesser
  reads r i w = let o = read-over K xs fair r i w in go o.0 (r.ok.base.read o.0 w o.1).value
    where
      go : (e : ℕ) → Grounded K xs e r.call.answer r.stamp → Explained call_of keyless chain asym none gs r
      go e (inl p) = inl (p.0, λ u v j q l. clear u v j q (less-rest u.stamp u.call r.stamp r.call l))
        where
          clear : (u : Signed K xs) (v : List ℕ) → In u gs → u.call.wrote ≡ some v → Rest u.stamp u.call r.stamp r.call → ⊥
          clear u v j q (inl k) = omega (arith, k, ap (λ (a : Stamp). a.number) p.1)
          clear u v j q (inr k) = let W = (u.ok.base.write v q (write-reached K xs fair u j v q)).own in
              omega (
                arith,
                k.0,
                ap (λ (a : Stamp). a.number) p.1,
                mark_num K.s xs W.write (mark_at K W.write u.call.begun xs W.since-when),
                ap (λ (a : Stamp). a.number) W.stamp_is,
              )
      go e (inr g) =
          let f = from_write r e g.0 g.1 g.2 in
          inr (
            f.known,
            f.content,
            f.gives,
            (
              f.among,
              f.wrote,
              unfold less lesser in below_it r e w f,
              λ u v j q l k. last r e f u v j q (between f.known.stamp f.known.call u.stamp u.call r.stamp r.call
                  (ap (λ (a : Stamp). a.number) f.stamp_is) (ap (λ (a : Stamp). a.writer) f.stamp_is)
                  (less-rest f.known.stamp f.known.call u.stamp u.call k) (less-rest u.stamp u.call r.stamp r.call l)),
            ),
          )

  -- whatever a read gave was written by a write below it, whose complete round had begun by then
  sources : (r : Signed K xs) → In r gs → (v : List ℕ) → r.call.wrote ≡ none → r.call.answer ≡ some v →
      (w : Signed K xs) × In w gs × (keyless w r ≡ true) × (w.call.wrote ≡ some v) × ReachedBy w.call r.call
  sources r i v w a = let o = read-over K xs fair r i w in go o.0 o.1 (r.ok.base.read o.0 w o.1).value
    where
      go : (e : ℕ) → r.call.over ≡ some e → Grounded K xs e r.call.answer r.stamp →
          (w : Signed K xs) × In w gs × (keyless w r ≡ true) × (w.call.wrote ≡ some v) × ReachedBy w.call r.call
      go e q (inl p) = absurd (no_some (sym p.0 ∙ a))
      go e q (inr g) =
          let f = from_write r e g.0 g.1 g.2 in (
            f.known,
            f.among,
            below_it r e w f,
            f.wrote ∙ sym f.gives ∙ a,
            (f.begun, e, f.reached, q, f.by),
          )

  apart : AllPairs (λ a b. (keyless a b ≡ true) ⊎ (keyless b a ≡ true)) gs
  unfolding AllPairs
  apart = weaken gs (keep_pairs (λ (a b : Signed K xs). b.call.begun < a.call.begun) (λ (g : Signed K xs). counted g.call) (story K xs fair)
      (story_pairs K xs fair))
    where
      weaken : (l : List (Signed K xs)) → AllPairs (λ (a b : Signed K xs). b.call.begun < a.call.begun) l →
          AllPairs (λ a b. (keyless a b ≡ true) ⊎ (keyless b a ≡ true)) l
      weaken [] h = tt
      weaken (a ∷ l) h = (
        all_map (λ (b : Signed K xs). b.call.begun < a.call.begun) (λ b. (keyless a b ≡ true) ⊎ (keyless b a ≡ true))
            (λ b k. less-total a.stamp a.call b.stamp b.call k) l h.0,
        weaken l h.1,
      )

  -- the order, where in it a read's content comes from, and a client's writes in their turn
  pub ordered : (o : OneOrder (Log K xs)) × (Sourced [] o.order × InTurn o.order)
  ordered = subst (λ (l : List Logged). (o : OneOrder l) × (Sourced [] o.order × InTurn o.order)) (story-log K xs fair)
      (one-order call_of keyless chain asym (story K xs fair) apart (fits K xs fair) (turns K xs fair) reads sources)
