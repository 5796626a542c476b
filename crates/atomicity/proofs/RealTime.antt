-- Sorted by stamp, a write before its reads, then by the begin, the calls of a run that count stand as time has them: one that had ended when
-- another began stands below it, and so does a client's earlier write. For a call's stamp is above, or no lower than, what had ended when it began,
-- and the numbers of a client's stamps rise from call to call.
-- Assumes nothing.
use mathlib.Core.Path.{◌≡◌, refl, sym, ap, ◌∙◌}
use mathlib.Core.Bool.{Bool, true, ◌&&◌}
use mathlib.Core.List.{List, [], ◌∷◌}
use mathlib.Core.Option.{Option, none, some}
use mathlib.Core.Logic.{◌⊎◌, inl, inr}
use Prim.Native.Nat.{ℕ, ◌≤◌, ◌<◌}
use native.Mathlib.Omega.{arith}
use lib.Dec.{ltb, eqb}
use lib.ListN.{length}
use native.Mathlib.Nat.{le_trans}
use borrow.Author.Tests.{eqb-true, ltb-true, ltb-false, lt-ltb}
use Rattle.protocol.specs.declared.Stamp.{Stamp}
use Rattle.protocol.specs.Values.{is_some}
use Rattle.protocol.specs.Rules.{keep}
use Rattle.format.proofs.Answers.{at-cond}
use Rattle.atomicity.specs.Page41.{earlier_own}
use Rattle.atomicity.specs.Lists.{Ever, In}
use Rattle.atomicity.specs.Steps.{Stamped}
use Rattle.atomicity.specs.Claim.{ended_by, before, counted}
use Rattle.atomicity.proofs.Util.{bool_case, clash, and_left, and_right, or_cases, keep_in, is_some_lem}
use Rattle.atomicity.proofs.Stamps.{le-view}
use Rattle.atomicity.proofs.Setup.{Setup, Steps, Fair, calls}
use Rattle.atomicity.proofs.Positions.{since}
use Rattle.atomicity.proofs.Marks.{mark_source}
use Rattle.atomicity.proofs.Rising.{above}
use Rattle.atomicity.proofs.Calls.{MarkAt, mark_at, since-length}
use Rattle.atomicity.proofs.Logs.{Signed}
use Rattle.atomicity.proofs.Story.{story}
use Rattle.atomicity.proofs.Keys.{lex-lt, lex-eq, part, part_write, part_read, wrote_case, lesser, less}

-- the order, by the keys of two known calls
abbrev pub keyless : {K : Setup} {xs : Steps K} → Signed K xs → Signed K xs → Bool
keyless g h = less g.stamp g.call h.stamp h.call

module _ (K : Setup) where
  -- a mark tells when its call began
  pub mark-when : (xs : Steps K) (m k : Stamped) (t u : ℕ) → m.client ≡ k.client → m.stamp.number ≡ k.stamp.number → MarkAt K m t xs →
      MarkAt K k u xs → t ≡ u
  unfolding Ever
  mark-when [] m k t u w n h i = absurd h
  mark-when (x ∷ xs) m k t u w n (inl h) (inl i) = sym h.1 ∙ ap (λ (c : ℕ). length (since K.s c xs)) w ∙ i.1
  mark-when (x ∷ xs) m k t u w n (inl h) (inr i) =
      absurd (omega (arith, n, above K.s x xs m k w (mark_source K.s x xs m h.0) (mark_at K k u xs i)))
  mark-when (x ∷ xs) m k t u w n (inr h) (inl i) =
      absurd (omega (arith, n, above K.s x xs k m (sym w) (mark_source K.s x xs k i.0) (mark_at K m t xs h)))
  mark-when (x ∷ xs) m k t u w n (inr h) (inr i) = mark-when xs m k t u w n h i

  -- a mark's call began no later than its client's present call
  mark-begun : (xs : Steps K) (m : Stamped) (t : ℕ) → MarkAt K m t xs → t ≤ length (since K.s m.client xs)
  unfolding Ever since
  mark-begun [] m t h = absurd h
  mark-begun (x ∷ xs) m t h = at-cond (eqb (calls K xs m.client) (calls K (x ∷ xs) m.client)) (since K.s m.client xs) xs
      (λ (z : Steps K). t ≤ length z) (λ e. now h (mark-begun xs m t)) (λ e. le_trans (now h (mark-begun xs m t)) (since-length K m.client xs))
    where
      now : MarkAt K m t (x ∷ xs) → (MarkAt K m t xs → t ≤ length (since K.s m.client xs)) → t ≤ length (since K.s m.client xs)
      now (inl k) f = omega (arith, k.1)
      now (inr k) f = f k

  -- of two marks of one client, the one whose call began first has the lower number
  mark_turns : (xs : Steps K) (m k : Stamped) (t u : ℕ) → m.client ≡ k.client → t < u → MarkAt K m t xs → MarkAt K k u xs
      → m.stamp.number < k.stamp.number
  unfolding Ever
  mark_turns [] m k t u w l h i = absurd h
  mark_turns (x ∷ xs) m k t u w l (inl h) (inl i) =
      absurd (omega (arith, l, h.1, i.1, ap (λ (c : ℕ). length (since K.s c xs)) w))
  mark_turns (x ∷ xs) m k t u w l (inl h) (inr i) =
      absurd (omega (arith, l, h.1, mark-begun xs k u i, ap (λ (c : ℕ). length (since K.s c xs)) w))
  mark_turns (x ∷ xs) m k t u w l (inr h) (inl i) =
      above K.s x xs k m (sym w) (mark_source K.s x xs k i.0) (mark_at K m t xs h)
  mark_turns (x ∷ xs) m k t u w l (inr h) (inr i) = mark_turns xs m k t u w l h i

  module _ (xs : Steps K) (fair : Fair K xs) where
    -- the known calls that count
    abbrev pub counted_calls : List (Signed K xs)
    counted_calls = keep (λ (g : Signed K xs). counted g.call) (story K xs fair)

    counts : (g : Signed K xs) → In g counted_calls → counted g.call ≡ true
    counts g i = (keep_in (λ (g : Signed K xs). counted g.call) (story K xs fair) g i).1

    -- a write that counts has reached its complete round
    pub write-reached : (g : Signed K xs) → In g counted_calls → (v : List ℕ) → g.call.wrote ≡ some v → is_some g.call.reached ≡ true
    unfolding counted
    write-reached g i v w = go (or_cases (is_some g.call.over) (is_some g.call.wrote && is_some g.call.reached) (counts g i))
      where
        go : (is_some g.call.over ≡ true) ⊎ ((is_some g.call.wrote && is_some g.call.reached) ≡ true) → is_some g.call.reached ≡ true
        go (inl o) = let e = is_some_lem g.call.over o in g.ok.base.reaches v e.0 w e.1
        go (inr o) = and_right (is_some g.call.wrote) (is_some g.call.reached) o

    -- a read that counts has ended
    pub read-over : (g : Signed K xs) → In g counted_calls → g.call.wrote ≡ none → (e : ℕ) × (g.call.over ≡ some e)
    unfolding counted
    read-over g i w = go (or_cases (is_some g.call.over) (is_some g.call.wrote && is_some g.call.reached) (counts g i))
      where
        go : (is_some g.call.over ≡ true) ⊎ ((is_some g.call.wrote && is_some g.call.reached) ≡ true) → (e : ℕ) × (g.call.over ≡ some e)
        go (inl o) = is_some_lem g.call.over o
        go (inr o) = clash (and_left (is_some g.call.wrote) (is_some g.call.reached) o) (ap is_some w)

    -- real time
    pub fits : (a b : Signed K xs) → In a counted_calls → In b counted_calls → before a.call b.call ≡ true → keyless a b ≡ true
    unfolding before less lesser
    fits a b i j h = go a.call.over refl h
      where
        ended : (o : ℕ) → a.call.over ≡ some o → o < b.call.begun → keyless a b ≡ true
        ended e q l = let E = a.ok.base.ended e q in wrote_case b.call
            (λ r. let R = b.ok.base.read (read-over b j r).0 r (read-over b j r).1 in
            tail r (le-view a.stamp b.stamp (R.floor a.stamp e E.2 l)) (omega (arith, E.0, l)))
            (λ v w. lex-lt a.stamp.number b.stamp.number _ ((b.ok.base.write v w (write-reached b j v w)).floor a.stamp e E.2 l))
          where
            last : b.call.wrote ≡ none → a.call.begun < b.call.begun → lesser a.call b.call ≡ true
            last r l = wrote_case a.call
                (λ w. lex-eq (part a.call) (part b.call) _ (part_read a.call w ∙ sym (part_read b.call r))
                (lt-ltb a.call.begun b.call.begun l))
                (λ v w. lex-lt (part a.call) (part b.call) _ (omega (arith, part_write a.call v w, part_read b.call r)))

            tail : b.call.wrote ≡ none → (a.stamp.number < b.stamp.number)
                ⊎ ((a.stamp.number ≡ b.stamp.number) × (a.stamp.writer ≤ b.stamp.writer)) → a.call.begun < b.call.begun →
                keyless a b ≡ true
            tail r (inl n) l = lex-lt a.stamp.number b.stamp.number _ n
            tail r (inr n) l = lex-eq a.stamp.number b.stamp.number _ n.0
                (bool_case (ltb a.stamp.writer b.stamp.writer) (λ t. lex-lt a.stamp.writer b.stamp.writer _ (ltb-true _ _ t))
                (λ t. lex-eq a.stamp.writer b.stamp.writer _
                (let z : a.stamp.writer ≡ b.stamp.writer = omega (arith, n.1, ltb-false a.stamp.writer b.stamp.writer t) in z)
                (last r l)))

        go : (o : Option ℕ) → a.call.over ≡ o → ended_by o b.call.begun ≡ true → keyless a b ≡ true
        go none q k = clash k refl
        go (some e) q k = ended e q (ltb-true e b.call.begun k)

    -- a client's writes have stamps in the order in which it began them
    pub turns : (a b : Signed K xs) → In a counted_calls → In b counted_calls → earlier_own a.call b.call ≡ true → keyless a b ≡ true
    unfolding earlier_own less
    turns a b i j h =
        let z = and_right (eqb a.call.client b.call.client) _ h in
        let y = and_right (is_some a.call.wrote) _ z in
        let v = is_some_lem a.call.wrote (and_left (is_some a.call.wrote) _ z) in
        let u = is_some_lem b.call.wrote (and_left (is_some b.call.wrote) _ y) in
        let X = (a.ok.base.write v.0 v.1 (write-reached a i v.0 v.1)).own in
        let W = (b.ok.base.write u.0 u.1 (write-reached b j u.0 u.1)).own in
        let one : X.write.client ≡ W.write.client = X.client_is
        ∙ eqb-true a.call.client b.call.client (and_left (eqb a.call.client b.call.client) _ h) ∙ sym W.client_is in
        let l : a.call.begun < b.call.begun = ltb-true _ _ (and_right (is_some b.call.wrote) _ y) in
        lex-lt a.stamp.number b.stamp.number _
        (omega (
          arith,
          mark_turns xs X.write W.write a.call.begun b.call.begun one l X.since-when W.since-when,
          ap (λ (s : Stamp). s.number) X.stamp_is,
          ap (λ (s : Stamp). s.number) W.stamp_is,
        ))
