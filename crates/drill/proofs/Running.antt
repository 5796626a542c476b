-- A sheet is run line by line: the rows printed and those that are due from the place on are the whole listing, and the area holds what the parties
-- hold. By one line more. Assumes nothing.
use mathlib.Core.Path.{◌≡◌, refl, ap, sym, ◌∙◌, subst}
use mathlib.Core.Bool.{Bool, true, false, cond}
use mathlib.Core.List.{List, [], ◌∷◌, ◌++◌, append_assoc, append-nil}
use mathlib.Core.Option.{Option, none, some}
use Prim.Native.Nat.{ℕ, suc, ◌+◌, ◌*◌, ◌≤◌, ◌<◌}
use native.Mathlib.Omega.{arith}
use native.Mathlib.Numerals.{add-one}
use lib.Dec.{ltb, eqb}
use lib.ListN.{length, drop, replicate, length-append, drop_of_length-le}
use borrow.Author.Tests.{ltb-true, lt-ltb}
use Rattle.cluster.specs.Ranges.{top_number}
use Rattle.protocol.specs.Primitives.{real}
use Rattle.format.specs.Reading.{over, put}
use Rattle.runs.specs.Runs.{Shelf, Machines, write, do_bytes}
use Rattle.format.proofs.Answers.{at-cond}
use Rattle.format.proofs.Puts.{put_put, put-over, put-length}
use Rattle.drill.specs.declared.sheet.Line.{Line}
use Rattle.drill.specs.declared.shown.Shown.{Shown}
use Rattle.format.specs.Format.{guard}
use Rattle.protocol.specs.Client.{accepted}
use Rattle.columns.specs.Lines.{Text, lines, line_at, next_at}
use Rattle.columns.specs.Columns.{column_size, on_some, row}
use Rattle.columns.specs.Reads.{RowPrinted, row_at}
use Rattle.columns.proofs.Split.{lines_at, next-later, one_line_less}
use Rattle.columns.proofs.Printed.{row-length}
use Rattle.drill.specs.Sheet.{is_step_def, read_line_def, step_line_def}
use Rattle.drill.specs.Listing.{row_size, step_row, last_row, rows}
use Rattle.drill.specs.Steps.{State, Stepped, drill_shelf, nonce_for_def, start, write_line, step_of, shown, round_shown}
use Rattle.drill.specs.Area.{Stands}
use Rattle.drill.specs.Moves.{StepsIn, RoundIn, RowIn, RowsAs}

-- ---- one line

-- a row printed where there is room for it
pub row_put : (d : List ℕ) (at : ℕ) (vs : List ℕ) {n : ℕ} {f : List ℕ} → length vs ≡ 8 → at + row_size ≤ length d
    → record { next = n; output = f } ≡ row_at d at vs → f ≡ put d at (row vs)
unfolding row_at put
row_put d at vs {n} {f} l h e =
    let k : at + column_size * length vs < length d = omega arith in
    ap (λ (a : RowPrinted). a.output) e ∙ rw (lt-ltb (at + column_size * length vs) (length d) k)

-- .. and the place past it
pub row_past : (d : List ℕ) (at : ℕ) (vs : List ℕ) {n : ℕ} {f : List ℕ} → length vs ≡ 8 → at + row_size ≤ length d
    → record { next = n; output = f } ≡ row_at d at vs → n ≡ at + row_size
unfolding row_at
row_past d at vs {n} {f} l h e =
    let k : at + column_size * length vs < length d = omega arith in
    ap (λ (a : RowPrinted). a.next) e ∙ rw (lt-ltb (at + column_size * length vs) (length d) k) (omega (arith, row-length vs))

pub row_in : (t k n : ℕ) (l : Line) (w v output : List ℕ) (at : ℕ) {printed : List ℕ} {k' round : ℕ} {x : Shown} → StepsIn t
    (λ m. step_of (drill_shelf t) m k l) w v x k'
    → RoundIn v l.client round → printed ≡ put output at (step_row n l round x) → RowIn t k n l w v output at printed k'
row_in t k n l w v output at {printed} {k'} {round} {x} s r e =
    record {
      stands = s.stands;
      row = λ m st. e ∙ ap (λ (z : ℕ). put output at (step_row n l z x)) (r.told t (step_of (drill_shelf t) m k l).state.machines (s.stands m st))
          ∙ ap (λ (z : Shown). put output at (step_row n l (round_shown (step_of (drill_shelf t) m k l).state.machines l.client) z)) (s.shows m st);
      counts = s.counts;
    }

-- a step begins one write at most
one_more : (b : Bool) (k : ℕ) → cond b (suc k) k ≤ suc k
one_more true k = omega arith
one_more false k = omega arith

pub step-begun : (s : Shelf) (m : Machines) (k : ℕ) (l : Line) → (step_of s m k l).state.begun ≤ suc k
unfolding step_of write_line
step-begun s m k l =
    at-cond (eqb l.verb 1) _ _ (λ (z : Stepped). z.state.begun ≤ suc k)
    (λ e. one_more (accepted (do_bytes real s m (write l.client (replicate l.length l.fill) (nonce_for_def (suc k)))).result) k)
    (λ e. at-cond (eqb l.verb 2) _ _ (λ (z : Stepped). z.state.begun ≤ suc k) (λ q. omega arith)
    (λ q. at-cond (eqb l.verb 3) _ _ (λ (z : Stepped). z.state.begun ≤ suc k) (λ q. omega arith)
    (λ q. at-cond (eqb l.verb 4) _ _ (λ (z : Stepped). z.state.begun ≤ suc k) (λ q. omega arith) (λ q. omega arith))))

-- a line that is a step has its number and its form
pub line-number : (n : ℕ) (x : Text) (l : Line) → step_line_def n x ≡ some l → n < top_number
unfolding step_line_def
line-number n x l e = go (ltb n top_number) refl e
  where
    go : (b : Bool) → ltb n top_number ≡ b → guard b (on_some (read_line_def x) (λ l. guard (is_step_def l) (some l))) ≡ some l → n < top_number
    go true q e = ltb-true n top_number q
    go false q e = let z : ◌≡◌ {A = ℕ} 0 1 = cc in absurd (omega arith)

pub line_form : (n : ℕ) (x : Text) (l : Line) → step_line_def n x ≡ some l → is_step_def l ≡ true
unfolding step_line_def
line_form n x l e = go (ltb n top_number) (read_line_def x) e
  where
    here : (y : Line) (b : Bool) → is_step_def y ≡ b → guard b (some y) ≡ some l → is_step_def l ≡ true
    here y true q e = let z : y ≡ l = cc in subst (λ (y : Line). is_step_def y ≡ true) z q
    here y false q e = let z : ◌≡◌ {A = ℕ} 0 1 = cc in absurd (omega arith)

    go : (b : Bool) (o : Option Line) → guard b (on_some o (λ l. guard (is_step_def l) (some l))) ≡ some l → is_step_def l ≡ true
    go true none e = let z : ◌≡◌ {A = ℕ} 0 1 = cc in absurd (omega arith)
    go true (some y) e = here y (is_step_def y) refl e
    go false o e = let z : ◌≡◌ {A = ℕ} 0 1 = cc in absurd (omega arith)

-- ---- the rows from a place on

module _ (t : ℕ) (s d : List ℕ) (from : ℕ) where
  pub record Going (e w : List ℕ) (at n k done : ℕ) : Type 0 where
    pub state : State
    pub printed : List ℕ
    pub within : at ≤ length s
    pub bytes : e ≡ put d 0 printed
    pub count : length printed ≡ done
    pub whole : printed ++ rows (drill_shelf t) n state (lines (drop at s)) ≡ rows (drill_shelf t) 2 (start (drill_shelf t)) (lines (drop from s))
    pub stands : Stands t w state.machines
    pub begun : k ≡ state.begun
    pub room : done + row_size * length (lines (drop at s)) ≤ length d
    pub few : k < n
    pub most : n ≤ top_number

  pub going_none : (w : List ℕ) → Stands t w (start (drill_shelf t)).machines → from ≤ length s → row_size * length (lines (drop from s)) ≤ length d →
      Going d w from 2 0 0
  unfolding put start
  going_none w st h r =
      record {
        state = start (drill_shelf t);
        printed = [];
        within = h;
        bytes = refl;
        count = refl;
        whole = refl;
        stands = st;
        begun = refl;
        room = omega arith;
        few = omega arith;
        most = omega arith;
      }

  module _ (e w : List ℕ) (at n k done : ℕ) (g : Going e w at n k done) where
    pub going-size : length e ≡ length d
    going-size = ap length g.bytes ∙ put-length d 0 g.printed (omega (arith, g.count, g.room))

    -- bytes put after those printed
    then_put : (b : List ℕ) → done + length b ≤ length d → put e done b ≡ put d 0 (g.printed ++ b)
    then_put b h =
        let z : 0 + done ≡ done = omega arith in
        rw g.bytes (ap (λ (i : ℕ). put (put d 0 g.printed) i b) (sym z) ∙ put_put d 0 done g.printed b g.count (omega arith))

    pub going_all : length s ≤ at → RowsAs t (lines (drop from s)) d e done
    unfolding lines rows
    going_all h =
        let z : drop at s ≡ [] = drop_of_length-le s h in
        let q : g.printed ≡ rows (drill_shelf t) 2 (start (drill_shelf t)) (lines (drop from s)) = sym (append-nil g.printed) ∙
        (rw z at g.whole) in
        record { bytes = g.bytes ∙ put-over d g.printed ∙ ap (λ (y : List ℕ). over y d) q; count = sym g.count ∙ ap length q }

    module _ (h : at < length s) where
      lines_here : length (lines (drop at s)) ≡ suc (length (lines (drop (next_at s at) s)))
      lines_here = one_line_less s at h

      pub row_room : done + row_size ≤ length e
      row_room = omega (arith, lines_here, g.room, going-size)

      pub going_last : {f : List ℕ} → step_line_def n (line_at s at) ≡ none → f ≡ put e done (last_row n 117) → RowsAs t (lines (drop from s)) d f
          (done + row_size)
      unfolding rows last_row
      going_last {f} o q =
          let l : length (last_row n 117) ≡ row_size = row-length (n ∷ 0 ∷ 0 ∷ 0 ∷ 117 ∷ 0 ∷ 0 ∷ 0 ∷ []) in
          let r : rows (drill_shelf t) n g.state (lines (drop at s)) ≡ last_row n 117 = rw (lines_at s at h, o) in
          let y : g.printed ++ last_row n 117 ≡ rows (drill_shelf t) 2 (start (drill_shelf t)) (lines (drop from s)) = ap
          (λ (z : List ℕ). g.printed ++ z) (sym r) ∙ g.whole in
          record {
            bytes = q ∙ then_put (last_row n 117) (omega (arith, lines_here, g.room)) ∙ put-over d (g.printed ++ last_row n 117) ∙ ap
                (λ (z : List ℕ). over z d) y;
            count = omega (arith, length-append g.printed (last_row n 117), g.count, ap length y);
          }

      pub going_more : {f v : List ℕ} {k' : ℕ} {l : Line} → step_line_def n (line_at s at) ≡ some l → RowIn t k n l w v e done f k'
          → Going f v (next_at s at) (n + 1) k' (done + row_size)
      unfolding rows step_row
      going_more {f} {v} {k'} {l} o r =
          let S = drill_shelf t in
          let m = g.state.machines in
          let x : Stepped = step_of S m g.state.begun l in
          let x' : step_of S m k l ≡ x = ap (λ (z : ℕ). step_of S m z l) g.begun in
          let b : List ℕ = step_row n l (round_shown x.state.machines l.client) (shown x.result) in
          let lb : length b ≡ row_size = row-length (n ∷ l.verb ∷ l.client ∷ _ ∷ _ ∷ _ ∷ _ ∷ _ ∷ []) in
          let fb : f ≡ put e done b = r.row m g.stands ∙ ap (λ (z : Stepped). put e done
          (step_row n l (round_shown z.state.machines l.client) (shown z.result))) x' in
          let kn : k' ≡ x.state.begun = r.counts m g.stands ∙ ap (λ (z : Stepped). z.state.begun) x' in
          let few' = step-begun S m g.state.begun l in
          let num = line-number n (line_at s at) l o in
          let rr : rows S n g.state (lines (drop at s)) ≡ b ++ rows S (suc n) x.state (lines (drop (next_at s at) s)) =
          rw (lines_at s at h, o) in
          record {
            state = x.state;
            printed = g.printed ++ b;
            within = (next-later s at h).1;
            bytes = fb ∙ then_put b (omega (arith, lines_here, g.room));
            count = length-append g.printed b ∙ omega (arith, g.count);
            whole = rw add-one (append_assoc g.printed b (rows S (suc n) x.state (lines (drop (next_at s at) s))) ∙ ap
                (λ (z : List ℕ). g.printed ++ z) (sym rr) ∙ g.whole);
            stands = subst (λ (z : Stepped). Stands t v z.state.machines) x' (r.stands m g.stands);
            begun = kn;
            room = omega (arith, lines_here, g.room);
            few = omega (arith, g.few, g.begun);
            most = omega arith;
          }
