-- What a step answers has room in one number: stamps' numbers go to 99,999,999, writers to 8, contents to 1,024 bytes, packets to 6,400, and a
-- refusal isn't 0.
-- By cases on the round: what a client holds is within the layout at every moment. Nothing is assumed but the primitives' lengths.
use mathlib.Core.Path.{◌≡◌, refl, subst, ◌∙◌}
use mathlib.Core.Bool.{Bool, true}
use mathlib.Core.List.{List, [], ◌∷◌}
use mathlib.Core.Option.{Option, none, some}
use Prim.Native.Nat.{ℕ, zero, suc, ◌≤◌}
use native.Mathlib.Omega.{arith}
use lib.Dec.{eqb}
use lib.ListN.{length, drop, length-append}
use Rattle.cluster.specs.Config.{Config, shelf}
use Rattle.cluster.specs.Ranges.{top_number, top_writer, top_length, memory_size}
use Rattle.cluster.specs.Refusals.{on_refusal}
use Rattle.protocol.specs.declared.Label.{Label}
use Rattle.protocol.specs.declared.Call.{Call}
use Rattle.format.specs.Format.{via, seq, byte, number4}
use Rattle.protocol.specs.Values.{Candidate, Held, label_of, same_list}
use Rattle.protocol.specs.Packet.{Body, BodyOk, Packet, PacketOk, stamp_f, candidate_f, held_f, decode}
use Rattle.protocol.specs.Memory.{Memory, decode_memory}
use Rattle.protocol.specs.Primitives.{Primitives, Lengths}
use Rattle.protocol.specs.Rules.{ByServer, upd, tags_in, leader}
use Rattle.protocol.specs.Server.{server_refusal}
use Rattle.protocol.specs.ServerBytes.{Served, turned_down_def, acted_on, server_take}
use Rattle.format.specs.Reading.{over}
use Rattle.protocol.specs.ClientBytes.{client_make}
use Rattle.protocol.specs.Client.{Client, Hand, Turn, Result, refused, more, written, gave, gave_blank, aborted, idle, clocking, storing, completing, collecting, filtering, repairing, update, judge, found, code_in, held_in_def, is_full_def, awaits, abort_refusal_def, abort_step, take_refusal, turn_on, high_at, take_step}
use Rattle.format.proofs.Answers.{at-cond}
use Rattle.protocol.proofs.Room.{Fitting}
use Rattle.protocol.proofs.HandOk.{HandOk, held_in, upd-ok, choice-ok, content_short}
use Rattle.protocol.proofs.Fine.{Fine}
use Rattle.protocol.proofs.Bodies.{body_ok}
use Rattle.protocol.proofs.LetIn.{let_in, not_none, shelf-t}

abbrev pub Short : Label → Type 0
Short k = (k.number ≤ top_number) × (k.writer ≤ top_writer)

abbrev pub Small : Result → Type 0
Small (refused n) = 1 ≤ n
Small more = Unit {0}
Small (written k) = Short k
Small (gave k r) = Short k × (length r ≤ top_length)
Small gave_blank = Unit {0}
Small (aborted b) = Unit {0}

-- a step is accepted, or its refusal isn't 0
by-refusal : {A : Type 0} (Q : A → Type 0) (n : ℕ) (x : A) (y : ℕ → A) → (n ≡ 0 → Q x) → ((j : ℕ) → Q (y (suc j))) → Q (on_refusal n x (y n))
by-refusal Q zero x y f g = f refl
by-refusal Q (suc n) x y f g = g n

label_short : (s : Config) (d : Candidate) → (candidate_f s).Ok d → Short (label_of d.stamp)
unfolding candidate_f stamp_f via seq number4 byte
label_short s d h = (h.0.0.1, h.0.1.0.1)

module _ (P : Primitives) (law : Lengths P) (s : Config) (f : Fitting s) (client : ℕ) (writers : List ℕ) (keys : ByServer (List ℕ)) (cl : Client)
  where
    abbrev Q : Turn → Type 0
    Q u = Small u.result

    judge-small : (m : ByServer Bool) (cs : List Candidate) (g : ByServer Held) (l : List Candidate) (o : Option Candidate)
        → ((i : ℕ) → (held_f s).Ok (g i)) → ((d : Candidate) → o ≡ some d → (candidate_f s).Ok d) → Q (judge P s client writers keys cl m cs g l o)
    unfolding judge found
    judge-small m cs g [] o h k = tt
    judge-small m cs g (y ∷ l) none h k = tt
    judge-small m cs g (y ∷ l) (some d) h k =
        at-cond (same_list (tags_in P s d (g (leader P s m g d s.servers)).share) d.tags) _ _ Q
        (λ e. (label_short s d (k d refl), content_short P law s m g h d _ f)) (λ e. tt)

    update-small : (b : ℕ) (x : Body) (m : ByServer Bool) (full : Bool) (h : Hand) → HandOk s client h → BodyOk s x
        → Q (update P s client writers keys cl b x m full h)
    unfolding update HandOk
    update-small b x m full idle h k = tt
    update-small b x m full (clocking r n a) h k = at-cond full _ _ Q (λ e. tt) (λ e. tt)
    update-small b x m full (storing d g) h k =
        at-cond (eqb (code_in x) 11) _ _ Q (λ e. tt) (λ e. at-cond full _ _ Q (λ e. tt) (λ e. tt))
    update-small b x m full (completing d) h k = at-cond full _ _ Q (λ e. label_short s d h) (λ e. tt)
    update-small b x m full (collecting g) h k = at-cond full _ _ Q (λ e. tt) (λ e. tt)
    update-small b x m full (filtering cs g) h k =
        let g' = upd-ok (held_f s).Ok g b (held_in_def x) h.1 (held_in s x k) in
        at-cond full _ _ Q
        (λ e. judge-small m cs (upd g b (held_in_def x)) _ _ g' (choice-ok P law s m (upd g b (held_in_def x)) g' cs h.0.0)) (λ e. tt)
    update-small b x m full (repairing d r) h k = at-cond full _ _ Q (λ e. (label_short s d h.0, h.1)) (λ e. tt)

pub abort-small : (s : Config) (c : ℕ) (cl : Client) → Small (abort_step s c cl).result
unfolding abort_step
abort-small s c cl =
    by-refusal (λ (u : Turn). Small u.result) (abort_refusal_def s c _) _ (λ k. record { client = cl; result = refused k }) (λ e. tt) (λ j. omega arith)

-- a reply is taken, on document 01's shelf
module _ (P : Primitives) (law : Lengths P) (t : ℕ) (f : Fitting (shelf t)) (c : ℕ) (writers : List ℕ) (keys : ByServer (List ℕ)) (cl : Client)
    (fine : Fine (shelf t) c cl) where
  turn_small : (p : Packet) → PacketOk p → (room : ℕ)
      → take_refusal (shelf t) c (some p) cl.calls (awaits cl.hand) cl.marks (high_at P (shelf t) c writers keys cl) room ≡ 0
      → Small (turn_on P (shelf t) c writers keys cl (some p)).result
  unfolding turn_on
  turn_small p ok room e =
      let s : Config = shelf t in
      let a = let_in s c p cl.calls (awaits cl.hand) cl.marks (high_at P s c writers keys cl) room e in
      let m : ByServer Bool = upd cl.marks p.head.server true in
      update-small P law s f c writers keys cl p.head.server p.body m (is_full_def s m) cl.hand fine.ok.hand
      (subst (λ (z : ℕ). BodyOk (shelf z) p.body) (a.same-t ∙ shelf-t t) (body_ok p ok))

  pub take-small : (o : Option Packet) → ((p : Packet) → o ≡ some p → PacketOk p) → (room : ℕ)
      → Small (take_step P (shelf t) c writers keys cl o room).result
  unfolding take_step
  take-small none ok room =
      by-refusal (λ (u : Turn). Small u.result) _ _ (λ k. record { client = cl; result = refused k })
      (λ e. absurd (not_none (shelf t) c cl.calls (awaits cl.hand) cl.marks (high_at P (shelf t) c writers keys cl) room e))
      (λ j. omega arith)
  take-small (some p) ok room =
      by-refusal (λ (u : Turn). Small u.result) _ _ (λ k. record { client = cl; result = refused k })
      (λ e. turn_small p (ok p refl) room e) (λ j. omega arith)

-- ---- a count has room

-- what is written is over the start of the output
over-room : (b o : List ℕ) → length b ≤ length (over b o)
unfolding over
over-room b o = omega (arith, length-append b (drop (length b) o))

module _ (P : Primitives) (memory key packet output : List ℕ) where
  abbrev Fits : Served → Type 0
  Fits d = d.result.count ≤ length d.output

  down : (n : ℕ) → Fits (turned_down_def P memory key packet output n)
  unfolding turned_down_def
  down n = omega arith

  done : (m : Option Memory) (o : Option Packet) → Fits (acted_on P memory key packet output m o)
  unfolding acted_on
  done none o = down 0
  done (some m) none = down 0
  done (some m) (some p) = over-room _ output

  pub served-room : Fits (server_take P memory key packet output)
  unfolding server_take
  served-room = go (server_refusal (eqb (length memory) memory_size) (decode_memory memory) (decode packet) (length output))
    where
      go : (n : ℕ) → Fits (on_refusal n (acted_on P memory key packet output (decode_memory memory) (decode packet))
          (turned_down_def P memory key packet output n))
      go zero = done (decode_memory memory) (decode packet)
      go (suc n) = down (suc n)

pub make-room : (t c b : ℕ) (call : Call) (kept output : List ℕ) → let d = client_make t c b call kept output in d.result.count ≤ length d.output
unfolding client_make
make-room t c b call kept output = over-room _ output
