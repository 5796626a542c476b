-- A client's turn keeps what it holds within the layout, in every round.
-- By cases on the round and on whether the reply ends it. Nothing is assumed but the primitives' lengths.
use mathlib.Core.Path.{◌≡◌, refl, sym, subst}
use mathlib.Core.Bool.{Bool, false, ◌&&◌}
use mathlib.Core.List.{List, [], ◌∷◌}
use mathlib.Core.Option.{Option, none, some}
use mathlib.Core.Logic.{inl, inr}
use Prim.Native.Nat.{ℕ, ◌≤◌}
use native.Mathlib.Omega.{arith}
use lib.Dec.{ltb, eqb, lit≤}
use borrow.Author.Tests.{leb-false}
use Rattle.cluster.specs.Config.{Config}
use Rattle.cluster.specs.Ranges.{top_number}
use Rattle.cluster.proofs.Tests.{and-rest}
use Rattle.protocol.specs.declared.Stamp.{Stamp}
use Rattle.format.specs.Format.{via, seq, or_blank, number4}
use Rattle.protocol.specs.Values.{Candidate, Held, same_list}
use Rattle.protocol.specs.Packet.{Body, BodyOk, stamp_f, any_stamp_f, candidate_f, any_candidate_f, held_f}
use Rattle.protocol.specs.Primitives.{Primitives, Lengths}
use Rattle.protocol.specs.Rules.{ByServer, upd, nobody, restored_by, tags_in}
use Rattle.protocol.specs.Client.{Client, Hand, Turn, onto, idle, clocking, storing, completing, collecting, filtering, repairing, update, judge, found, higher, checks, stamp_in, code_in, candidate_in, held_in_def, too_high}
use Rattle.format.proofs.Answers.{at-cond}
use Rattle.protocol.proofs.Room.{Fitting}
use Rattle.protocol.proofs.HandOk.{HandOk, stamp_in_lem, candidate_in_lem, held_in, no-held, gather-ok, upd-ok, choice-ok, with-tags, content_short}
use Rattle.protocol.proofs.Prepared.{prepared-ok}

-- a client within the layout
pub record ClientOk (s : Config) (c : ℕ) (cl : Client) : Type 0 where
  pub hand : HandOk s c cl.hand
  pub last : cl.last ≤ top_number

number-most : (a : Stamp) → any_stamp_f.Ok a → a.number ≤ top_number
unfolding any_stamp_f or_blank stamp_f via seq number4
number-most a (inl e) = subst (λ (x : Stamp). x.number ≤ top_number) (sym e) (lit≤ tt)
number-most a (inr h) = h.0.1

module _ (P : Primitives) (law : Lengths P) (s : Config) (f : Fitting s) (client : ℕ) (writers : List ℕ) (keys : ByServer (List ℕ))
    (cl : Client) (last : cl.last ≤ top_number) where
  higher-most : (m : ℕ) (a : Stamp) → m ≤ top_number → any_stamp_f.Ok a → higher P writers m a ≤ top_number
  unfolding higher
  higher-most m a h k = at-cond (ltb m a.number && checks P writers a) a.number m (λ z. z ≤ top_number) (λ e. number-most a k) (λ e. h)

  abbrev Good : Turn → Type 0
  Good u = ClientOk s client u.client

  into : (m : ByServer Bool) (h : Hand) → HandOk s client h → ClientOk s client (onto cl m h)
  unfolding onto
  into m h k = record { hand = k; last = last }

  found_ok : (m : ByServer Bool) (g : ByServer Held) (d : Candidate) (n : ℕ) → (candidate_f s).Ok d → ((i : ℕ) → (held_f s).Ok (g i))
      → Good (found P s client writers keys cl m g d n)
  unfolding found HandOk
  found_ok m g d n h k =
      at-cond (same_list (tags_in P s d (g n).share) d.tags) _ _ Good
      (λ e. into nobody idle tt)
      (λ e.
      into nobody (repairing (record { stamp = d.stamp; nonce = d.nonce; tags = tags_in P s d (g n).share }) (restored_by P s m g d n (g n).share))
      (with-tags P law s m g k d n h, content_short P law s m g k d n f))

  judge-ok : (m : ByServer Bool) (cs : List Candidate) (g : ByServer Held) (l : List Candidate) (o : Option Candidate) → HandOk s client
      (filtering cs g)
      → ((d : Candidate) → o ≡ some d → (candidate_f s).Ok d) → Good (judge P s client writers keys cl m cs g l o)
  unfolding judge HandOk
  judge-ok m cs g [] o h k = into nobody idle tt
  judge-ok m cs g (y ∷ l) none h k = into m (filtering cs g) h
  judge-ok m cs g (y ∷ l) (some d) h k = found_ok m g d _ (k d refl) h.1

  pub update-ok : (b : ℕ) (x : Body) (m : ByServer Bool) (full : Bool) (h : Hand) → cl.hand ≡ h → HandOk s client h → BodyOk s x
      → too_high P writers x full h ≡ false → Good (update P s client writers keys cl b x m full h)
  unfolding update HandOk too_high
  update-ok b x m full idle e h k z = record { hand = subst (λ (y : Hand). HandOk s client y) (sym e) h; last = last }
  update-ok b x m full (clocking r n a) e h k z =
      at-cond full _ _ Good
      (λ q.
      let l = leb-false top_number (higher P writers a (stamp_in x)) (and-rest full _ q z) in
      record { hand = prepared-ok P law s client writers keys r n _ h.0 (omega arith, omega arith); last = omega arith })
      (λ q. into m _ (h.0, higher-most a (stamp_in x) h.1 (stamp_in_lem s x k)))
  update-ok b x m full (storing d g) e h k z =
      at-cond (eqb (code_in x) 11) _ _ Good (λ q. record { hand = subst (λ (y : Hand). HandOk s client y) (sym e) h; last = last })
      (λ q. at-cond full _ _ Good (λ p. into nobody _ h.0) (λ p. into m _ h))
  update-ok b x m full (completing d) e h k z = at-cond full _ _ Good (λ q. into nobody _ tt) (λ q. into m _ h)
  update-ok b x m full (collecting g) e h k z =
      let g' = upd-ok (any_candidate_f s).Ok g b (candidate_in s x) h (candidate_in_lem s x k) in
      at-cond full _ _ Good
      (λ q. into nobody _ (gather-ok s (upd g b (candidate_in s x)) g' s.servers, λ i. no-held s))
      (λ q. into m _ g')
  update-ok b x m full (filtering cs g) e h k z =
      let g' = upd-ok (held_f s).Ok g b (held_in_def x) h.1 (held_in s x k) in
      at-cond full _ _ Good
      (λ q. judge-ok m cs (upd g b (held_in_def x)) _ _ (h.0, g') (choice-ok P law s m (upd g b (held_in_def x)) g' cs h.0.0))
      (λ q. into m _ (h.0, g'))
  update-ok b x m full (repairing d r) e h k z = at-cond full _ _ Good (λ q. into nobody _ tt) (λ q. into m _ h)
