-- What a server does and answers stays within the layout, for each of the twelve kinds.
-- A stored write is new by the whole stamp, the latest candidate is one that the layout holds. Nothing is assumed.
use mathlib.Core.Path.{◌≡◌, refl, sym, ap, ◌∙◌, subst}
use mathlib.Core.Bool.{Bool, true, false, cond, not, ◌&&◌, ◌||◌, and-true, and_assoc}
use mathlib.Core.List.{List, [], ◌∷◌, ◌++◌, append-nil, append_assoc}
use mathlib.Core.Option.{Option, none, some, some-injective}
use mathlib.Core.Logic.{inl, inr}
use Prim.Native.Nat.{ℕ, ◌≤◌}
use native.Mathlib.Omega.{arith}
use lib.Dec.{leb, eqb, lit≤}
use lib.ListN.{length, length-append}
use borrow.Author.Tests.{ne_eqb, leb-false}
use Rattle.cluster.specs.Config.{Config}
use Rattle.cluster.specs.Ranges.{capacity}
use Rattle.protocol.specs.declared.Stamp.{Stamp}
use Rattle.format.specs.Format.{All, via, seq, such, or_blank, many, optional, number4, byte}
use Rattle.protocol.specs.Values.{Candidate, Share, Write, below, same_stamp, is_some, blank_candidate}
use Rattle.protocol.specs.Packet.{Body, BodyOk, stamp_f, any_stamp_f, write_f, share_f, candidate_f, any_candidate_f, candidates_f, held_f, held_most_def, code_f}
use Rattle.protocol.specs.Packet.{clock, clock_reply, store, store_reply, complete, complete_reply, collect, collect_reply, filter, filter_reply, repair, repair_reply}
use Rattle.protocol.specs.Memory.{lookup, fresh_after, distinct}
use Rattle.protocol.specs.Primitives.{Primitives}
use Rattle.protocol.specs.Server.{Server, Acted, on_store_def, raise, valid, best, act, blank_server}
use Rattle.format.proofs.Answers.{no_some, at-cond}
use Rattle.protocol.proofs.Equal.{stamp-same}
use Rattle.format.proofs.Walks.{all_snoc}

-- what a memory's layout asks of the server in it
pub record ServerOk (s : Config) (v : Server) : Type 0 where
  pub few : length v.history ≤ capacity
  pub latest : (any_candidate_f s).Ok v.latest
  pub writes : All (write_f s).Ok v.history
  pub once : distinct v.history ≡ true

-- ---- one more write, whose stamp is new

-- the write w is new among ws
abbrev is_new_def : Write → List Write → Bool
is_new_def w ws = not (is_some (lookup w.stamp ws))

fresh_snoc : (seen ws : List Write) (w : Write) → fresh_after seen (ws ++ w ∷ []) ≡ (fresh_after seen ws && is_new_def w (seen ++ ws))
fresh_snoc seen [] w = and-true _ ∙ ap (is_new_def w) (sym (append-nil seen))
fresh_snoc seen (x ∷ ws) w =
    let A : Bool = is_new_def x seen in
    ap (λ (z : Bool). A && z) (fresh_snoc (seen ++ x ∷ []) ws w)
    ∙ sym (and_assoc A _ _)
    ∙ ap (λ (z : List Write). A && fresh_after (seen ++ x ∷ []) ws && is_new_def w z) (append_assoc seen (x ∷ []) ws)

-- ---- parts of what the layout holds

module _ (s : Config) where
  pub any-stamp : (c : Candidate) → (any_candidate_f s).Ok c → any_stamp_f.Ok c.stamp
  unfolding any_candidate_f candidate_f any_stamp_f or_blank via seq
  any-stamp c (inl e) = inl (ap (λ (x : Candidate). x.stamp) e)
  any-stamp c (inr h) = inr h.0

  pub any-candidate : (c : Candidate) → (candidate_f s).Ok c → (any_candidate_f s).Ok c
  unfolding any_candidate_f or_blank
  any-candidate c h = inr h

  pub blank-candidate : (any_candidate_f s).Ok (blank_candidate s)
  unfolding any_candidate_f or_blank
  blank-candidate = inl refl

  list-ok : (cs : List Candidate) → (candidates_f s).Ok cs → All (candidate_f s).Ok cs
  unfolding candidates_f via seq many
  list-ok cs h = h.1.1

  stamp_pos : (w : Write) → (write_f s).Ok w → 1 ≤ w.stamp.number
  unfolding write_f stamp_f via seq number4
  stamp_pos w h = h.0.0.0

  write-share : (w : Write) → (write_f s).Ok w → (share_f s).Ok w.share
  unfolding write_f via seq
  write-share w h = h.1

  -- what the history holds for a stamp: a share in its ranges, and the stamp is not blank
  pub held-ok : (a : Stamp) (ws : List Write) → All (write_f s).Ok ws → (x : Share) → lookup a ws ≡ some x → (1 ≤ a.number) × (share_f s).Ok x
  unfolding lookup
  held-ok a [] h x e = no_some x e
  held-ok a (w ∷ ws) h x e = go (same_stamp w.stamp a) refl e (held-ok a ws h.1 x)
    where
      go : (b : Bool) → same_stamp w.stamp a ≡ b → cond b (some w.share) (lookup a ws) ≡ some x
          → (lookup a ws ≡ some x → (1 ≤ a.number) × (share_f s).Ok x) → (1 ≤ a.number) × (share_f s).Ok x
      go true p q r =
          let k : w.stamp ≡ a = stamp-same w.stamp a p in (
            subst (λ (z : Stamp). 1 ≤ z.number) k (stamp_pos w h.0),
            subst (λ (z : Share). (share_f s).Ok z) (some-injective w.share x q) (write-share w h.0),
          )
      go false p q r = r q

  pub blank_ok : ServerOk s (blank_server s)
  blank_ok = record { few = lit≤ tt; latest = blank-candidate; writes = tt; once = refl }

-- ---- what a server does

module _ (P : Primitives) (s : Config) (key : List ℕ) (b : ℕ) (v : Server) (ok : ServerOk s v) where
  raise-ok : (c : Candidate) → (any_candidate_f s).Ok c → ServerOk s (raise c v)
  unfolding raise
  raise-ok c h =
      at-cond (below v.latest.stamp c.stamp) _ _ (ServerOk s)
      (λ e. record { few = ok.few; latest = h; writes = ok.writes; once = ok.once })
      (λ e. ok)

  best-ok : (c : Candidate) (cs : List Candidate) → (any_candidate_f s).Ok c → All (candidate_f s).Ok cs → (any_candidate_f s).Ok (best P s key b v c cs)
  unfolding best
  best-ok c [] h k = h
  best-ok c (d ∷ ds) h k =
      best-ok (cond (valid P s key b v d && below c.stamp d.stamp) d c) ds
      (at-cond (valid P s key b v d && below c.stamp d.stamp) d c (any_candidate_f s).Ok (λ e. any-candidate s d k.0) (λ e. h)) k.1

  store_ok : (w : Write) → (write_f s).Ok w → is_some (lookup w.stamp v.history) ≡ false → leb capacity (length v.history) ≡ false
      → ServerOk s (record { latest = v.latest; history = v.history ++ w ∷ [] })
  store_ok w h new room =
      let e : distinct (v.history ++ w ∷ []) ≡ true = fresh_snoc [] v.history w ∙ rw (ok.once, new) in
      let l = leb-false capacity (length v.history) room in
      record {
        few = omega (arith, length-append v.history (w ∷ []), l);
        latest = ok.latest;
        writes = all_snoc _ v.history w ok.writes h;
        once = e;
      }

  held-reply : (c : Candidate) → (any_candidate_f s).Ok c → (held_f s).Ok (record { stamp = c.stamp; share = lookup c.stamp v.history })
  unfolding held_f via seq optional
  held-reply c h = (any-stamp s c h, go (lookup c.stamp v.history) (λ x e. held-ok s c.stamp v.history ok.writes x e))
    where
      go : (o : Option Share) → ((x : Share) → o ≡ some x → (1 ≤ c.stamp.number) × (share_f s).Ok x) → (optional (held_most_def c.stamp) (share_f s)).Ok o
      go none k = tt
      go (some x) k =
          let g = k x refl in
          let ne = ne_eqb c.stamp.number 0 (λ z. omega (arith, g.0)) in
          (rw ne (lit≤ tt), g.1)

  -- what the layout asks of the server after a request, and of the reply
  pub record Right (a : Acted) : Type 0 where
    pub server : ServerOk s a.server
    pub reply : BodyOk s a.reply

  code_ok : (n : ℕ) → (eqb n 0 || leb 10 n) ≡ true → n ≤ 11 → code_f.Ok n
  unfolding code_f such byte
  code_ok n e h = (e, (omega arith, h))

  pub act-ok : (x : Body) → BodyOk s x → Right (act P s key b v x)
  unfolding act on_store_def
  act-ok clock h = record { server = ok; reply = any-stamp s v.latest ok.latest }
  act-ok (store w) h =
      at-cond (is_some (lookup w.stamp v.history)) _ _ Right
      (λ e. record { server = ok; reply = code_ok _ refl (lit≤ tt) })
      (λ e.
      at-cond (leb capacity (length v.history)) _ _ Right
      (λ f. record { server = ok; reply = code_ok _ refl (lit≤ tt) })
      (λ f. record { server = store_ok w h e f; reply = code_ok _ refl (lit≤ tt) }))
  act-ok (complete c) h = record { server = raise-ok c (any-candidate s c h); reply = tt }
  act-ok collect h = record { server = ok; reply = ok.latest }
  act-ok (filter cs) h =
      let g = best-ok (blank_candidate s) cs (blank-candidate s) (list-ok s cs h) in
      record { server = raise-ok _ g; reply = held-reply _ g }
  act-ok (repair c) h =
      record { server = at-cond (valid P s key b v c) _ _ (ServerOk s) (λ e. raise-ok c (any-candidate s c h)) (λ e. ok); reply = tt }
  act-ok (clock_reply x) h = record { server = ok; reply = tt }
  act-ok (store_reply x) h = record { server = ok; reply = tt }
  act-ok complete_reply h = record { server = ok; reply = tt }
  act-ok (collect_reply x) h = record { server = ok; reply = tt }
  act-ok (filter_reply x) h = record { server = ok; reply = tt }
  act-ok repair_reply h = record { server = ok; reply = tt }
