-- A storing or completing hand has its mark; a mark's write was begun with its content and nonce; and the nonce and the fragments of a mark are
-- among the inputs digested so far.
-- Assumes nothing.
use mathlib.Core.Path.{◌≡◌, refl, sym, subst}
use mathlib.Core.Bool.{Bool, true, cond, not}
use mathlib.Core.List.{List, [], ◌∷◌, ◌++◌, flat_map}
use mathlib.Core.Logic.{◌⊎◌, inl, inr}
use Prim.Native.Nat.{ℕ, suc, ◌≤◌}
use lib.ListN.{length}
use Rattle.cluster.specs.Config.{Config}
use Rattle.cluster.specs.Ranges.{top_writer, top_length}
use Rattle.format.specs.Format.{Bytes}
use Rattle.protocol.specs.Packet.{decode}
use Rattle.protocol.specs.Client.{Client, Hand, Result, Turn, awaits, is_idle, of_write, write_refusal_def, write_step, idle, clocking, storing, completing}
use Rattle.protocol.specs.Client.{collecting, filtering, repairing, begun, onto, prepared, candidate_made, share_made, shares_made, stamp_of, accepted}
use Rattle.runs.specs.Runs.{Step, write, take-reply, Fed}
use Rattle.runs.proofs.ValueRuns.{now_values, do_values, set_client}
use Rattle.protocol.proofs.Fine.{at-refusal}
use Rattle.atomicity.specs.Lists.{Ever, In}
use Rattle.atomicity.specs.Steps.{StepIn, System, Stamped, stamped_from, stamped_by, stamped_at, digests_with, digested_by, digested, compared}
use Rattle.atomicity.specs.Steps.{all_digested, of_packet}
use Rattle.atomicity.proofs.Util.{clash, left_in, right_in, split_in, flat_in, ever-out}
use Rattle.atomicity.proofs.Model.{Run, perform, now, account, client_at_def, hand_at, last_at, result_at, marks, stamp_for, candidate_for, shares_for}
use Rattle.atomicity.proofs.Moves.{write-passed, MovedAt, kept, wbegan, rbegan, quit, took, moved}
use Rattle.atomicity.proofs.Rounds.{Next, stays, clock_on, clock-ends, store-ends, collect_on, collect-ends, filter_on, filter-ends, over}
use Rattle.atomicity.proofs.Rounds.{turn_turned}
use Rattle.atomicity.proofs.Marks.{Marked, mark_source, marks-up}

-- an accepted write's length is in its range
write-length : (s : Config) (c : ℕ) (cl : Client) (r n : List ℕ) → accepted (write_step s c cl r n).result ≡ true → length r ≤ top_length
unfolding write_step
write-length s c cl r n = at-refusal (λ (u : Turn). accepted u.result ≡ true → length r ≤ top_length)
    (write_refusal_def s c (length r) (not (is_idle cl.hand)) cl.calls) _ _ (λ e q. (write-passed s c cl r e).1) (λ q. clash q refl)

-- and its client a writer
write-client : (s : Config) (c : ℕ) (cl : Client) (r n : List ℕ) → accepted (write_step s c cl r n).result ≡ true → c ≤ top_writer
unfolding write_step
write-client s c cl r n = at-refusal (λ (u : Turn). accepted u.result ≡ true → c ≤ top_writer)
    (write_refusal_def s c (length r) (not (is_idle cl.hand)) cl.calls) _ _ (λ e q. (write-passed s c cl r e).0) (λ q. clash q refl)

module _ (s : System) where
  -- the write was begun
  abbrev pub Opening : ℕ → List ℕ → List ℕ → StepIn s → Run s → Type 0
  Opening c r n x xs = (x.step ≡ write c r n) × (accepted (result_at s x xs) ≡ true)

  -- what is known of a writing hand
  unfoldable pub Known : Run s → ℕ → Hand → Type 0
  Known xs c idle = Unit {0}
  Known xs c (clocking r n k) = Ever (Opening c r n) xs
  Known xs c (storing d h) = (m : Stamped) × In m (marks s xs) × (m.client ≡ c) × (d ≡ candidate_for s m) × (h ≡ shares_for s m)
  Known xs c (completing d) = (m : Stamped) × In m (marks s xs) × (m.client ≡ c) × (d ≡ candidate_for s m)
  Known xs c (collecting g) = Unit {0}
  Known xs c (filtering cs g) = Unit {0}
  Known xs c (repairing d r) = Unit {0}

  known_up : (x : StepIn s) (xs : Run s) (c : ℕ) (h : Hand) → Known xs c h → Known (x ∷ xs) c h
  unfolding Known Ever
  known_up x xs c idle f = tt
  known_up x xs c (clocking r n k) f = inr f
  known_up x xs c (storing d h) f = (f.0, marks-up s f.0 x xs f.1, f.2, f.3, f.4)
  known_up x xs c (completing d) f = (f.0, marks-up s f.0 x xs f.1, f.2, f.3)
  known_up x xs c (collecting g) f = tt
  known_up x xs c (filtering cs g) f = tt
  known_up x xs c (repairing d r) f = tt

  known_next : (x : StepIn s) (xs : Run s) (c : ℕ) (h : Hand) (l : ℕ) (h' : Hand) (l' : ℕ) → Next s c h l h' l' →
      ((m : Stamped) → In m (stamped_from c h h') → In m (marks s (x ∷ xs))) → Known xs c h → Known (x ∷ xs) c h'
  unfolding Known Ever stamped_from prepared candidate_made shares_made share_made stamp_of In
  known_next x xs c h l h' l' (stays _ _) new f = known_up x xs c h f
  known_next x xs c h l h' l' (clock_on r n k k' _ e) new f = inr f
  known_next x xs c h l h' l' (clock-ends r n k k' _ e) new f =
      (record { client = c; content = r; nonce = n; stamp = stamp_for s c (suc k') }, new _ (inl refl), refl, refl, refl)
  known_next x xs c h l h' l' (store-ends d g _) new f = (f.0, marks-up s f.0 x xs f.1, f.2, f.3)
  known_next x xs c h l h' l' (collect_on g g' _) new f = tt
  known_next x xs c h l h' l' (collect-ends g cs _) new f = tt
  known_next x xs c h l h' l' (filter_on cs g g' _) new f = tt
  known_next x xs c h l h' l' (filter-ends cs g d r _) new f = tt
  known_next x xs c h l h' l' (over _ _) new f = tt

  pub known : (xs : Run s) (c : ℕ) → Known xs c (hand_at s xs c)
  unfolding now_values Known begun onto Ever stamped_by marks
  known [] c = tt
  known (x ∷ xs) c = go (moved s c x xs) (known xs c)
    where
      to : {cl : Client} → client_at_def s (x ∷ xs) c ≡ cl → Known (x ∷ xs) c cl.hand → Known (x ∷ xs) c (hand_at s (x ∷ xs) c)
      to e k = subst (λ (z : Client). Known (x ∷ xs) c z.hand) (sym e) k

      go : MovedAt s c x xs → Known xs c (hand_at s xs c) → Known (x ∷ xs) c (hand_at s (x ∷ xs) c)
      go (kept e _) f = to e (known_up x xs c (hand_at s xs c) f)
      go (wbegan r n a b d l e) f = to e (inl (a, subst (λ (z : Result). accepted z ≡ true) (sym b) refl))
      go (rbegan a b d e) f = to e tt
      go (quit a b d e) f = to e tt
      go (took p lent b o a d g e r) f = known_next x xs c (hand_at s xs c) (last_at s xs c) (hand_at s (x ∷ xs) c) (last_at s (x ∷ xs) c)
          (subst (λ (z : Client). Next s c (hand_at s xs c) (last_at s xs c) z.hand z.last) (sym e) (turn_turned s c (client_at_def s xs c) p).next)
          (λ m i. new m (subst (λ (y : Step). In m (stamped_by (client_at_def s xs) (client_at_def s (x ∷ xs)) y)) (sym a) (here m i))) f
        where
          here : (m : Stamped) → In m (stamped_from c (hand_at s xs c) (hand_at s (x ∷ xs) c)) →
              In m (stamped_by (client_at_def s xs) (client_at_def s (x ∷ xs)) (take-reply c lent b o))
          here m i = i

          new : (m : Stamped) → In m (stamped_at s (account s) x xs) → In m (marks s (x ∷ xs))
          new m i = left_in m (stamped_at s (account s) x xs) (marks s xs) i

  -- a mark's write was begun, with its content and nonce
  pub opened : (xs : Run s) (m : Stamped) → In m (marks s xs) → Ever (Opening m.client m.content m.nonce) xs
  unfolding marks In Ever Known
  opened [] m i = absurd i
  opened (x ∷ xs) m i = go (split_in m (stamped_at s (account s) x xs) (marks s xs) i) (λ k. opened xs m k)
    where
      go : In m (stamped_at s (account s) x xs) ⊎ In m (marks s xs) → (In m (marks s xs) → Ever (Opening m.client m.content m.nonce) xs) →
          Opening m.client m.content m.nonce x xs ⊎ Ever (Opening m.client m.content m.nonce) xs
      go (inl k) f = inr (subst (Known xs m.client) (mark_source s x xs m k).was (known xs m.client))
      go (inr k) f = inr (f k)

  -- so its content is of bytes
  pub mark-bytes : (xs : Run s) (m : Stamped) → In m (marks s xs) → Bytes m.content
  mark-bytes xs m i = ever-out (Opening m.client m.content m.nonce) xs
      (λ y ys o. subst (λ (st : Step). Fed s.config s.writers s.keys st → Bytes m.content) (sym o.0) (λ f. f.0) y.fed)
      (opened xs m i)

  -- and its length is in its range: any other is refused
  pub mark-length : (xs : Run s) (m : Stamped) → In m (marks s xs) → length m.content ≤ top_length
  unfolding do_values set_client
  mark-length xs m i = ever-out (Opening m.client m.content m.nonce) xs
      (λ y ys o. write-length s.config m.client (client_at_def s ys m.client) m.content m.nonce
      (subst (λ (st : Step). accepted (perform s (now s ys) st).result ≡ true) o.0 o.1)) (opened xs m i)

  opened-client : (xs : Run s) (c : ℕ) (r n : List ℕ) → Ever (Opening c r n) xs → c ≤ top_writer
  unfolding do_values set_client
  opened-client xs c r n ev = ever-out (Opening c r n) xs
      (λ y ys o. write-client s.config c (client_at_def s ys c) r n (subst (λ (st : Step). accepted (perform s (now s ys) st).result ≡ true) o.0
      o.1)) ev

  -- a write in hand is a writer's, so 5 does not refuse its rounds
  pub hand-writer : (xs : Run s) (c : ℕ) → of_write (awaits (hand_at s xs c)) ≡ true → c ≤ top_writer
  unfolding awaits Ever Known
  hand-writer xs c = go (hand_at s xs c) (known xs c)
    where
      marked : (m : Stamped) → In m (marks s xs) → m.client ≡ c → c ≤ top_writer
      marked m i e = subst (λ (d : ℕ). d ≤ top_writer) e (opened-client xs m.client m.content m.nonce (opened xs m i))

      go : (h : Hand) → Known xs c h → of_write (awaits h) ≡ true → c ≤ top_writer
      go idle k e = clash e refl
      go (clocking r n h) k e = opened-client xs c r n k
      go (storing d g) k e = marked k.0 k.1 k.2
      go (completing d) k e = marked k.0 k.1 k.2
      go (collecting g) k e = clash e refl
      go (filtering cs g) k e = clash e refl
      go (repairing d r) k e = clash e refl

  -- what a mark digests is among the inputs digested
  pub mark-digested : (xs : Run s) (m : Stamped) (u : List ℕ) → In m (marks s xs) → In u (digests_with s m) → In u (all_digested s (account s) xs)
  unfolding marks In all_digested digested_by
  mark-digested [] m u i d = absurd i
  mark-digested (x ∷ xs) m u i d = go (split_in m (stamped_at s (account s) x xs) (marks s xs) i) (λ k. mark-digested xs m u k d)
    where
      go : In m (stamped_at s (account s) x xs) ⊎ In m (marks s xs) → (In m (marks s xs) → In u (all_digested s (account s) xs)) →
          In u (digested s (account s) x xs ++ all_digested s (account s) xs)
      go (inr k) f = right_in u (digested s (account s) x xs) (all_digested s (account s) xs) (f k)
      go (inl k) f = left_in u (digested s (account s) x xs) (all_digested s (account s) xs)
          (subst (λ (b : Bool). In u (cond b (by x.step) [])) (sym t.fine)
          (subst (λ (y : Step). In u (by y)) (sym t.step) (here (flat_in (digests_with s) (stamped_at s (account s) x xs) m u k d))))
        where
          t : Marked s x xs m
          t = mark_source s x xs m k

          by : Step → List (List ℕ)
          by = digested_by s (client_at_def s xs) ((account s).server xs) (stamped_at s (account s) x xs)

          here : In u (flat_map (digests_with s) (stamped_at s (account s) x xs)) → In u (by (take-reply m.client t.lent t.packet t.output))
          here j = left_in u (flat_map (digests_with s) (stamped_at s (account s) x xs))
              (of_packet (compared s (client_at_def s xs m.client) (hand_at s xs m.client)) (decode t.packet)) j
