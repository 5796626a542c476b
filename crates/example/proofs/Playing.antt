-- Tools to show that a given run meets the premises, for every digest and tag of the right lengths: a shelf of t = 1 on which server 1 lies and
-- client 16 is wild, what is known of a run so far, and that one more step keeps it. All that is digested is one nonce, so that nothing collides.
-- Assumes nothing.
use mathlib.Core.Path.{◌≡◌, sym, ap, subst, ◌∙◌}
use mathlib.Core.Bool.{Bool, true, cond, not}
use mathlib.Core.List.{List, [], ◌∷◌, ◌++◌}
use mathlib.Core.Logic.{◌⊎◌, inl, inr}
use Prim.Native.Nat.{ℕ}
use native.Mathlib.Omega.{arith}
use lib.ListN.{length, get_or, replicate}
use Rattle.cluster.specs.Config.{shelf}
use Rattle.cluster.specs.Ranges.{within, key_size}
use Rattle.cluster.proofs.Tests.{inside}
use Rattle.hmac.specs.Hmac.{tag_size}
use Rattle.erasure.specs.Fragments.{fragment, restored}
use Rattle.format.specs.Format.{Bytes}
use Rattle.protocol.specs.Values.{digest_size, nonce_size}
use Rattle.protocol.specs.Primitives.{Primitives, Lengths, real}
use Rattle.protocol.specs.Rules.{ByServer, count_to}
use Rattle.protocol.specs.Server.{Server, blank_server}
use Rattle.protocol.specs.Client.{accepted}
use Rattle.protocol.specs.ClientBytes.{key_of}
use Rattle.runs.specs.Runs.{Step, Shelf, config_of, Account}
use Rattle.protocol.proofs.Primitive.{real-lengths}
use Rattle.runs.proofs.ValueRuns.{World, now_values}
use Rattle.atomicity.specs.Lists.{Ever, Always, All, In}
use Rattle.atomicity.specs.Steps.{System, StepIn, stamped_by, tags_made, digested, all_digested, nonces_got, checked_by, digested_by, nonces_by}
use Rattle.atomicity.specs.Premises.{Correct, Parties, PartyOf, Authentic, Begins, Shows, FreshNonce, NoEarlyNonce, NoForgery, NoCollision}
use Rattle.atomicity.specs.Premises.{Premise}
use Rattle.atomicity.specs.Claim.{Logged, log}
use Rattle.atomicity.proofs.Util.{all_map, all_in, within_in}
use Rattle.atomicity.proofs.Model.{Run, perform, now, account}

-- ---- any digest and tag of the right lengths

pub record Hashing : Type 0 where
  pub digest : List ℕ → List ℕ
  pub tag : List ℕ → List ℕ → List ℕ
  pub digest-size : (m : List ℕ) → length (digest m) ≡ digest_size
  pub tag-size : (k m : List ℕ) → length (tag k m) ≡ tag_size
  pub digest-bytes : (m : List ℕ) → Bytes (digest m)
  pub tag-bytes : (k m : List ℕ) → Bytes (tag k m)

abbrev pub functions : Hashing → Primitives
functions H = record { digest = H.digest; tag = H.tag; fragment = fragment; restored = restored }

pub function-lengths : (H : Hashing) → Lengths (functions H)
unfolding real
function-lengths H = record { digest = H.digest-size; tag = H.tag-size; fragment = real-lengths.fragment; content = real-lengths.content }

-- ---- the shelf and its parties: server 1 lies, client 16 is wild

abbrev pub desk : Shelf
desk = record {
  t = 1;
  writers = replicate key_size 255;
  keys = replicate key_size 1 ∷ replicate key_size 2 ∷ replicate key_size 3 ∷ replicate key_size 4 ∷ [];
}

abbrev pub who : Correct
who = record { client = within 1 15; server = within 2 4 }

pub parties : Parties (config_of desk) who
unfolding shelf count_to
parties =
    record {
      writers = λ c lo hi. within_in 1 15 c lo (omega (arith, hi));
      clients = λ c e. let r = inside 1 15 c (ap not e) in (r.0, omega (arith, r.1));
      servers = λ b e. let r = inside 2 4 b (ap not e) in (omega (arith, r.0), omega (arith, r.1));
      liars = omega arith;
    }

-- ---- nonces: of the first write, of the second, and of what the wild client makes up

unfoldable pub nonce1 : List ℕ
nonce1 = replicate nonce_size 42

unfoldable pub nonce2 : List ℕ
nonce2 = replicate nonce_size 43

unfoldable pub nonce3 : List ℕ
nonce3 = replicate nonce_size 7

first_differs : (a b : List ℕ) → a ≡ b → get_or a 0 0 ≡ get_or b 0 0
first_differs a b e = ap (λ (l : List ℕ). get_or l 0 0) e

module _ (H : Hashing) where
  abbrev pub s : System
  s = record { P = functions H; config = config_of desk; writers = desk.writers; keys = key_of desk.keys }

  abbrev pub A : Account (StepIn s)
  A = account s

  -- ---- what a step does to a world; of a moment's world it is what the premises speak of

  abbrev pub servers_of_def : World → ByServer Server
  servers_of_def w b = cond (within 1 s.config.servers b) (w.server b) (blank_server s.config)

  abbrev pub checked_in : World → Step → List (List ℕ × List ℕ)
  checked_in w x = cond (accepted (perform s w x).result) (checked_by s w.client (servers_of_def w) x) []

  abbrev pub digested_in : World → Step → List (List ℕ)
  digested_in w x =
      cond (accepted (perform s w x).result)
      (digested_by s w.client (servers_of_def w) (stamped_by w.client (perform s w x).world.client x) x) []

  abbrev pub nonces_in : World → Step → List (List ℕ)
  nonces_in w x = cond (accepted (perform s w x).result) (nonces_by s x) []

  -- ---- what is known of a run

  abbrev pub Begun : ℕ → List ℕ → Run s → Type 0
  Begun c n xs = Ever (Begins s A c n) xs

  abbrev pub Shown : ℕ → List ℕ → Run s → Type 0
  Shown c n xs = Ever (Shows s A c n) xs

  abbrev pub Got : List ℕ → Run s → Type 0
  Got n xs = Ever (λ y ys. In n (nonces_got s A y ys)) xs

  -- the tag with this key over these bytes has been made
  abbrev pub Made : List ℕ × List ℕ → Run s → Type 0
  Made kb xs = Ever (λ y ys. In kb (tags_made s A y ys)) xs

  -- a write that has begun: client 1's with the first nonce or, if two have, one with the second
  abbrev pub OfWrite : Bool → ℕ → List ℕ → Type 0
  OfWrite two c n = ((c ≡ 1) × (n ≡ nonce1)) ⊎ ((two ≡ true) × (n ≡ nonce2))

  -- its world and its calls; all that was digested is the first nonce; servers have got the first nonce and the made-up one only
  pub record Play (two : Bool) (xs : Run s) (w : World) (cs : List Logged) : Type 0 where
    pub fair : Always (Premise s A who) xs
    pub here : now s xs ≡ w
    pub calls : log A xs ≡ cs
    pub same : All (λ u. u ≡ nonce1) (all_digested s A xs)
    pub begun : (c : ℕ) (n : List ℕ) → Begun c n xs → OfWrite two c n
    pub got : (n : List ℕ) → Got n xs → (n ≡ nonce1) ⊎ (n ≡ nonce3)

  -- ---- nonces that may be shown

  -- servers get no nonce, or the first after its writer has shown it, or the made-up one
  abbrev pub Timely : Run s → List (List ℕ) → Type 0
  Timely xs ns = (ns ≡ []) ⊎ (Shown 1 nonce1 xs × All (λ n. (n ≡ nonce1) ⊎ (n ≡ nonce3)) ns)

  timely : (two : Bool) (xs : Run s) (w : World) (cs : List Logged) → Play two xs w cs → (ns : List (List ℕ)) → Timely xs ns →
      All (λ n. (c : ℕ) → Begun c n xs → Shown c n xs) ns
  unfolding All nonce1 nonce2 nonce3
  timely two xs w cs p ns (inl e) = subst (All (λ n. (c : ℕ) → Begun c n xs → Shown c n xs)) (sym e) tt
  timely two xs w cs p ns (inr (h, a)) = all_map _ _ each ns a
    where
      each : (n : List ℕ) → (n ≡ nonce1) ⊎ (n ≡ nonce3) → (c : ℕ) → Begun c n xs → Shown c n xs
      each n one c b = tell (p.begun c n b) one
        where
          tell : OfWrite two c n → (n ≡ nonce1) ⊎ (n ≡ nonce3) → Shown c n xs
          tell (inl (i, e)) o = subst (λ (j : ℕ). Shown j n xs) (sym i) (subst (λ (m : List ℕ). Shown 1 m xs) (sym e) h)
          tell (inr (y, e)) (inl k) = absurd (omega (arith, first_differs _ _ (sym e ∙ k)))
          tell (inr (y, e)) (inr k) = absurd (omega (arith, first_differs _ _ (sym e ∙ k)))

  got_more : (n : List ℕ) (xs : Run s) (ns : List (List ℕ)) → Timely xs ns → In n ns → (n ≡ nonce1) ⊎ (n ≡ nonce3)
  unfolding In
  got_more n xs ns (inl e) i = absurd (subst (In n) e i)
  got_more n xs ns (inr (h, a)) i = all_in _ ns a n i

  -- ---- one more step

  -- what has to be known of a step x after xs, in the world w
  pub record Next (is : Bool) (xs : Run s) (w : World) (x : StepIn s) (w' : World) (cs' : List Logged) : Type 0 where
    pub world : (perform s w x.step).world ≡ w'
    pub noted : log A (x ∷ xs) ≡ cs'
    pub party : PartyOf s A who xs x.step
    pub authentic : Authentic s A who x xs
    pub fresh : FreshNonce s A x xs
    pub write : (c : ℕ) (n : List ℕ) → Begins s A c n x xs → OfWrite is c n
    pub unforged : All (λ kb. Made kb xs) (checked_in w x.step)
    pub digests : All (λ u. u ≡ nonce1) (digested_in w x.step)
    pub nonces : Timely xs (nonces_in w x.step)

  all_row : {B : Type 0} (P : B → Type 0) (us vs : List B) → All P us → All P vs → All P (us ++ vs)
  unfolding All
  all_row P [] vs h k = k
  all_row P (u ∷ us) vs h k = (h.0, all_row P us vs h.1 k)

  pub play_on : (was is : Bool) (xs : Run s) (w : World) (cs : List Logged) (x : StepIn s) (w' : World) (cs' : List Logged) →
      Play was xs w cs → (was ≡ true → is ≡ true) → Next is xs w x w' cs' → Play is (x ∷ xs) w' cs'
  unfolding Always Ever all_digested NoForgery NoCollision NoEarlyNonce now_values
  play_on was is xs w cs x w' cs' p up h = record {
    fair = (
      record {
        party = h.party;
        authentic = h.authentic;
        fresh = h.fresh;
        unforged = subst (λ (v : World). All (λ kb. Made kb xs) (checked_in v x.step)) (sym p.here) h.unforged;
        uncollided =
            all_map (λ u. u ≡ nonce1) _ (λ u e. all_map (λ v. v ≡ nonce1) _ (λ v k q. e ∙ sym k) _ all_first) (digested s A x xs) just_first;
        unshown = timely was xs w cs p (nonces_got s A x xs) just_timely;
      },
      p.fair,
    );
    here = ap (λ (v : World). (perform s v x.step).world) p.here ∙ h.world;
    calls = h.noted;
    same = all_first;
    begun = began;
    got = gets;
  }
    where
      just_first : All (λ u. u ≡ nonce1) (digested s A x xs)
      just_first = subst (λ (v : World). All (λ u. u ≡ nonce1) (digested_in v x.step)) (sym p.here) h.digests

      all_first : All (λ u. u ≡ nonce1) (digested s A x xs ++ all_digested s A xs)
      all_first = all_row (λ u. u ≡ nonce1) (digested s A x xs) (all_digested s A xs) just_first p.same

      just_timely : Timely xs (nonces_got s A x xs)
      just_timely = subst (λ (v : World). Timely xs (nonces_in v x.step)) (sym p.here) h.nonces

      began : (c : ℕ) (n : List ℕ) → Begun c n (x ∷ xs) → OfWrite is c n
      began c n (inl b) = h.write c n b
      began c n (inr b) = still (p.begun c n b)
        where
          still : OfWrite was c n → OfWrite is c n
          still (inl o) = inl o
          still (inr (y, e)) = inr (up y, e)

      gets : (n : List ℕ) → Got n (x ∷ xs) → (n ≡ nonce1) ⊎ (n ≡ nonce3)
      gets n (inl i) = got_more n xs (nonces_got s A x xs) just_timely i
      gets n (inr g) = p.got n g
