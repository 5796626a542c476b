-- The bytes of every packet that a client makes, by its kind: at every moment of every run, on bytes.
-- What a client holds is within the layout, its shares are of the content that it last began to write, its list has at most S candidates.
-- Assumes nothing but the primitives' lengths.
use mathlib.Core.Path.{◌≡◌, refl, sym, ap, ◌∙◌, subst}
use mathlib.Core.List.{List, []}
use mathlib.Core.Option.{none, some}
use Prim.Native.Nat.{ℕ, zero, suc, ◌+◌, ◌*◌, ◌≤◌}
use native.Mathlib.Omega.{arith}
use lib.ListN.{length}
use Rattle.cluster.specs.Config.{Config, shelf}
use Rattle.cluster.specs.Ranges.{top_faults}
use Rattle.cluster.specs.Refusals.{on_refusal}
use Rattle.protocol.specs.Values.{Candidate, stamp_size, candidate_size_def}
use Rattle.protocol.specs.Packet.{Body, Packet, PacketOk, head_size, share_size_def, decode, encode}
use Rattle.protocol.specs.Packet.{clock, clock_reply, store, store_reply, complete, complete_reply, collect, collect_reply, filter, filter_reply, repair, repair_reply}
use Rattle.protocol.specs.Primitives.{Primitives, Lengths}
use Rattle.protocol.specs.Rules.{ByServer}
use Rattle.protocol.specs.Client.{Client, Hand, more, idle, clocking, storing, completing, collecting, filtering, repairing, request, made, awaits, make_refusal_def, Made, make_step}
use Rattle.protocol.specs.View.{view, kept_size}
use Rattle.protocol.specs.ClientBytes.{key_of}
use Rattle.runs.specs.Runs.{Shelf, config_of, Step, make, Done, result_of, sent_of, now_bytes}
use Rattle.protocol.proofs.Bodies.{decode-encode}
use Rattle.protocol.proofs.Lengths.{body_size, packet-size}
use Rattle.protocol.proofs.HandOk.{HandOk}
use Rattle.protocol.proofs.LetIn.{server_range}
use Rattle.runs.proofs.ValueRuns.{After, do_values, now_values}
use Rattle.runs.proofs.RunLift.{AllFed, Agrees, run_matches, run-agrees}
use Rattle.runs.proofs.ContentLengths.{OfLength, done, length_of, of_length}

-- the bytes of a request's body; n: the length of the content that is written
abbrev pub request_size : Config → ℕ → Body → ℕ
request_size s n clock = 0
request_size s n (store w) = stamp_size + share_size_def s n
request_size s n (complete c) = candidate_size_def s
request_size s n collect = 0
request_size s n (filter cs) = 1 + length cs * candidate_size_def s
request_size s n (repair c) = candidate_size_def s
-- no client makes a reply
request_size s n (clock_reply x) = 0
request_size s n (store_reply x) = 0
request_size s n complete_reply = 0
request_size s n (collect_reply x) = 0
request_size s n (filter_reply x) = 0
request_size s n repair_reply = 0

-- a request's list of candidates is that of filter
abbrev pub list_asked : Body → List Candidate
list_asked (filter cs) = cs
list_asked clock = []
list_asked (clock_reply x) = []
list_asked (store x) = []
list_asked (store_reply x) = []
list_asked (complete x) = []
list_asked complete_reply = []
list_asked collect = []
list_asked (collect_reply x) = []
list_asked (filter_reply x) = []
list_asked (repair x) = []
list_asked repair_reply = []

-- ---- a packet that is made

request-size : (s : Config) (n : ℕ) (h : Hand) (b : ℕ) → 1 ≤ b → b ≤ s.servers → OfLength s n h → body_size s (request h b) ≡ request_size s n
    (request h b)
request-size s n idle b lo hi h = refl
request-size s n (clocking r m k) b lo hi h = refl
request-size s n (storing d g) b lo hi h = ap (λ (i : ℕ). stamp_size + share_size_def s i) (h b lo hi)
request-size s n (completing d) b lo hi h = refl
request-size s n (collecting g) b lo hi h = refl
request-size s n (filtering cs g) b lo hi h = refl
request-size s n (repairing d r) b lo hi h = refl

list-most : (s : Config) (c : ℕ) (h : Hand) (b : ℕ) → HandOk s c h → length (list_asked (request h b)) ≤ s.servers
unfolding HandOk
list-most s c idle b h = omega arith
list-most s c (clocking r m k) b h = omega arith
list-most s c (storing d g) b h = omega arith
list-most s c (completing d) b h = omega arith
list-most s c (collecting g) b h = omega arith
list-most s c (filtering cs g) b h = h.0.1
list-most s c (repairing d r) b h = omega arith

made-size : (t c : ℕ) (cl : Client) (b n : ℕ) → PacketOk (made t c cl b) → OfLength (shelf t) n cl.hand
    → length (encode (made t c cl b)) ≡ head_size + request_size (shelf t) n (request cl.hand b)
unfolding made
made-size t c cl b n h l =
    let r = server_range _ h in
    packet-size _ h ∙ ap (λ (k : ℕ). head_size + k) (request-size (shelf t) n cl.hand b r.0 r.1 l)

-- ---- what is sent

-- the request to server b of a client with the hand h; n: the length of the content that it last began to write
pub record Requested (s : Config) (n : ℕ) (h : Hand) (b : ℕ) (sent : List ℕ) : Type 0 where
  pub packet : Packet
  pub read : decode sent ≡ some packet
  pub asks : packet.body ≡ request h b
  pub size : length sent ≡ head_size + request_size s n packet.body
  pub few : length (list_asked packet.body) ≤ s.servers

module _ (P : Primitives) (law : Lengths P) (sh : Shelf) (tr : (1 ≤ sh.t) × (sh.t ≤ top_faults)) (first : ℕ → List ℕ)
    (sized : (c : ℕ) → length (first c) ≡ kept_size) where
  abbrev s : Config
  s = config_of sh

  abbrev keys : ByServer (List ℕ)
  keys = key_of sh.keys

  requested : (c b room n k : ℕ) (cl : Client) → make_refusal_def s c b (awaits cl.hand) room ≡ k → HandOk s c cl.hand → OfLength s n cl.hand
      → (sent : List ℕ)
      → let d = on_refusal {A = Made} k (record { number = 0; packet = some (made sh.t c cl b) }) (record { number = k; packet = none }) in
      sent ≡ sent_of d.packet → ((p : Packet) → d.packet ≡ some p → PacketOk p) → result_of d.number ≡ more → Requested s n cl.hand b sent
  unfolding made
  requested c b room n (suc k) cl e h l sent z ok q = absurd (let y : ◌≡◌ {A = ℕ} 0 1 = cc in omega arith)
  requested c b room n zero cl e h l sent z ok q =
      let p : Packet = made sh.t c cl b in
      record {
        packet = p;
        read = ap decode z ∙ decode-encode p (ok p refl);
        asks = refl;
        size = ap length z ∙ made-size sh.t c cl b n (ok p refl) l;
        few = list-most s c cl.hand b h;
      }

  requested_by : (c b n : ℕ) (output : List ℕ) (cl : Client) → HandOk s c cl.hand → OfLength s n cl.hand → (sent : List ℕ)
      → let d = make_step s c cl b (length output) in
      sent ≡ sent_of d.packet → ((p : Packet) → d.packet ≡ some p → PacketOk p) → result_of d.number ≡ more → Requested s n cl.hand b sent
  unfolding make_step shelf
  requested_by c b n output cl h l sent z ok q =
      requested c b (length output) n (make_refusal_def s c b (awaits cl.hand) (length output)) cl refl h l sent z ok q

  -- the same on values
  abbrev on_values_def : ℕ → ℕ → List ℕ → List Step → After
  on_values_def c b output xs =
      let w = now_values P s sh.writers keys xs in let d = make_step s c (w.client c) b (length output) in
      record { world = w; result = result_of d.number; sent = d.packet }

  agreed : (c b : ℕ) (output : List ℕ) (xs : List Step) → AllFed P law sh tr xs → Agrees P law sh tr (on_values_def c b output xs)
      (done P sh first (make c b output) xs)
  agreed c b output xs f = unfold do_values in run-agrees P law sh tr first sized (make c b output) xs tt f

  pub request-length : (c b : ℕ) (output : List ℕ) (xs : List Step) → AllFed P law sh tr xs → (done P sh first (make c b output) xs).result ≡ more
      → let m = (now_bytes P sh first xs).client c in
      Requested s (length_of P sh first c xs) (view s m.call m.kept).hand b (done P sh first (make c b output) xs).sent
  request-length c b output xs f e =
      let cl : Client = (now_values P s sh.writers keys xs).client c in
      let n : ℕ = length_of P sh first c xs in
      let d : Done = done P sh first (make c b output) xs in
      let g = agreed c b output xs f in
      let m = run_matches P law sh tr first sized xs f in
      subst (λ (y : Client). Requested s n y.hand b d.sent) (sym (m.client c).seen)
      (requested_by c b n output cl (m.fine c).ok.hand (of_length P law sh tr first sized c xs f) d.sent g.sent g.ok
      (sym g.result ∙ e))
