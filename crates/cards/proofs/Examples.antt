-- Runs computed from protocol's definitions, on values, with toy primitives that can be followed by eye: t = 1, four servers, quorum 3, k = 2.
-- Each holds by computation alone. They stand in no crate below the theorem, so that a wrong shelf that they refuse reaches the theorem. Assumes
-- nothing.
use mathlib.Core.Path.{◌≡◌, refl}
use mathlib.Core.Bool.{true}
use mathlib.Core.List.{List, [], ◌∷◌, ◌++◌}
use mathlib.Core.Option.{Option, none, some}
use Prim.Native.Nat.{ℕ, zero, suc, ◌+◌, ◌-◌, ◌*◌}
use lib.ListN.{length, replicate}
use Rattle.cluster.specs.Config.{shelf, up_to, quorum}
use Rattle.cluster.specs.Ranges.{packet_room, content_room, capacity}
use Rattle.hmac.specs.Hmac.{tag_size}
use Rattle.erasure.specs.Fragments.{Part}
use Rattle.protocol.specs.declared.Label.{Label}
use Rattle.protocol.specs.Values.{Candidate, Write, digest_size, nth, run_of, is_blank_def, below, same_stamp, same_candidate, no_share}
use Rattle.protocol.specs.Packet.{Body, Packet, kind_of, store, store_reply, collect_reply, filter_reply}
use Rattle.protocol.specs.Memory.{lookup}
use Rattle.protocol.specs.Primitives.{Primitives, stamp_message_def, candidate_message}
use Rattle.protocol.specs.Rules.{ByServer, upd, nobody, count_to, any, keep, first, gather, lower, live, fits, agrees, leads, leader, highest, choice, parts, restored_by}
use Rattle.protocol.specs.Server.{Server, blank_server, on_store_def, raise, by_history_def, by_tag, valid, best, act, barred, reply_to, server_refusal}
use Rattle.protocol.proofs.ServerStep.{answered, server_step}
use Rattle.protocol.specs.Client.{Client, Result, more, written, gave, gave_blank, new_client, awaits, is_idle, stamp_of, tags_of, candidate_made, share_made, shares_made, prepared, made, onto, checks, higher, is_full_def, found, judge, update, too_high}
use Rattle.protocol.specs.Client.{write_refusal_def, read_refusal_def, make_refusal_def, take_refusal, begun, write_step, read_step, make_step, turn_on, high_at, take_step}

-- ---- the toy shelf

-- a number that tells short lists apart
unfoldable mix : List ℕ → ℕ
mix [] = 1
mix (x ∷ xs) = x + 3 * mix xs

abbrev first_part_def : List Part → List ℕ
first_part_def [] = []
first_part_def (p ∷ ps) = p.bytes

-- digest and tag are that number and zeros, a fragment is the whole content
unfoldable toy : Primitives
toy =
    record {
      digest = λ m. mix m ∷ replicate (digest_size - 1) 0;
      tag = λ k m. mix (k ++ m) ∷ replicate (tag_size - 1) 0;
      fragment = λ points k r i. r;
      restored = λ points k n ps. first_part_def ps;
    }

unfoldable writers : List ℕ
writers = 99 ∷ []

unfoldable keys : ByServer (List ℕ)
keys i = i ∷ []

record Scene : Type 0 where
  client : ByServer Client
  server : ByServer Server
  -- of the last step
  result : Result

unfoldable new : Scene
new = record { client = λ c. new_client; server = λ b. blank_server (shelf 1); result = more }

-- client c takes a packet
unfoldable hears : Scene → ℕ → Option Packet → Scene
hears w c o =
    let u = take_step toy (shelf 1) c writers keys (w.client c) o content_room in
    record { client = upd w.client c u.client; server = w.server; result = u.result }

-- client c makes its packet for server b, which answers, and takes the answer
unfoldable asks : ℕ → Scene → ℕ → Scene
asks c w b =
    let p = (make_step (shelf 1) c (w.client c) b packet_room).packet in
    let d = server_step toy (shelf 1) (keys b) b (w.server b) packet_room p in
    hears (record { client = w.client; server = upd w.server b d.server; result = w.result }) c d.reply

unfoldable asks_all : ℕ → List ℕ → Scene → Scene
asks_all c [] w = w
asks_all c (b ∷ bs) w = asks_all c bs (asks c w b)

unfoldable writes : ℕ → List ℕ → List ℕ → Scene → Scene
writes c r n w =
    let u = write_step (shelf 1) c (w.client c) r n in record { client = upd w.client c u.client; server = w.server; result = u.result }

unfoldable reads : ℕ → Scene → Scene
reads c w = let u = read_step (shelf 1) c (w.client c) in record { client = upd w.client c u.client; server = w.server; result = u.result }

-- a call from its begin to its end: client c's write at servers 1, 2, 3; client 9's read at servers 2, 3, 4
unfoldable whole_write : ℕ → List ℕ → List ℕ → Scene → Scene
whole_write c r n w = asks_all c (1 ∷ 2 ∷ 3 ∷ []) (asks_all c (1 ∷ 2 ∷ 3 ∷ []) (asks_all c (1 ∷ 2 ∷ 3 ∷ []) (writes c r n w)))

unfoldable whole_read : Scene → Scene
whole_read w = asks_all 9 (2 ∷ 3 ∷ 4 ∷ []) (asks_all 9 (2 ∷ 3 ∷ 4 ∷ []) (reads 9 w))

-- ---- a write followed by a read

-- client 1 writes 65, 66 with the nonce 42: clock, store and complete at servers 1, 2, 3
unfoldable stored : Scene
stored = asks_all 1 (1 ∷ 2 ∷ 3 ∷ []) (asks_all 1 (1 ∷ 2 ∷ 3 ∷ []) (writes 1 (65 ∷ 66 ∷ []) (42 ∷ []) new))

unfoldable completed : Scene
completed = asks_all 1 (1 ∷ 2 ∷ 3 ∷ []) stored

-- client 9 reads: collect and filter at servers 2, 3, 4, of which 4 missed the write
unfoldable read_after : Scene
read_after = whole_read completed

-- ---- a write whose tags a liar spoiled, read through repair

-- an answer of server 1 to client 9
abbrev lie : Body → Option Packet
lie x = some (record { head = record { kind = kind_of x; client = 9; server = 1; t = 1; call = 1 }; body = x })

-- client 1's candidate without its tags
unfoldable spoilt : Candidate
spoilt = record { stamp = stamp_of toy (shelf 1) 1 writers keys 1; nonce = 42 ∷ []; tags = [] }

-- the write stopped after store, and only the liar shows a candidate. Servers 2 and 3 know it by their history, server 4 cannot check it
unfoldable filtered : Scene
filtered = asks_all 9 (2 ∷ 3 ∷ 4 ∷ []) (asks_all 9 (2 ∷ 3 ∷ []) (hears (reads 9 stored) 9 (lie (collect_reply spoilt))))

unfoldable repaired : Scene
repaired = asks_all 9 (2 ∷ 3 ∷ 4 ∷ []) filtered

-- ---- a candidate that leaves the list

-- server 1 invents a candidate of number 50
unfoldable invented : Candidate
invented = record { stamp = record { number = 50; writer = 2; tag = [] }; nonce = 13 ∷ []; tags = [] }

-- it shows it in collect, and in filter it says that it holds nothing lower
unfoldable misled : Scene
misled =
    hears (asks_all 9 (2 ∷ 3 ∷ []) (hears (reads 9 completed) 9 (lie (collect_reply invented)))) 9
    (lie (filter_reply (record { stamp = invented.stamp; share = none })))

-- ---- a content of no bytes, which is not blank

-- each read of one and the same shelf, before and after each write: nothing, no bytes, two bytes, no bytes again
unfoldable blank_read_def : Scene
blank_read_def = whole_read new

unfoldable empty_read : Scene
empty_read = whole_read (whole_write 1 [] (42 ∷ []) blank_read_def)

unfoldable full_read : Scene
full_read = whole_read (whole_write 2 (65 ∷ 66 ∷ []) (43 ∷ []) empty_read)

unfoldable again_read : Scene
again_read = whole_read (whole_write 1 [] (44 ∷ []) full_read)

-- ---- what they give

-- number and writer of the write's stamp
abbrev label1 : Label
label1 = record { number = 1; writer = 1 }

record Shown : Type 0 where
  write-ends : completed.result ≡ written label1
  read_gives : read_after.result ≡ gave label1 (65 ∷ 66 ∷ [])
  -- the content waits for the repair; after it the content is given, and server 4, which has no share of it, shows the candidate with tags that every
  -- server can check
  awaits-repair : awaits (filtered.client 9).hand ≡ 12
  read-repaired : repaired.result ≡ gave label1 (65 ∷ 66 ∷ [])
  tags-repaired : same_candidate (repaired.server 4).latest (candidate_made toy (shelf 1) 1 writers keys (42 ∷ []) 1) ≡ true
  -- with two lower replies the round has its quorum and the invented one is still in the list; the third lower one is the S - t th: it leaves, and
  -- the write is read
  still-listed : (asks_all 9 (2 ∷ 3 ∷ []) misled).result ≡ more
  leaves-list : (asks_all 9 (2 ∷ 3 ∷ 4 ∷ []) misled).result ≡ gave label1 (65 ∷ 66 ∷ [])
  -- a content of no bytes is given with its stamp, and only where nothing was written the read is blank
  blank_first : blank_read_def.result ≡ gave_blank
  empty-given : empty_read.result ≡ gave label1 []
  full-over_it : full_read.result ≡ gave (record { number = 2; writer = 2 }) (65 ∷ 66 ∷ [])
  empty_again : again_read.result ≡ gave (record { number = 3; writer = 1 }) []

shown : Shown
unfolding completed stored read_after spoilt filtered repaired invented misled blank_read_def empty_read full_read again_read whole_write whole_read asks_all asks hears writes reads new toy mix writers keys shelf up_to quorum
    nth run_of is_blank_def below same_stamp same_candidate lookup stamp_message_def candidate_message upd nobody count_to any keep first gather lower live fits
    agrees
    leads leader highest choice parts restored_by on_store_def raise by_history_def by_tag valid best act barred reply_to server_refusal answered server_step awaits
    is_idle stamp_of tags_of candidate_made share_made shares_made prepared made onto checks higher is_full_def found judge update too_high write_refusal_def
    read_refusal_def make_refusal_def take_refusal begun write_step read_step make_step turn_on high_at take_step
shown = record {
  write-ends = refl;
  read_gives = refl;
  awaits-repair = refl;
  read-repaired = refl;
  tags-repaired = refl;
  still-listed = refl;
  leaves-list = refl;
  blank_first = refl;
  empty-given = refl;
  full-over_it = refl;
  empty_again = refl;
}

-- ---- a full history: 11, and 10 for what is held

unfoldable write_of_def : ℕ → Write
write_of_def n = record { stamp = record { number = n; writer = 1; tag = [] }; share = no_share }

-- the server after n different writes
unfoldable filled : ℕ → Server
filled zero = blank_server (shelf 1)
filled (suc n) = (act toy (shelf 1) (keys 1) 1 (filled n) (store (write_of_def (suc n)))).server

-- a new one is answered 11, and a held one 10 though the history is full
full-history : (length (filled capacity).history ≡ capacity)
    × ((act toy (shelf 1) (keys 1) 1 (filled capacity) (store (write_of_def (suc capacity)))).reply ≡ store_reply 11)
    × ((act toy (shelf 1) (keys 1) 1 (filled capacity) (store (write_of_def 5))).reply ≡ store_reply 10)
unfolding filled write_of_def act on_store_def lookup same_stamp
full-history = (refl, refl, refl)
