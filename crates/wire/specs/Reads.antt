-- What each reader's answer says of the bytes from a place on: Some where the format takes bytes there, with a number and the cursor past the field,
-- whose value is known by its place; None exactly where the format takes nothing. Callers make refusal 7 of None, and refusal 2 in a server's memory.
-- Public contracts name FieldAs, LabelledAs, PacketAs, byte_l, stamp_l, share_l, write_l, any_candidate_l; the others serve these, or are what private functions promise.
use Rattle.std.specs.Prelude.{◌≡◌, List, ◌⊎◌, true, false, cond, ℕ, ◌+◌, ◌-◌, ◌*◌, ◌≤◌, ◌<◌, eqb, length, take, drop, get_or, Some, None, MatchOption}
use Rattle.std.specs.declared.option.Option.{Option}
use Rattle.std.proofs.Math.Option.{none, some}
use Rattle.cluster.specs.Config.{Config}
use Rattle.protocol.specs.declared.Head.{Head}
use Rattle.protocol.specs.declared.Label.{Label}
use Rattle.protocol.specs.declared.Stamp.{Stamp}
use Rattle.format.specs.Format.{Fmt, zeros, byte, number2, number4, run, many}
use Rattle.protocol.specs.Kinds.{kind_number}
use Rattle.protocol.specs.Values.{Candidate, Share, Write, Held, label_of, stamp_size, candidate_size_def}
use Rattle.protocol.specs.Packet.{head_f, head_size, stamp_f, any_stamp_f, share_f, write_f, candidate_f, any_candidate_f, candidates_f, held_f, code_f, body_f, decode}
use Rattle.protocol.specs.View.{stamp_at_def, candidate_at, share_at, held_at}
use Rattle.format.specs.Reading.{bytes_at, Leaves, Stops, number4_at}
use Rattle.wire.specs.Places.{length_at, share_size_def, write_at_def, candidate_list, held_size, body_at, packet_at, no_label, body_label, body_number}
use Rattle.wire.specs.declared.fields.Cursor.{Cursor}
use Rattle.wire.specs.declared.packet.Passed.{Passed}

-- a field: its format; and, for bytes that begin with it, its value, the number that its reader answers, and its length
pub record Layout (A : Type 0) : Type 1 where
  pub format : Fmt A
  pub value : List ℕ → A
  pub number : List ℕ → ℕ
  pub size : List ℕ → ℕ

-- the field was let through: the number v, and the cursor at the place next
pub record TookAt {A : Type 0} (L : Layout A) (s : List ℕ) (at v next : ℕ) : Type 0 where
  pub leaves : Leaves L.format s at (L.value (drop at s)) next
  pub number : v ≡ L.number (drop at s)
  pub place : next ≡ at + L.size (drop at s)

abbrev pub FieldAs : {A : Type 0} → Layout A → List ℕ → ℕ → Option (ℕ × Cursor) → Type 0
FieldAs L s at r = MatchOption r (Stops L.format s at) (λ x. TookAt L s at x.0 x.1.at)

-- ---- parts that begin with a stamp, whose number and writer are answered too

pub record TookLabelled {A : Type 0} (L : Layout A) (s : List ℕ) (at : ℕ) (l : Label) (v next : ℕ) : Type 0 where
  pub took : TookAt L s at v next
  pub label : l ≡ label_of (stamp_at_def (drop at s))

abbrev pub LabelledAs : {A : Type 0} → Layout A → List ℕ → ℕ → Option (Label × ℕ × Cursor) → Type 0
LabelledAs L s at r = MatchOption r (Stops L.format s at) (λ x. TookLabelled L s at x.0 x.1 x.2.at)

-- a field that begins with no stamp
abbrev pub without_label : Option (ℕ × Cursor) → Option (Label × ℕ × Cursor)
without_label (Some x) = Some (no_label, x.0, x.1)
without_label None = None

-- ---- the fields

-- a number from lo to hi
abbrev pub RangedAs : ℕ → ℕ → ℕ → ℕ → Option (ℕ × Cursor) → Type 0
RangedAs lo hi v next r =
    MatchOption r ((v < lo) ⊎ (hi < v)) (λ x. (x.0 ≡ v) × (lo ≤ v) × (v ≤ hi) × (x.1.at ≡ next))

-- a number of w bytes
abbrev pub number_l : Fmt ℕ → (List ℕ → ℕ) → ℕ → Layout ℕ
number_l F x w = record { format = F; value = x; number = x; size = λ d. w }

abbrev pub first_byte : List ℕ → ℕ
first_byte d = get_or d 0 0

abbrev pub byte_l : ℕ → ℕ → Layout ℕ
byte_l lo hi = number_l (byte lo hi) first_byte 1

abbrev pub number2_l : ℕ → ℕ → Layout ℕ
number2_l lo hi = number_l (number2 lo hi) length_at 2

abbrev pub number4_l : ℕ → ℕ → Layout ℕ
number4_l lo hi = number_l (number4 lo hi) number4_at 4

-- an answer to store
abbrev pub code_l : Layout ℕ
code_l = number_l code_f first_byte 1

-- no number follows a stamp
abbrev pub stamp_l : Layout Stamp
stamp_l = record { format = stamp_f; value = stamp_at_def; number = λ d. 0; size = λ d. stamp_size }

abbrev pub any_stamp_l : Layout Stamp
any_stamp_l = record { format = any_stamp_f; value = stamp_at_def; number = λ d. 0; size = λ d. stamp_size }

-- a share answers the record length
abbrev pub share_l : Config → Layout Share
share_l s = record { format = share_f s; value = share_at s; number = length_at; size = λ d. share_size_def s (length_at d) }

-- a stored write answers its share's
abbrev pub write_l : Config → Layout Write
write_l s =
    record {
      format = write_f s;
      value = write_at_def s;
      number = λ d. length_at (drop stamp_size d);
      size = λ d. stamp_size + share_size_def s (length_at (drop stamp_size d));
    }

-- no number follows a candidate's stamp
abbrev pub candidate_l : Config → Layout Candidate
candidate_l s = record { format = candidate_f s; value = candidate_at s; number = λ d. 0; size = λ d. candidate_size_def s }

abbrev pub any_candidate_l : Config → Layout Candidate
any_candidate_l s = record { format = any_candidate_f s; value = candidate_at s; number = λ d. 0; size = λ d. candidate_size_def s }

-- a list answers its count
abbrev pub candidates_l : Config → Layout (List Candidate)
candidates_l s =
    record {
      format = candidates_f s;
      value = λ d. candidate_list s (get_or d 0 0) (drop 1 d);
      number = λ d. get_or d 0 0;
      size = λ d. 1 + candidate_size_def s * get_or d 0 0;
    }

-- what a server holds for a stamp answers the byte after the stamp
abbrev pub held_l : Config → Layout Held
held_l s = record { format = held_f s; value = held_at s; number = λ d. cond (eqb (get_or d stamp_size 0) 0) 0 1; size = held_size s }

-- ---- runs of bytes, which have no number

pub record Past {A : Type 0} (F : Fmt A) (s : List ℕ) (at : ℕ) (a : A) (next n : ℕ) : Type 0 where
  pub leaves : Leaves F s at a next
  pub place : next ≡ at + n

abbrev pub RunAs : ℕ → List ℕ → ℕ → Option Cursor → Type 0
RunAs n s at r = MatchOption r (Stops (run n) s at) (λ c. Past (run n) s at (bytes_at s at n) c.at n)

pub record Zeros (n : ℕ) (s : List ℕ) (at next : ℕ) : Type 0 where
  pub zero : zeros (take n (drop at s)) ≡ true
  pub within : at + n ≤ length s
  pub place : next ≡ at + n

abbrev pub ZeroAs : ℕ → List ℕ → ℕ → Option Cursor → Type 0
ZeroAs n s at r =
    MatchOption r ((length s - at < n) ⊎ ((at + n ≤ length s) × (zeros (take n (drop at s)) ≡ false))) (λ c. Zeros n s at c.at)

abbrev pub ManyAs : Config → ℕ → List ℕ → ℕ → Option Cursor → Type 0
ManyAs c n s at r =
    MatchOption r (Stops (many n (candidate_f c)) s at)
    (λ p. Past (many n (candidate_f c)) s at (candidate_list c n (drop at s)) p.at (candidate_size_def c * n))

-- ---- heads, bodies, packets

abbrev pub HeadAs : List ℕ → Option (Head × Cursor) → Type 0
HeadAs s r = MatchOption r (Stops head_f s 0) (λ x. Past head_f s 0 x.0 x.1.at head_size)

-- the body of kind k was let through, up to the place next: its label, and its number
pub record TookBody (c : Config) (k : ℕ) (s : List ℕ) (at : ℕ) (l : Label) (v next : ℕ) : Type 0 where
  pub leaves : Leaves (body_f c k) s at (body_at c k (drop at s)) next
  pub label : l ≡ body_label (body_at c k (drop at s))
  pub number : v ≡ body_number (body_at c k (drop at s))

abbrev pub BodyAs : Config → ℕ → List ℕ → ℕ → Option (Label × ℕ × Cursor) → Type 0
BodyAs c k s at r = MatchOption r (Stops (body_f c k) s at) (λ x. TookBody c k s at x.0 x.1 x.2.at)

-- the packet was let through: its head, which with the bytes tells the whole packet; its body's label, and its number
pub record TookPacket (s : List ℕ) (h : Head) (l : Label) (v : ℕ) : Type 0 where
  pub packet : decode s ≡ some (packet_at h s)
  pub label : l ≡ body_label (packet_at h s).body
  pub number : v ≡ body_number (packet_at h s).body

abbrev pub PacketAs : List ℕ → Option Passed → Type 0
PacketAs s r = MatchOption r (decode s ≡ none) (λ p. TookPacket s p.head p.label p.number × (kind_number p.kind ≡ p.head.kind))
