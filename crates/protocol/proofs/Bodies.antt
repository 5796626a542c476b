-- The twelve kinds: for each the format of its parts and the constructor of its body; from them the law of bodies and of whole packets.
-- decode-encode and encode-decode say that packet and fields fix each other. Nothing is assumed.
use mathlib.Core.Path.{◌≡◌, refl, sym, ap, ◌∙◌, subst}
use mathlib.Core.Bool.{Bool, true, false}
use mathlib.Core.Option.{Option, none, some}
use mathlib.Core.List.{List, [], ◌++◌, append-nil}
use Prim.Native.Nat.{ℕ}
use lib.Dec.{eqb}
use borrow.Author.Tests.{eqb-true}
use Rattle.cluster.specs.Config.{Config, shelf}
use Rattle.format.specs.Format.{Fmt, Lawful, Bytes, and_then, whole, empty, seq, via, such, byte}
use Rattle.protocol.specs.Packet.{Body, Packet, kind_of, print_body, parse_body, BodyOk, body_f, head_f, packet_f, decode, encode, PacketOk}
use Rattle.protocol.specs.Packet.{any_stamp_f, write_f, code_f, candidate_f, any_candidate_f, candidates_f, held_f}
use Rattle.protocol.specs.Packet.{clock, clock_reply, store, store_reply, complete, complete_reply, collect, collect_reply, filter, filter_reply, repair, repair_reply}
use Rattle.format.proofs.Answers.{no_some, same-value, same_rest, and_then_some, whole_some}
use Rattle.format.proofs.Formats.{empty_law, seq_law, via_law}
use Rattle.protocol.proofs.Packets.{any-stamp_law, write_law, candidate_law, any-candidate_law, candidates_law, held_law, code_law, head_law}

-- bodies of kind k: con makes one of parts in the format F
pub record Kind (s : Config) (k : ℕ) {A : Type 0} (F : Fmt A) (con : A → Body) : Type 0 where
  pub law : Lawful F
  pub kind : (a : A) → kind_of (con a) ≡ k
  pub ok : (a : A) → F.Ok a → BodyOk s (con a)
  pub prints : (a : A) → F.print a ≡ print_body s (con a)
  pub parses : (b : List ℕ) → parse_body s k b ≡ and_then (F.parse b) (λ a r. some (con a, r))

module _ (s : Config) where
  pub clock-kind : Kind s 1 empty (λ a. clock)
  unfolding empty
  clock-kind = record { law = empty_law; kind = λ a. refl; ok = λ a h. tt; prints = λ a. refl; parses = λ b. refl }

  pub clock-reply-kind : Kind s 2 any_stamp_f clock_reply
  clock-reply-kind = record { law = any-stamp_law; kind = λ a. refl; ok = λ a h. h; prints = λ a. refl; parses = λ b. refl }

  pub store-kind : Kind s 3 (write_f s) store
  store-kind = record { law = write_law s; kind = λ a. refl; ok = λ a h. h; prints = λ a. refl; parses = λ b. refl }

  pub store-reply-kind : Kind s 4 code_f store_reply
  store-reply-kind = record { law = code_law; kind = λ a. refl; ok = λ a h. h; prints = λ a. refl; parses = λ b. refl }

  pub complete-kind : Kind s 5 (candidate_f s) complete
  complete-kind = record { law = candidate_law s; kind = λ a. refl; ok = λ a h. h; prints = λ a. refl; parses = λ b. refl }

  pub complete-reply-kind : Kind s 6 empty (λ a. complete_reply)
  unfolding empty
  complete-reply-kind = record { law = empty_law; kind = λ a. refl; ok = λ a h. tt; prints = λ a. refl; parses = λ b. refl }

  pub collect-kind : Kind s 7 empty (λ a. collect)
  unfolding empty
  collect-kind = record { law = empty_law; kind = λ a. refl; ok = λ a h. tt; prints = λ a. refl; parses = λ b. refl }

  pub collect-reply-kind : Kind s 8 (any_candidate_f s) collect_reply
  collect-reply-kind = record { law = any-candidate_law s; kind = λ a. refl; ok = λ a h. h; prints = λ a. refl; parses = λ b. refl }

  pub filter-kind : Kind s 9 (candidates_f s) filter
  filter-kind = record { law = candidates_law s; kind = λ a. refl; ok = λ a h. h; prints = λ a. refl; parses = λ b. refl }

  pub filter-reply-kind : Kind s 10 (held_f s) filter_reply
  filter-reply-kind = record { law = held_law s; kind = λ a. refl; ok = λ a h. h; prints = λ a. refl; parses = λ b. refl }

  pub repair-kind : Kind s 11 (candidate_f s) repair
  repair-kind = record { law = candidate_law s; kind = λ a. refl; ok = λ a h. h; prints = λ a. refl; parses = λ b. refl }

  pub repair-reply-kind : Kind s 12 empty (λ a. repair_reply)
  unfolding empty
  repair-reply-kind = record { law = empty_law; kind = λ a. refl; ok = λ a h. tt; prints = λ a. refl; parses = λ b. refl }

  -- a number is one of the kinds, or no body has it
  data Known (k : ℕ) : Type 1 where
    known : {A : Type 0} (F : Fmt A) (con : A → Body) → Kind s k F con → Known k
    unknown : ((b : List ℕ) → parse_body s k b ≡ none) → Known k

  module _ (k : ℕ) where
    is : {A : Type 0} {F : Fmt A} {con : A → Body} (j : ℕ) → Kind s j F con → (eqb k j ≡ false → Known k) → Known k
    is {A} {F} {con} j d other = go (eqb k j) refl
      where
        go : (t : Bool) → eqb k j ≡ t → Known k
        go true e = known F con (subst (λ (i : ℕ). Kind s i F con) (sym (eqb-true k j e)) d)
        go false e = other e

    kinds : Known k
    kinds =
        is 1 clock-kind (λ a.
        is 2 clock-reply-kind (λ b.
        is 3 store-kind (λ c.
        is 4 store-reply-kind (λ d.
        is 5 complete-kind (λ e.
        is 6 complete-reply-kind (λ f.
        is 7 collect-kind (λ g.
        is 8 collect-reply-kind (λ h.
        is 9 filter-kind (λ i.
        is 10 filter-reply-kind (λ j.
        is 11 repair-kind (λ l.
        is 12 repair-reply-kind (λ m.
        unknown (λ z. rw (a, b, c, d, e, f, g, h, i, j, l, m))))))))))))))

  -- ---- the law of bodies

  made_by : {A : Type 0} {F : Fmt A} {con : A → Body} {k : ℕ} → Kind s k F con → (a : A) (r : List ℕ) → F.Ok a
      → parse_body s k (print_body s (con a) ++ r) ≡ some (con a, r)
  made_by {A} {F} {con} {k} d a r h =
      d.parses (print_body s (con a) ++ r)
      ∙ ap (λ (o : List ℕ). and_then (F.parse (o ++ r)) (λ a r. some (con a, r))) (sym (d.prints a))
      ∙ ap (λ (o : Option (A × List ℕ)). and_then o (λ a r. some (con a, r))) (d.law.made a r h)

  body-made : (x : Body) (r : List ℕ) → BodyOk s x → parse_body s (kind_of x) (print_body s x ++ r) ≡ some (x, r)
  unfolding empty
  body-made clock r h = made_by clock-kind tt r tt
  body-made (clock_reply x) r h = made_by clock-reply-kind x r h
  body-made (store x) r h = made_by store-kind x r h
  body-made (store_reply x) r h = made_by store-reply-kind x r h
  body-made (complete x) r h = made_by complete-kind x r h
  body-made complete_reply r h = made_by complete-reply-kind tt r tt
  body-made collect r h = made_by collect-kind tt r tt
  body-made (collect_reply x) r h = made_by collect-reply-kind x r h
  body-made (filter x) r h = made_by filter-kind x r h
  body-made (filter_reply x) r h = made_by filter-reply-kind x r h
  body-made (repair x) r h = made_by repair-kind x r h
  body-made repair_reply r h = made_by repair-reply-kind tt r tt

  module _ (k : ℕ) (b : List ℕ) (x : Body) (r : List ℕ) (e : parse_body s k b ≡ some (x, r)) where
    fits_by : Known k → (kind_of x ≡ k) × BodyOk s x
    fits_by (unknown u) = no_some (x, r) (sym (u b) ∙ e)
    fits_by (known F con d) =
        let (a, q, ea, ek) = and_then_some (F.parse b) (λ a q. some (con a, q)) x r (sym (d.parses b) ∙ e) in
        subst (λ (y : Body). (kind_of y ≡ k) × BodyOk s y) (same-value (con a) x q r ek) (d.kind a, d.ok a (d.law.fits b a q ea))

    read_by : Known k → Bytes b → b ≡ print_body s x ++ r
    read_by (unknown u) bs = no_some (x, r) (sym (u b) ∙ e)
    read_by (known F con d) bs =
        let (a, q, ea, ek) = and_then_some (F.parse b) (λ a q. some (con a, q)) x r (sym (d.parses b) ∙ e) in
        let l : q ≡ r = same_rest (con a) x q r ek in
        let w : b ≡ print_body s (con a) ++ r =
        d.law.read b a q bs ea ∙ ap (λ (z : List ℕ). F.print a ++ z) l ∙ ap (λ (z : List ℕ). z ++ r) (d.prints a) in
        subst (λ (y : Body). b ≡ print_body s y ++ r) (same-value (con a) x q r ek) w

  pub body_law : (k : ℕ) → Lawful (body_f s k)
  unfolding body_f
  body_law k =
      record {
        made = λ x r h. subst (λ (j : ℕ). parse_body s j (print_body s x ++ r) ≡ some (x, r)) h.0 (body-made x r h.1);
        fits = λ b x r e. fits_by k b x r e (kinds k);
        read = λ b x r bs e. read_by k b x r e (kinds k) bs;
      }

-- ---- packets: fields fix the packet, and the packet its fields

pub packet_law : Lawful packet_f
unfolding packet_f
packet_law =
    via_law _ _ _ (λ b. refl) (λ a h. refl)
    (seq_law head_f (λ h. body_f (shelf h.t) h.kind) head_law (λ h. body_law (shelf h.t) h.kind))

pub decode-encode : (p : Packet) → PacketOk p → decode (encode p) ≡ some p
unfolding decode encode PacketOk
decode-encode p h = ap (λ (z : List ℕ). whole (packet_f.parse z)) (sym (append-nil (packet_f.print p))) ∙ ap whole (packet_law.made p [] h)

pub decode-ok : (b : List ℕ) (p : Packet) → decode b ≡ some p → PacketOk p
unfolding decode PacketOk
decode-ok b p e = packet_law.fits b p [] (whole_some (packet_f.parse b) p e)

pub decode-nothing : decode [] ≡ none
unfolding decode packet_f head_f such via seq byte
decode-nothing = refl

pub body_ok : (p : Packet) → PacketOk p → BodyOk (shelf p.head.t) p.body
unfolding PacketOk packet_f via seq body_f
body_ok p h = h.1.1

pub encode-decode : (b : List ℕ) (p : Packet) → Bytes b → decode b ≡ some p → encode p ≡ b
unfolding decode encode
encode-decode b p bs e = sym (packet_law.read b p [] bs (whole_some (packet_f.parse b) p e) ∙ append-nil (packet_f.print p))
