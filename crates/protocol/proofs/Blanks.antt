-- Blank is all zero. The layout has no stamp of number 0 but the blank one, and no candidate with it but the blank one: so of what was decoded
-- the number alone tells whether it is blank, which is what the rules test (`is_blank_def`). Nothing is assumed.
use mathlib.Core.Path.{◌≡◌, refl, sym, ap, ◌∙◌}
use mathlib.Core.Bool.{false}
use mathlib.Core.Logic.{inl, inr}
use native.Mathlib.Omega.{arith}
use lib.Dec.{eqb}
use borrow.Author.Tests.{ne_eqb}
use Rattle.cluster.specs.Config.{Config}
use Rattle.protocol.specs.declared.Stamp.{Stamp}
use Rattle.format.specs.Format.{via, seq, number4, or_blank}
use Rattle.protocol.specs.Values.{Candidate, blank_stamp, blank_candidate, is_blank_def, same_stamp, same_candidate}
use Rattle.protocol.specs.Packet.{stamp_f, any_stamp_f, candidate_f, any_candidate_f}
use Rattle.protocol.proofs.Equal.{stamp-refl, candidate-refl}

-- a stamp that has a number
module _ (a : Stamp) (ok : stamp_f.Ok a) where
  numbered : eqb a.number 0 ≡ false
  unfolding stamp_f via seq number4
  numbered = ne_eqb a.number 0 (λ e. omega arith)

  not-blank : same_stamp a blank_stamp ≡ false
  unfolding same_stamp
  not-blank = rw numbered refl

pub blank-stamp : (a : Stamp) → any_stamp_f.Ok a → is_blank_def a ≡ same_stamp a blank_stamp
unfolding any_stamp_f or_blank is_blank_def
blank-stamp a (inl e) = ap (λ (x : Stamp). eqb x.number 0) e ∙ sym (ap (λ (x : Stamp). same_stamp x blank_stamp) e ∙ stamp-refl blank_stamp)
blank-stamp a (inr h) = numbered a h ∙ sym (not-blank a h)

pub blank-candidate : (s : Config) (c : Candidate) → (any_candidate_f s).Ok c → is_blank_def c.stamp ≡ same_candidate c (blank_candidate s)
unfolding any_candidate_f candidate_f or_blank is_blank_def same_candidate via seq
blank-candidate s c (inl e) =
    ap (λ (x : Candidate). eqb x.stamp.number 0) e
    ∙ sym (ap (λ (x : Candidate). same_candidate x (blank_candidate s)) e ∙ candidate-refl (blank_candidate s))
blank-candidate s c (inr h) = numbered c.stamp h.0 ∙ sym (rw (not-blank c.stamp h.0) refl)
