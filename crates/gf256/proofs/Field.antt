-- The laws of a field in which each element is its own opposite, and what follows from them by calculation: sums cancel, and there are no
-- divisors of zero. Nothing is assumed but the laws.
use mathlib.Core.Path.{◌≡◌, sym, ap, ap₂, ◌∙◌}
use mathlib.Core.Logic.{◌≢◌}
use Rattle.gf256.specs.Poly.{Ops}

pub record Laws (O : Ops) : Type 0 where
  pub add_comm : (a b : O.F) → O.add a b ≡ O.add b a
  pub add_assoc : (a b c : O.F) → O.add (O.add a b) c ≡ O.add a (O.add b c)
  pub nil-add : (a : O.F) → O.add O.nil a ≡ a
  pub add_self : (a : O.F) → O.add a a ≡ O.nil
  pub mul_comm : (a b : O.F) → O.mul a b ≡ O.mul b a
  pub mul_assoc : (a b c : O.F) → O.mul (O.mul a b) c ≡ O.mul a (O.mul b c)
  pub one-mul : (a : O.F) → O.mul O.one a ≡ a
  pub mul-add : (a b c : O.F) → O.mul a (O.add b c) ≡ O.add (O.mul a b) (O.mul a c)
  pub mul-inv : (a : O.F) → a ≢ O.nil → O.mul a (O.inv a) ≡ O.one
  pub one-ne-nil : O.one ≢ O.nil

module _ (O : Ops) (L : Laws O) where
  infixl 65 ◌⊕◌
  infixl 70 ◌⊗◌
  open O use {F, nil as 0#, one as 1#, add as ◌⊕◌, mul as ◌⊗◌, inv}
  open L use {add_comm, add_assoc, nil-add, add_self, mul_comm, mul_assoc, one-mul, mul-add, mul-inv}

  pub add-nil : (a : F) → a ⊕ 0# ≡ a
  add-nil a = add_comm a 0# ∙ nil-add a

  pub add_left_comm : (a b c : F) → a ⊕ (b ⊕ c) ≡ b ⊕ (a ⊕ c)
  add_left_comm a b c = sym (add_assoc a b c) ∙ ap (λ x. x ⊕ c) (add_comm a b) ∙ add_assoc b a c

  pub add_cancel : (a b : F) → a ⊕ (a ⊕ b) ≡ b
  add_cancel a b = sym (add_assoc a a b) ∙ ap (λ x. x ⊕ b) (add_self a) ∙ nil-add b

  pub swap4 : (a b c d : F) → (a ⊕ b) ⊕ (c ⊕ d) ≡ (a ⊕ c) ⊕ (b ⊕ d)
  swap4 a b c d = simp (add_assoc, add_left_comm)

  pub mul_left_comm : (a b c : F) → a ⊗ (b ⊗ c) ≡ b ⊗ (a ⊗ c)
  mul_left_comm a b c = sym (mul_assoc a b c) ∙ ap (λ x. x ⊗ c) (mul_comm a b) ∙ mul_assoc b a c

  pub add-mul : (a b c : F) → (a ⊕ b) ⊗ c ≡ (a ⊗ c) ⊕ (b ⊗ c)
  add-mul a b c = mul_comm (a ⊕ b) c ∙ mul-add c a b ∙ ap₂ (λ x y. x ⊕ y) (mul_comm c a) (mul_comm c b)

  pub mul-nil : (a : F) → a ⊗ 0# ≡ 0#
  mul-nil a = ap (λ x. a ⊗ x) (sym (add_self 0#)) ∙ mul-add a 0# 0# ∙ add_self (a ⊗ 0#)

  pub nil-mul : (a : F) → 0# ⊗ a ≡ 0#
  nil-mul a = mul_comm 0# a ∙ mul-nil a

  pub mul-one : (a : F) → a ⊗ 1# ≡ a
  mul-one a = mul_comm a 1# ∙ one-mul a

  -- equal sums: what is added to both sides goes
  pub eq_of-sum : (a b : F) → a ⊕ b ≡ 0# → a ≡ b
  eq_of-sum a b e = sym (add-nil a) ∙ ap (λ x. a ⊕ x) (sym e) ∙ add_cancel a b

  pub sum_of-eq : (a b : F) → a ≡ b → a ⊕ b ≡ 0#
  sum_of-eq a b e = ap (λ x. x ⊕ b) e ∙ add_self b

  -- no divisors of zero
  pub factor-nil : (a b : F) → a ≢ 0# → a ⊗ b ≡ 0# → b ≡ 0#
  factor-nil a b h e =
      sym (one-mul b) ∙ ap (λ x. x ⊗ b) (sym (mul-inv a h) ∙ mul_comm a (inv a)) ∙ mul_assoc (inv a) a b ∙ ap (λ x. inv a ⊗ x) e ∙ mul-nil (inv a)
