-- The tables of the source, and their rule: entry i of `powers` is 03h to the power i, and entry a - 1 of `logs` is the logarithm of a.
-- One computed test goes through each table, and one through both: a number has one logarithm. Nothing is assumed.
use mathlib.Core.Path.{◌≡◌, refl, sym, ap, ◌∙◌, subst}
use mathlib.Core.Bool.{Bool}
use mathlib.Core.List.{List, [], ◌∷◌}
use Prim.Native.Nat.{ℕ, zero, suc, ◌+◌, ◌-◌, ◌*◌, ◌<◌}
use native.Mathlib.Nat.{add-zero, add-suc, mul-zero, mul-suc}
use native.Mathlib.Omega.{arith}
use lib.Dec.{T, eqb, eqb→eq, ltb, ltb→lt}
use lib.ListN.{get_or}
use Rattle.gf256.specs.Gf.{xtime, times_bits, times, power, inverse}
use Rattle.gf256.proofs.Test.{both, both_left, both_right, each, each_at}
use Rattle.gf256.proofs.Linear.{times-lt, times-comm, times_assoc, times_one, one-times, times-zero_r}

unfoldable pub powers : List ℕ
powers =
    1 ∷ 3 ∷ 5 ∷ 15 ∷ 17 ∷ 51 ∷ 85 ∷ 255 ∷ 26 ∷ 46 ∷ 114 ∷ 150 ∷ 161 ∷ 248 ∷ 19 ∷ 53 ∷
    95 ∷ 225 ∷ 56 ∷ 72 ∷ 216 ∷ 115 ∷ 149 ∷ 164 ∷ 247 ∷ 2 ∷ 6 ∷ 10 ∷ 30 ∷ 34 ∷ 102 ∷ 170 ∷
    229 ∷ 52 ∷ 92 ∷ 228 ∷ 55 ∷ 89 ∷ 235 ∷ 38 ∷ 106 ∷ 190 ∷ 217 ∷ 112 ∷ 144 ∷ 171 ∷ 230 ∷ 49 ∷
    83 ∷ 245 ∷ 4 ∷ 12 ∷ 20 ∷ 60 ∷ 68 ∷ 204 ∷ 79 ∷ 209 ∷ 104 ∷ 184 ∷ 211 ∷ 110 ∷ 178 ∷ 205 ∷
    76 ∷ 212 ∷ 103 ∷ 169 ∷ 224 ∷ 59 ∷ 77 ∷ 215 ∷ 98 ∷ 166 ∷ 241 ∷ 8 ∷ 24 ∷ 40 ∷ 120 ∷ 136 ∷
    131 ∷ 158 ∷ 185 ∷ 208 ∷ 107 ∷ 189 ∷ 220 ∷ 127 ∷ 129 ∷ 152 ∷ 179 ∷ 206 ∷ 73 ∷ 219 ∷ 118 ∷ 154 ∷
    181 ∷ 196 ∷ 87 ∷ 249 ∷ 16 ∷ 48 ∷ 80 ∷ 240 ∷ 11 ∷ 29 ∷ 39 ∷ 105 ∷ 187 ∷ 214 ∷ 97 ∷ 163 ∷
    254 ∷ 25 ∷ 43 ∷ 125 ∷ 135 ∷ 146 ∷ 173 ∷ 236 ∷ 47 ∷ 113 ∷ 147 ∷ 174 ∷ 233 ∷ 32 ∷ 96 ∷ 160 ∷
    251 ∷ 22 ∷ 58 ∷ 78 ∷ 210 ∷ 109 ∷ 183 ∷ 194 ∷ 93 ∷ 231 ∷ 50 ∷ 86 ∷ 250 ∷ 21 ∷ 63 ∷ 65 ∷
    195 ∷ 94 ∷ 226 ∷ 61 ∷ 71 ∷ 201 ∷ 64 ∷ 192 ∷ 91 ∷ 237 ∷ 44 ∷ 116 ∷ 156 ∷ 191 ∷ 218 ∷ 117 ∷
    159 ∷ 186 ∷ 213 ∷ 100 ∷ 172 ∷ 239 ∷ 42 ∷ 126 ∷ 130 ∷ 157 ∷ 188 ∷ 223 ∷ 122 ∷ 142 ∷ 137 ∷ 128 ∷
    155 ∷ 182 ∷ 193 ∷ 88 ∷ 232 ∷ 35 ∷ 101 ∷ 175 ∷ 234 ∷ 37 ∷ 111 ∷ 177 ∷ 200 ∷ 67 ∷ 197 ∷ 84 ∷
    252 ∷ 31 ∷ 33 ∷ 99 ∷ 165 ∷ 244 ∷ 7 ∷ 9 ∷ 27 ∷ 45 ∷ 119 ∷ 153 ∷ 176 ∷ 203 ∷ 70 ∷ 202 ∷
    69 ∷ 207 ∷ 74 ∷ 222 ∷ 121 ∷ 139 ∷ 134 ∷ 145 ∷ 168 ∷ 227 ∷ 62 ∷ 66 ∷ 198 ∷ 81 ∷ 243 ∷ 14 ∷
    18 ∷ 54 ∷ 90 ∷ 238 ∷ 41 ∷ 123 ∷ 141 ∷ 140 ∷ 143 ∷ 138 ∷ 133 ∷ 148 ∷ 167 ∷ 242 ∷ 13 ∷ 23 ∷
    57 ∷ 75 ∷ 221 ∷ 124 ∷ 132 ∷ 151 ∷ 162 ∷ 253 ∷ 28 ∷ 36 ∷ 108 ∷ 180 ∷ 199 ∷ 82 ∷ 246 ∷ 1 ∷ []

unfoldable pub logs : List ℕ
logs =
    0 ∷ 25 ∷ 1 ∷ 50 ∷ 2 ∷ 26 ∷ 198 ∷ 75 ∷ 199 ∷ 27 ∷ 104 ∷ 51 ∷ 238 ∷ 223 ∷ 3 ∷ 100 ∷
    4 ∷ 224 ∷ 14 ∷ 52 ∷ 141 ∷ 129 ∷ 239 ∷ 76 ∷ 113 ∷ 8 ∷ 200 ∷ 248 ∷ 105 ∷ 28 ∷ 193 ∷ 125 ∷
    194 ∷ 29 ∷ 181 ∷ 249 ∷ 185 ∷ 39 ∷ 106 ∷ 77 ∷ 228 ∷ 166 ∷ 114 ∷ 154 ∷ 201 ∷ 9 ∷ 120 ∷ 101 ∷
    47 ∷ 138 ∷ 5 ∷ 33 ∷ 15 ∷ 225 ∷ 36 ∷ 18 ∷ 240 ∷ 130 ∷ 69 ∷ 53 ∷ 147 ∷ 218 ∷ 142 ∷ 150 ∷
    143 ∷ 219 ∷ 189 ∷ 54 ∷ 208 ∷ 206 ∷ 148 ∷ 19 ∷ 92 ∷ 210 ∷ 241 ∷ 64 ∷ 70 ∷ 131 ∷ 56 ∷ 102 ∷
    221 ∷ 253 ∷ 48 ∷ 191 ∷ 6 ∷ 139 ∷ 98 ∷ 179 ∷ 37 ∷ 226 ∷ 152 ∷ 34 ∷ 136 ∷ 145 ∷ 16 ∷ 126 ∷
    110 ∷ 72 ∷ 195 ∷ 163 ∷ 182 ∷ 30 ∷ 66 ∷ 58 ∷ 107 ∷ 40 ∷ 84 ∷ 250 ∷ 133 ∷ 61 ∷ 186 ∷ 43 ∷
    121 ∷ 10 ∷ 21 ∷ 155 ∷ 159 ∷ 94 ∷ 202 ∷ 78 ∷ 212 ∷ 172 ∷ 229 ∷ 243 ∷ 115 ∷ 167 ∷ 87 ∷ 175 ∷
    88 ∷ 168 ∷ 80 ∷ 244 ∷ 234 ∷ 214 ∷ 116 ∷ 79 ∷ 174 ∷ 233 ∷ 213 ∷ 231 ∷ 230 ∷ 173 ∷ 232 ∷ 44 ∷
    215 ∷ 117 ∷ 122 ∷ 235 ∷ 22 ∷ 11 ∷ 245 ∷ 89 ∷ 203 ∷ 95 ∷ 176 ∷ 156 ∷ 169 ∷ 81 ∷ 160 ∷ 127 ∷
    12 ∷ 246 ∷ 111 ∷ 23 ∷ 196 ∷ 73 ∷ 236 ∷ 216 ∷ 67 ∷ 31 ∷ 45 ∷ 164 ∷ 118 ∷ 123 ∷ 183 ∷ 204 ∷
    187 ∷ 62 ∷ 90 ∷ 251 ∷ 96 ∷ 177 ∷ 134 ∷ 59 ∷ 82 ∷ 161 ∷ 108 ∷ 170 ∷ 85 ∷ 41 ∷ 157 ∷ 151 ∷
    178 ∷ 135 ∷ 144 ∷ 97 ∷ 190 ∷ 220 ∷ 252 ∷ 188 ∷ 149 ∷ 207 ∷ 205 ∷ 55 ∷ 63 ∷ 91 ∷ 209 ∷ 83 ∷
    57 ∷ 132 ∷ 60 ∷ 65 ∷ 162 ∷ 109 ∷ 71 ∷ 20 ∷ 42 ∷ 158 ∷ 93 ∷ 86 ∷ 242 ∷ 211 ∷ 171 ∷ 68 ∷
    17 ∷ 146 ∷ 217 ∷ 35 ∷ 32 ∷ 46 ∷ 137 ∷ 180 ∷ 124 ∷ 184 ∷ 38 ∷ 119 ∷ 153 ∷ 227 ∷ 165 ∷ 103 ∷
    74 ∷ 237 ∷ 222 ∷ 197 ∷ 49 ∷ 254 ∷ 24 ∷ 13 ∷ 99 ∷ 140 ∷ 128 ∷ 192 ∷ 247 ∷ 112 ∷ 7 ∷ []

-- each entry of `powers` is 03h times the one before
abbrev power_at : ℕ → Bool
power_at i = eqb (get_or powers (suc i) 0) (times (get_or powers i 0) 3)

power_test : T (each power_at 255)
unfolding powers times times_bits xtime
power_test = tt

-- each entry of `logs` is below 255, and its power is the number
abbrev log_at : ℕ → Bool
log_at k = both (ltb (get_or logs k 0) 255) (eqb (get_or powers (get_or logs k 0) 0) (suc k))

log_test : T (each log_at 255)
unfolding powers logs
log_test = tt

-- the logarithm of each power below 255 is the exponent
abbrev back_at : ℕ → Bool
back_at i = eqb (get_or logs (get_or powers i 0 - 1) 0) i

back_test : T (each back_at 255)
unfolding powers logs
back_test = tt

-- ---- the rule at each entry

pub power-lt : (a n : ℕ) → a < 256 → power a n < 256
unfolding power
power-lt a zero h = omega arith
power-lt a (suc n) h = times-lt (power a n) a (power-lt a n h)

first : get_or powers 0 0 ≡ 1
unfolding powers
first = refl

last : get_or powers 255 0 ≡ 1
unfolding powers
last = refl

pub powers_at : (i : ℕ) → i < 256 → get_or powers i 0 ≡ power 3 i
unfolding power
powers_at zero h = first
powers_at (suc i) h =
    eqb→eq (get_or powers (suc i) 0) (times (get_or powers i 0) 3) (each_at power_at 255 power_test i (omega arith))
    ∙ ap (λ (x : ℕ). times x 3) (powers_at i (omega arith))

pub logs-lt : (k : ℕ) → k < 255 → get_or logs k 0 < 255
logs-lt k h =
    ltb→lt (get_or logs k 0) 255 (both_left (ltb (get_or logs k 0) 255) (eqb (get_or powers (get_or logs k 0) 0) (suc k)) (each_at log_at 255 log_test k h))

pub logs_at : (k : ℕ) → k < 255 → power 3 (get_or logs k 0) ≡ suc k
logs_at k h =
    sym (powers_at (get_or logs k 0) (omega (arith, logs-lt k h)))
    ∙ eqb→eq (get_or powers (get_or logs k 0) 0) (suc k)
    (both_right (ltb (get_or logs k 0) 255) (eqb (get_or powers (get_or logs k 0) 0) (suc k)) (each_at log_at 255 log_test k h))

-- a number has one logarithm below 255
pub log_unique : (i j : ℕ) → i < 255 → j < 255 → power 3 i ≡ power 3 j → i ≡ j
log_unique i j hi hj e =
    let log : (n : ℕ) → n < 255 → get_or logs (power 3 n - 1) 0 ≡ n =
    λ n h. ap (λ (x : ℕ). get_or logs (x - 1) 0) (sym (powers_at n (omega arith)))
    ∙ eqb→eq (get_or logs (get_or powers n 0 - 1) 0) n (each_at back_at 255 back_test n h) in
    sym (log i hi) ∙ ap (λ (x : ℕ). get_or logs (x - 1) 0) e ∙ log j hj

-- ---- powers add up, and come round after 255

pub power-add : (a i j : ℕ) → a < 256 → power a (i + j) ≡ times (power a i) (power a j)
unfolding power
power-add a i zero h = ap (power a) (add-zero i) ∙ sym (times_one (power a i) (power-lt a i h))
power-add a i (suc j) h =
    ap (power a) (add-suc i j) ∙ ap (λ (x : ℕ). times x a) (power-add a i j h)
    ∙ times_assoc (power a i) (power a j) a (power-lt a i h) (power-lt a j h) h

pub power_one : (n : ℕ) → power 1 n ≡ 1
unfolding power
power_one zero = refl
power_one (suc n) = ap (λ (x : ℕ). times x 1) (power_one n) ∙ one-times 1 (omega arith)

pub power-mul : (a i j : ℕ) → a < 256 → power a (i * j) ≡ power (power a i) j
unfolding power
power-mul a i zero h = ap (power a) (mul-zero i)
power-mul a i (suc j) h =
    ap (power a) (mul-suc i j) ∙ power-add a (i * j) i h ∙ ap (λ (x : ℕ). times x (power a i)) (power-mul a i j h)

pub power-round : power 3 255 ≡ 1
power-round = sym (powers_at 255 (omega arith)) ∙ last

-- ---- inverses

pub inverse-lt : (a : ℕ) → a < 256 → inverse a < 256
unfolding inverse
inverse-lt a h = power-lt a 254 h

-- there is no inverse of 0: its power 254 is 0
pub inverse-zero : inverse 0 ≡ 0
unfolding inverse power
inverse-zero = times-zero_r (power 0 253)

-- the power 255 of a power of 03h is 1
round : (i : ℕ) → power (power 3 i) 255 ≡ 1
round i =
    sym (power-mul 3 i 255 (omega arith)) ∙ ap (power 3) (omega arith) ∙ power-mul 3 255 i (omega arith)
    ∙ ap (λ (x : ℕ). power x i) power-round ∙ power_one i

-- a power of 03h has an inverse
pub times-inverse-power : (i : ℕ) → times (power 3 i) (inverse (power 3 i)) ≡ 1
unfolding inverse power
times-inverse-power i =
    let a = power 3 i in
    let h : a < 256 = power-lt 3 i (omega arith) in
    times-comm a (power a 254) h (power-lt a 254 h) ∙ round i

pub times-inverse-suc : (k : ℕ) → k < 255 → times (suc k) (inverse (suc k)) ≡ 1
times-inverse-suc k h = subst (λ (x : ℕ). times x (inverse x) ≡ 1) (logs_at k h) (times-inverse-power (get_or logs k 0))

-- what times a gives 1 is the inverse of a
pub inverse_unique : (a x : ℕ) → a < 256 → x < 256 → times a (inverse a) ≡ 1 → times a x ≡ 1 → x ≡ inverse a
inverse_unique a x ha hx e f =
    sym (one-times x hx) ∙ ap (λ (y : ℕ). times y x) (sym e ∙ times-comm a (inverse a) ha (inverse-lt a ha))
    ∙ times_assoc (inverse a) a x (inverse-lt a ha) ha hx ∙ ap (times (inverse a)) f
    ∙ times_one (inverse a) (inverse-lt a ha)

-- ---- what the code rests on

pub inverse_of-log : (a i : ℕ) → 0 < a → a < 256 → i < 255 → power 3 i ≡ a → power 3 (255 - i) ≡ inverse a
inverse_of-log (suc k) i h b l p =
    inverse_unique (suc k) (power 3 (255 - i)) b (power-lt 3 (255 - i) (omega arith)) (times-inverse-suc k (omega arith))
    (ap (λ (x : ℕ). times x (power 3 (255 - i))) (sym p) ∙ sym (power-add 3 i (255 - i) (omega arith)) ∙ ap (power 3) (omega arith) ∙ power-round)
inverse_of-log zero i h b l p = absurd (omega arith)
