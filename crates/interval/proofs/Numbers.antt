-- The lesser and the greater of two numbers is one of them.
use Rattle.std.proofs.Common.{◌≡◌, ℕ, ◌<◌, min, max, subst, ⊎_elim, arith}
use Rattle.std.proofs.lemmas.Bool.{cases_lt}

-- what holds of both holds of the lesser
pub min_either : (P : ℕ → Type 0) (m n : ℕ) → P m → P n → P (min m n)
min_either P m n first second =
    ⊎_elim
    (λ lt. let e : m ≡ min m n = omega arith in subst P e first)
    (λ le. let e : n ≡ min m n = omega arith in subst P e second)
    (cases_lt m n)

-- what holds of both holds of the greater; the second is asked for only where it is the greater
pub max_either : (P : ℕ → Type 0) (m n : ℕ) → P m → (m < n → P n) → P (max m n)
max_either P m n first second =
    ⊎_elim
    (λ lt. let e : n ≡ max m n = omega arith in subst P e (second lt))
    (λ le. let e : m ≡ max m n = omega arith in subst P e first)
    (cases_lt m n)
