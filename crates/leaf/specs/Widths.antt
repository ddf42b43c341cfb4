-- The greatest of the first n values of a function.
use Rattle.std.specs.Prelude.{◌≡◌, ℕ, zero, suc, ◌<◌, ◌≤◌, ◌⊎◌, refl}
use Rattle.std.proofs.Common.{ap, inl, inr, ⊎_elim, arith}
use Rattle.std.proofs.lemmas.Bool.{cases_lt, cases_order}
use Rattle.leaf.specs.Tiers.{greatest_below}

-- none of them is greater
pub greatest_over : (n : ℕ) (f : ℕ → ℕ) (v : ℕ) → v < n → f v ≤ greatest_below n f
unfolding greatest_below
greatest_over zero f v lt = absurd (omega arith)
greatest_over (suc n) f v lt =
    ⊎_elim
    (λ same. omega (arith, ap f same))
    (⊎_elim (λ lt'. omega (arith, greatest_over n f v lt')) (λ gt. absurd (omega arith)))
    (cases_order v n)

-- and whatever is no less than each of them is no less than it
pub greatest_under : (n : ℕ) (f : ℕ → ℕ) (b : ℕ) → ((v : ℕ) → v < n → f v ≤ b) → greatest_below n f ≤ b
unfolding greatest_below
greatest_under zero f b each = omega arith
greatest_under (suc n) f b each =
    omega (arith, each n (omega arith), greatest_under n f b (λ v lt. each v (omega arith)))

-- it is 0, or one of them
pub greatest_attained : (n : ℕ) (f : ℕ → ℕ) → (greatest_below n f ≡ 0) ⊎ ((v : ℕ) × (v < n) × (0 < greatest_below n f) × (f v ≡ greatest_below n f))
unfolding greatest_below
greatest_attained zero f = inl refl
greatest_attained (suc n) f =
    ⊎_elim
    (λ more. inr (n, omega arith, omega arith, omega arith))
    (λ less.
    ⊎_elim
    (λ none. inl (omega arith))
    (λ (v, lt, some, same). inr (v, omega arith, omega arith, omega arith))
    (greatest_attained n f))
    (cases_lt (greatest_below n f) (f n))
