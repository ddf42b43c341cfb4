-- The digits of a path's number are the places that were put in front, one after the other.
use Rattle.std.proofs.Common.{◌≡◌, ℕ, zero, suc, ◌+◌, ◌*◌, ◌/◌, ◌^◌, ◌<◌, ◌≤◌, min, ltb, List, [], ◌∷◌, length, sym, refl, ap, ◌∙◌, ⊎_elim, le_trans, mul-le-mul_right, pow-suc, two-mul, arith, lit<}
use native.Mathlib.Nat.{pow-le-pow_right}
use Rattle.std.specs.List.{AllByRecursion}
use Rattle.std.proofs.lemmas.Nat.{mul-pow, pow-add}
use Rattle.std.proofs.lemmas.Bool.{cases_lt, le-leb, lt-leb, lt-ltb, le-ltb, cond-true, cond-false}
use Rattle.gauge.specs.declared.path.Place.{Place}
use Rattle.gauge.specs.declared.path.Place.TheVariants.{First, Second, Third}
use Rattle.gauge.specs.Paths.{most_digits, place_digit, digits_below, digits, in_front, places_number, IsPlace, PathLaws}

-- a later power of four is not less
powers_rise : (i j : ℕ) → i ≤ j → 4 ^ i ≤ 4 ^ j
powers_rise i j le = pow-le-pow_right (lit< tt) le

-- the powers below fifteen fit 32 bits
pub power_fits : (k : ℕ) → k < most_digits → 4 ^ k ≤ 268435456
power_fits k few = powers_rise k 14 (omega arith)

-- a number that reaches the first m powers and no more: so many of the first k powers count
counted : (m n : ℕ) → ((j : ℕ) → j < m → 4 ^ j ≤ n) → n < 4 ^ m → (k : ℕ) → digits_below k n ≡ min k m
counted m n reached short zero = omega arith
counted m n reached short (suc k) =
    ⊎_elim
    (λ lt. rw (le-leb (4 ^ k) n (reached k lt)) (omega (arith, counted m n reached short k)))
    (λ le. rw (lt-leb (4 ^ k) n (le_trans short (powers_rise m k le))) (omega (arith, counted m n reached short k)))
    (cases_lt k m)

-- a power of four is one of two
power_of_four : (j : ℕ) → 4 ^ j ≡ 2 ^ (2 * j)
power_of_four j = mul-pow 2 2 j ∙ sym (pow-add 2 j j) ∙ ap (λ k. 2 ^ k) (sym (two-mul j))

-- a number whose highest bit is the r-th has a digit for each two bits, up to fifteen
pub digits_of_bits : (r n : ℕ) → 2 ^ r ≤ n → n < 2 * 2 ^ r → min (r / 2 + 1) most_digits ≡ digits n
digits_of_bits r n reached short =
    let m = r / 2 + 1 in
    let fewer : (j : ℕ) → j < m → 4 ^ j ≤ n =
    λ j lt. let below : 2 ^ (2 * j) ≤ 2 ^ r = pow-le-pow_right (lit< tt) (omega arith) in omega (arith, power_of_four j, below) in
    let above : 2 ^ suc r ≤ 2 ^ (2 * m) = pow-le-pow_right (lit< tt) (omega arith) in
    omega (arith, counted m n fewer (omega (arith, power_of_four m, above, pow-suc 2 r)) most_digits)

-- a number that reaches the first k powers has so many digits
reached_all : (n k : ℕ) → ((j : ℕ) → j < k → 4 ^ j ≤ n) → digits_below k n ≡ k
reached_all n zero reached = refl
reached_all n (suc k) reached =
    rw (le-leb (4 ^ k) n (reached k (omega arith)))
    (omega (arith, reached_all n k (λ j lt. reached j (omega arith))))

-- a number with fewer than fifteen digits is below the fifteenth power
short_number : (n : ℕ) → digits n < most_digits → n < 268435456
short_number n few =
    ⊎_elim (λ lt. lt)
    (λ le. absurd (omega (arith, reached_all n 15 (λ j lt. le_trans (power_fits j lt) le))))
    (cases_lt n 268435456)

-- places make a number below the power of their count
places_short : (ps : List ℕ) → AllByRecursion IsPlace ps → places_number ps < 4 ^ length ps
places_short [] places = lit< tt
places_short (p ∷ ps) ((_, small), places) =
    rw pow-suc (omega (arith, mul-le-mul_right (4 ^ length ps) small, places_short ps places))

-- and it reaches every power before
places_reach : (ps : List ℕ) → AllByRecursion IsPlace ps → (j : ℕ) → j < length ps → 4 ^ j ≤ places_number ps
places_reach [] places j lt = absurd (omega arith)
places_reach (p ∷ ps) ((some, _), places) j lt =
    omega (arith, powers_rise j (length ps) (omega arith), mul-le-mul_right (4 ^ length ps) some)

-- so it has as many digits as there are places
places_digits : (ps : List ℕ) → AllByRecursion IsPlace ps → length ps ≤ most_digits → digits (places_number ps) ≡ length ps
places_digits ps places few =
    omega (arith, counted (length ps) (places_number ps) (places_reach ps places) (places_short ps places) 15)

-- the digit of a place is at most 3
pub digit_small : (p : Place) → place_digit p ≤ 3
digit_small First = omega arith
digit_small Second = omega arith
digit_small Third = omega arith

-- with a digit up to 3 in front of it, it fits 32 bits
pub in_front_fits : (p n : ℕ) → p ≤ 3 → digits n < most_digits → p * 4 ^ digits n + n < 4294967296
in_front_fits p n small few = omega (arith, short_number n few, power_fits (digits n) few, mul-le-mul_right (4 ^ digits n) small)

-- a number with fewer than fifteen digits gets one more
pub in_front_grows : (p n : ℕ) → digits n < most_digits → p * 4 ^ digits n + n ≡ in_front p n
in_front_grows p n few = sym (cond-true (ltb (digits n) most_digits) _ _ (lt-ltb _ _ few))

-- and one with fifteen stays
pub in_front_stays : (p n : ℕ) → most_digits ≤ digits n → n ≡ in_front p n
in_front_stays p n many = sym (cond-false (ltb (digits n) most_digits) _ _ (le-ltb _ _ many))

pub path_laws : PathLaws
path_laws = record {
  grows = λ p ps places few.
      let e = places_digits ps places (omega arith) in
      sym (in_front_grows p (places_number ps) (omega (arith, e)))
      ∙ ap (λ k. p * 4 ^ k + places_number ps) e;
  stays = λ p ps places full.
      sym (in_front_stays p (places_number ps) (omega (arith, places_digits ps places (omega arith))));
}
