-- The allowance of a time at a tolerance, and what every layer above may use of it.
-- The definition is shut: a proof elsewhere rests on the laws below and not on how the allowance is rounded.
use Rattle.std.specs.Prelude.{ℕ, ◌+◌, ◌-◌, ◌*◌, ◌/◌, ◌≤◌, cond, Ok, Err, Result, nat_le}
use Rattle.interval.specs.declared.fault.RuleFault.{RuleFault}
use Rattle.interval.specs.Faults.{out_of_rule}

-- a tolerance is given in parts per million
abbrev pub million : ℕ
million = 1000000

abbrev pub greatest_tolerance : ℕ
greatest_tolerance = 100000

-- x × p / 1,000,000, rounded up
abbrev pub scaled : ℕ → ℕ → ℕ
scaled x p = (x * p + (million - 1)) / million

unfoldable pub allowance : ℕ → ℕ → ℕ
allowance x p = scaled x p

-- the allowance, or the refusal of a tolerance out of its range
abbrev pub allowed : ℕ → ℕ → Result ℕ RuleFault
allowed x p = cond (nat_le p greatest_tolerance) (Ok (allowance x p)) (Err (out_of_rule p))

-- the true time a fits the stated time x at the tolerance p: |a − x| × 1,000,000 ≤ p × x
abbrev pub Fits : ℕ → ℕ → ℕ → Type 0
Fits x p a = (a * million ≤ x * million + p * x) × (x * million ≤ a * million + p * x)

pub record AllowanceLaws : Type 0 where
  -- every true time that fits x lies within the allowance of x
  pub covers : (x p a : ℕ) → Fits x p a → (a ≤ x + allowance x p) × (x ≤ a + allowance x p)
  -- a longer time has no smaller allowance
  pub monotone : (x y p : ℕ) → x ≤ y → allowance x p ≤ allowance y p
  -- the allowance never passes the time itself
  pub bounded : (x p : ℕ) → p ≤ greatest_tolerance → allowance x p ≤ x
  -- a time raised by its allowance is monotone
  pub raised : (x y p : ℕ) → x ≤ y → x + allowance x p ≤ y + allowance y p
  -- a time lowered by its allowance is monotone: x − allowance of x ≤ y − allowance of y
  pub lowered : (x y p : ℕ) → p ≤ greatest_tolerance → x ≤ y → x + allowance y p ≤ y + allowance x p
