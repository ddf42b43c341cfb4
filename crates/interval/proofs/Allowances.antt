-- The laws of the allowance. The rounding is opened here, and where the function that computes it is proved.
use Rattle.std.proofs.Common.{◌≡◌, ℕ, ◌+◌, ◌-◌, ◌≤◌, mul-le-mul_right, mul_comm, add-mul, mul-le-mul_left, arith}
use Rattle.interval.specs.Allowances.{allowance, greatest_tolerance, Fits, AllowanceLaws}

-- every true time that fits lies within the allowance
covers : (x p a : ℕ) → Fits x p a → (a ≤ x + allowance x p) × (x ≤ a + allowance x p)
unfolding allowance
covers x p a fits = (omega (arith, mul_comm x p), omega (arith, mul_comm x p))

-- a longer time has no smaller allowance
monotone : (x y p : ℕ) → x ≤ y → allowance x p ≤ allowance y p
unfolding allowance
monotone x y p le = omega (arith, mul-le-mul_right p le)

-- the allowance does not pass the time
bounded : (x p : ℕ) → p ≤ greatest_tolerance → allowance x p ≤ x
unfolding allowance
bounded x p small = omega (arith, mul-le-mul_left x small)

-- time added to x adds no more than itself to the allowance
lengthened : (x more p : ℕ) → p ≤ greatest_tolerance → allowance (x + more) p ≤ allowance x p + more
unfolding allowance
lengthened x more p small = omega (arith, add-mul x more p, mul-le-mul_left more small)

-- so a time less its allowance is monotone
lowered : (x y p : ℕ) → p ≤ greatest_tolerance → x ≤ y → x + allowance y p ≤ y + allowance x p
lowered x y p small le =
    let e : x + (y - x) ≡ y = omega arith in
    let h = lengthened x (y - x) p small in
    let k = rw e at h in
    omega arith

-- what the layers above may use of the allowance
pub allowance_laws : AllowanceLaws
allowance_laws = record {
  covers = covers;
  monotone = monotone;
  bounded = bounded;
  raised = λ x y p le. omega (arith, monotone x y p le);
  lowered = lowered;
}
