-- A tolerance in its range, as its parts per million.
use Rattle.std.specs.Prelude.{◌≡◌, ℕ, ◌<◌, Result, MatchResult}
use Rattle.interval.specs.declared.allowance.Tolerance.{Tolerance}
use Rattle.interval.specs.declared.fault.RuleFault.{RuleFault}
use Rattle.interval.specs.Allowances.{greatest_tolerance}
use Rattle.interval.specs.Faults.{out_of_rule}

abbrev pub ppm_of : Tolerance → ℕ
ppm_of tolerance = tolerance.ppm

-- the tolerance of p parts per million, or the refusal where p is out of its range
abbrev pub MadeTolerance : ℕ → Result Tolerance RuleFault → Type 0
MadeTolerance p r = MatchResult r (λ tolerance. ppm_of tolerance ≡ p) (λ fault. (greatest_tolerance < p) × (fault ≡ out_of_rule p))
