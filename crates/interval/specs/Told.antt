-- The numbers that a refusal tells, as a list.
use Rattle.std.specs.Prelude.{ℕ, List}
use Rattle.interval.specs.declared.told.Told.{Told}
use Rattle.interval.specs.Numbers.{listed}

abbrev pub told_numbers : Told → List ℕ
told_numbers t = listed t.numbers
