-- One, two or three numbers, as a list.
use Rattle.std.specs.Prelude.{ℕ, List}
use Rattle.interval.specs.declared.told.Numbers.{Numbers}
use Rattle.interval.specs.declared.told.Numbers.TheVariants.{One, Two, Three}

abbrev pub listed : Numbers → List ℕ
listed (One numbers) = numbers
listed (Two numbers) = numbers
listed (Three numbers) = numbers
