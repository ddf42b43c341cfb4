-- A meaning is the same as itself.
use Rattle.std.proofs.Common.{refl}
use Rattle.gauge.specs.Meaning.{Meaning, SameMeaning}

pub same_meaning : (m : Meaning) → SameMeaning m m
same_meaning m = record {
  pairs = λ row d. (λ allowed. allowed, λ allowed. allowed);
  answers = λ row. refl;
  reach = refl;
  width = refl;
  ceiling = refl;
}
