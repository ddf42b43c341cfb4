-- A refusal as the bench shows it: the answer has this number and tells these numbers.
use Rattle.std.specs.Prelude.{◌≡◌, ℕ, List}
use Rattle.interval.specs.Told.{told_numbers}
use Rattle.bench.specs.declared.answer.Answer.{Answer}
use Rattle.bench.specs.declared.answer.Answer.TheVariants.{Interval, Time, Nothing, Refused}

abbrev pub Refuses : Answer → ℕ → List ℕ → Type 0
Refuses (Interval interval) n ns = ⊥
Refuses (Time time) n ns = ⊥
Refuses Nothing n ns = ⊥
Refuses (Refused number told) n ns = (number ≡ n) × (told_numbers told ≡ ns)
