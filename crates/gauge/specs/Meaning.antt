-- The meaning of a gauge: which outages may leave which rows, what it answers to each row, and its three numbers.
use Rattle.std.specs.Prelude.{◌≡◌, ℕ, List, Result}
use Rattle.interval.specs.Spans.{Span}
use Rattle.gauge.specs.declared.fault.GaugeFault.{GaugeFault}

pub record Meaning : Type 1 where
  -- an outage of this length may leave this row, one reading a channel, channel 0 first
  pub allows : List ℕ → ℕ → Type 0
  pub answer : List ℕ → Result Span GaugeFault
  -- outages below the reach get a closed top
  pub reach : ℕ
  -- how far such a top is above the lower end at most
  pub width : ℕ
  -- the time that no end of an answer passes
  pub ceiling : ℕ

-- the one holds exactly when the other does
abbrev pub ExactlyWhen : Type 0 → Type 0 → Type 0
ExactlyWhen A B = (A → B) × (B → A)

-- the row is allowed with no outage
abbrev pub NoneAllowed : Meaning → List ℕ → Type 0
NoneAllowed m row = (d : ℕ) → m.allows row d → ⊥

-- two meanings that allow the same pairs, answer every row alike and have the same numbers
pub record SameMeaning (m n : Meaning) : Type 0 where
  pub pairs : (row : List ℕ) (d : ℕ) → ExactlyWhen (m.allows row d) (n.allows row d)
  pub answers : (row : List ℕ) → m.answer row ≡ n.answer row
  pub reach : m.reach ≡ n.reach
  pub width : m.width ≡ n.width
  pub ceiling : m.ceiling ≡ n.ceiling
