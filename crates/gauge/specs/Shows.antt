-- What every gauge owes: the law of the trait, over the gauge's meaning.
use Rattle.std.specs.Prelude.{◌≡◌, ℕ, ◌+◌, ◌<◌, ◌≤◌, List, Ok, Err, Result}
use Rattle.interval.specs.declared.top.Top.{Top}
use Rattle.interval.specs.declared.top.Top.TheVariants.{Closed, Open}
use Rattle.interval.specs.Spans.{Span, Holds, InOrder}
use Rattle.gauge.specs.declared.fault.GaugeFault.{GaugeFault}
use Rattle.gauge.specs.Meaning.{Meaning}

-- no gauge reaches, or answers, past this time
abbrev pub greatest_time : ℕ
greatest_time = 4000000000

-- the row is answered, and of the answer P holds
abbrev pub AnsweredBy : (Span → Type 0) → Result Span GaugeFault → Type 0
AnsweredBy P (Ok s) = P s
AnsweredBy P (Err fault) = ⊥

-- the top is closed at a time that is at most b
abbrev pub ClosedBy : ℕ → Top → Type 0
ClosedBy b (Closed t) = t ≤ b
ClosedBy b Open = ⊥

-- a top that is closed is at most b
abbrev pub EndsBy : ℕ → Top → Type 0
EndsBy b (Closed t) = t ≤ b
EndsBy b Open = Unit {0}

pub record Shows (m : Meaning) : Type 0 where
  -- a row that is allowed with the outage d is answered by a span that holds d
  pub holding : (row : List ℕ) (d : ℕ) → m.allows row d → AnsweredBy (λ s. Holds s d) (m.answer row)
  -- and if d is below the reach, its top is closed and at most the width above the lower end
  pub closing : (row : List ℕ) (d : ℕ) → m.allows row d → d < m.reach → AnsweredBy (λ s. ClosedBy (s.lower + m.width) s.top) (m.answer row)
  -- every answer, also to a row that is allowed with nothing, has its ends in order, and no end passes the ceiling
  pub bounded : (row : List ℕ) (s : Span) → m.answer row ≡ Ok s → InOrder s × (s.lower ≤ m.ceiling) × EndsBy m.ceiling s.top
  pub narrow : m.width ≤ m.ceiling
  pub low : m.ceiling ≤ greatest_time
  pub near : m.reach ≤ greatest_time
