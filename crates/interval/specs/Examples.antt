-- Worked examples, as the definitions have them.
use Rattle.std.specs.Prelude.{◌≡◌, List, [], ◌∷◌}
use Rattle.interval.specs.declared.top.Top.TheVariants.{Closed}
use Rattle.interval.specs.Allowances.{allowance}
use Rattle.interval.specs.Meetings.{Meets}
use Rattle.interval.specs.Spans.{Span, ends}

-- [0, 10], [10, 20] and [0, 20]
abbrev pub three_spans : List Span
three_spans = ends 0 (Closed 10) ∷ ends 10 (Closed 20) ∷ ends 0 (Closed 20) ∷ []

-- at quorum 2 they meet in [0, 20]: each of its times lies in the last and in one of the others
abbrev pub WorkedMeeting : Type 0
WorkedMeeting = Meets three_spans 2 (ends 0 (Closed 20))

-- 400 ms at 100 ppm: 0.04 ms, rounded up
abbrev pub WorkedAllowance : Type 0
WorkedAllowance = allowance 400 100 ≡ 1
