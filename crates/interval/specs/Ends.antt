-- What the search among the ends of the listed spans finds: the two ends of a meeting, and the meeting itself.
use Rattle.std.specs.Prelude.{ℕ, ◌<◌, ◌≤◌, List, Some, None, Option}
use Rattle.interval.specs.declared.interval.Interval.{Interval}
use Rattle.interval.specs.Spans.{Span, span}
use Rattle.interval.specs.Meetings.{open_tops, Meets, NoneQuorate, Quorate}

-- the least point that lies in at least q of the spans, or none where no point does
abbrev pub LeastPoint : List Span → ℕ → Option ℕ → Type 0
LeastPoint ss q (Some b) = Quorate ss q b × ((x : ℕ) → Quorate ss q x → b ≤ x)
LeastPoint ss q None = NoneQuorate ss q

-- b is no less than floor, lies in at least q of the spans if floor does, and no such point passes it unless q tops are open
pub record GreatestPoint (ss : List Span) (q floor b : ℕ) : Type 0 where
  pub above : floor ≤ b
  pub enough : Quorate ss q floor → Quorate ss q b
  pub greatest : open_tops ss < q → (x : ℕ) → Quorate ss q x → x ≤ b

-- the meeting, or that no point lies in q of the spans
abbrev pub Found : List Span → ℕ → Option Interval → Type 0
Found ss q (Some m) = Meets ss q (span m)
Found ss q None = NoneQuorate ss q
