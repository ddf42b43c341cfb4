-- A span: the two ends of an interval as plain numbers, the times that it holds, and which ends make one.
use Rattle.std.specs.Prelude.{ℕ, ◌≤◌, Bool, cond, ◌&&◌, Ok, Err, Result, nat_le}
use Rattle.interval.specs.declared.top.Top.{Top}
use Rattle.interval.specs.declared.interval.Interval.{Interval}
use Rattle.interval.specs.declared.fault.RuleFault.{RuleFault}
use Rattle.interval.specs.Faults.{out_of_rule}
use Rattle.interval.specs.Tops.{AtMost, at_most}

pub record Span : Type 0 where
  pub lower : ℕ
  pub top : Top

-- the span with these ends
abbrev pub ends : ℕ → Top → Span
ends lower top = record { lower = lower; top = top }

-- the ends of an interval, without its invariant
abbrev pub span : Interval → Span
span i = ends i.lower i.top

-- the time x lies in the span, both ends included
abbrev pub Holds : Span → ℕ → Type 0
Holds s x = (s.lower ≤ x) × AtMost x s.top

-- the same as a test
abbrev pub holds : Span → ℕ → Bool
holds s x = nat_le s.lower x && at_most x s.top

-- a closed top is not below the lower end
abbrev pub InOrder : Span → Type 0
InOrder s = AtMost s.lower s.top

-- what a function that gives an interval answers, with the interval as its span
abbrev pub answered : {E : Type 0} → Result Interval E → Result Span E
answered (Ok i) = Ok (span i)
answered (Err e) = Err e

-- the span with these ends, or the refusal of a closed top below the lower end
abbrev pub made_span : ℕ → Top → Result Span RuleFault
made_span lower top = cond (at_most lower top) (Ok (ends lower top)) (Err (out_of_rule lower))
