-- `holders` has counted those of the intervals seen that hold x.
use Rattle.std.proofs.Common.{◌≡◌, ◌≤◌, count_by, take}
use Rattle.interval.specs.Spans.{holds, span}
use Rattle.interval.proofs.meeting.Ballot.holders.Given as goal

abbrev pub invariant-loop-interval : goal.invariant-loop-interval
invariant-loop-interval l = (l.count ≡ count_by (λ i. holds (span i) l.x) (take l.interval-index l.interval-items)) × (l.count ≤ l.interval-index)
