-- The worked meeting, from the definitions.
use Rattle.std.proofs.Common.{ℕ, ◌≤◌, refl, le_trans, arith, lit≤}
use Rattle.std.proofs.lemmas.Bool.Decides.{nat_tests}
use Rattle.interval.specs.Meetings.{Quorate}
use Rattle.interval.specs.Examples.{three_spans, WorkedMeeting}
use Rattle.interval.proofs.Spans.{at_most_before}

-- no time past 20 lies in any of the three
last : (x : ℕ) → Quorate three_spans 2 x → x ≤ 20
last x enough = grind (arith, nat_tests)

-- [0, 20] holds every time in two of the three, and whatever holds 0 and 20 contains it
pub worked_meeting : WorkedMeeting
worked_meeting = record {
  ordered = omega arith;
  holding = λ x enough. (omega arith, last x enough);
  smallest = λ s all x held. (le_trans (all 0 (lit≤ tt)).0 held.0, at_most_before x 20 s.top held.1 (all 20 (lit≤ tt)).1);
  openness = refl;
}
