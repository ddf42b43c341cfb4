-- `worked_meeting`: what meets is what `meeting` answers.
use Rattle.std.proofs.Common.{◌≡◌, List, [], ◌∷◌, refl, subst}
use Rattle.interval.specs.declared.interval.Interval.{Interval}
use Rattle.interval.specs.declared.top.Top.TheVariants.{Closed}
use Rattle.interval.specs.Meetings.{spans, Meets}
use Rattle.interval.specs.Spans.{ends}
use Rattle.interval.specs.Examples.{three_spans}
use Rattle.interval.proofs.Examples.{worked_meeting}
use Rattle.interval.proofs.Meetings.{answers_meeting}
use Rattle.interval.proofs.worked.worked_meeting.Goals as goal

pub returns : goal.returns
returns c =
    let is : List Interval = c.ordered.result ∷ c.ordered-2.result ∷ c.ordered-3.result ∷ [] in
    let three : three_spans ≡ spans is = cc in
    record {
      defined = worked_meeting;
      answers =
          answers_meeting is 2 (ends 0 (Closed 20)) c.meeting.result refl
          (subst (λ ss. Meets ss 2 (ends 0 (Closed 20))) three worked_meeting)
          c.meeting.ensures.answers;
    }
