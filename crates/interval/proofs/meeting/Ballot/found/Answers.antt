-- `found`: the two ends make the meeting, and where there is no least end no time lies in enough of the intervals.
use Rattle.std.proofs.Common.{ap, ◌∙◌, sym, subst, arith}
use Rattle.interval.specs.Ends.{Found}
use Rattle.interval.specs.Meetings.{spans, Meets}
use Rattle.interval.specs.Spans.{ends}
use Rattle.interval.proofs.Meetings.{meets_open, meets_closed, meeting_laws}
use Rattle.interval.proofs.meeting.Ballot.found.Goals.{then-open_tops-self, else-open_tops-self}
use Rattle.interval.proofs.meeting.Ballot.found.Goals as goal

pub returns-in_err-lower : goal.returns-in_err-lower
returns-in_err-lower c =
    let ss = spans c.args.self.now.intervals.now in
    record {
      finds = subst (Found ss c.args.self.now.quorum) (sym c.from_residual.ensures) c.in_err-lower.ensures;
      laws = meeting_laws;
    }

pub returns : goal.returns
returns c =
    let ss = spans c.args.self.now.intervals.now in
    let q = c.args.self.now.quorum in
    let lower = c.in_ok-lower.lower in
    let least = c.in_ok-lower.ensures in
    record {
      finds =
          elim c.if-open_tops-self.branch [
            | then-open_tops-self w ↦ subst (Meets ss q) (sym (c.ordered.ensures ∙ ap (ends lower) w.top-is)) (meets_open ss q lower least (omega arith))
            | else-open_tops-self w ↦ subst (Meets ss q) (sym (c.ordered.ensures ∙ ap (ends lower) w.top-is)) (meets_closed ss q lower least _ (omega arith) w.greatest_end.ensures)
          ];
      laws = meeting_laws;
    }
