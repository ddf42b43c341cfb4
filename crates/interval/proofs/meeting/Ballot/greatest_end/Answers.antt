-- `greatest_end`: what the chain finds is the greatest of the quorate closed tops, and that is the greatest point.
use Rattle.std.proofs.Common.{◌≡◌, ◌∙◌, ap, max, rules, tests, subst, sym}
use Rattle.std.proofs.lemmas.Iterator.{YieldsList-from_slice}
use Rattle.std.proofs.lemmas.Iterator.Consumers.{YieldsList-at, YieldsList-from_filter, YieldsList-from_filter_map, fold_from_yields_List}
use Rattle.std.specs.List.{filter, filter_map, fold}
use Rattle.interval.specs.declared.interval.Interval.{Interval}
use Rattle.interval.specs.Meetings.{quorate, spans}
use Rattle.interval.specs.Spans.{Span, span}
use Rattle.interval.specs.Tops.{closed_time}
use Rattle.interval.proofs.Ends.{GreatestOf, greatest_end, greatest_of}
use Rattle.interval.proofs.Lists.{filter_map_mapped}
use Rattle.interval.proofs.meeting.Ballot.greatest_end.Goals as goal

pub returns : goal.returns
returns c =
    let is = c.args.self.now.intervals.now in
    let ss = spans is in
    let q = c.args.self.now.quorum in
    let floor = c.args.floor in
    let given : filter_map (λ (i : Interval). closed_time i.top) is ≡ filter_map (λ (s : Span). closed_time s.top) ss = sym (filter_map_mapped span (λ (s : Span). closed_time s.top) is) in
    let found : c.fold.result ≡ fold max floor (filter (quorate ss q) (filter_map (λ (i : Interval). closed_time i.top) is)) =
    fold_from_yields_List {s = c.filter.result} _ max floor c.fold.result c.fold.ensures.ran
    (YieldsList-from_filter _ (quorate ss q)
    (YieldsList-at c.filter.ensures.source
    (YieldsList-from_filter_map _ (λ (i : Interval). closed_time i.top) (YieldsList-at c.filter_map.ensures.source (YieldsList-from_slice is (cc))) c.filter_map.ensures.closure (λ x r f called. search (rules, tests))))
    c.filter.ensures.closure
    (λ x b f called. search (rules, tests)))
    (λ a x b f called. search (rules, tests)) in
    greatest_end ss q floor c.fold.result
    (subst (GreatestOf ss q floor) (sym (found ∙ ap (λ ends. fold max floor (filter (quorate ss q) ends)) given)) (greatest_of ss q floor))
