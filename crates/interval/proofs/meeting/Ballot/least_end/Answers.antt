-- `least_end`: what the chain finds is the least of the quorate lower ends, and that is the least point.
use Rattle.std.proofs.Common.{◌≡◌, ◌∙◌, ap, min, map, rules, tests, subst, sym, None, Some, unwrap_or}
use mathlib.Core.List.{map-map}
use Rattle.std.proofs.lemmas.Iterator.{YieldsList-from_map, YieldsList-from_slice}
use Rattle.std.proofs.lemmas.Iterator.Consumers.{YieldsList-at, YieldsList-from_filter, fold_from_yields_List}
use Rattle.std.specs.List.{filter, fold, reduce}
use Rattle.interval.specs.declared.interval.Interval.{Interval}
use Rattle.interval.specs.Meetings.{quorate, spans}
use Rattle.interval.specs.Spans.{Span, span}
use Rattle.interval.proofs.Ends.{LeastOf, least_end, least_of}
use Rattle.interval.proofs.Lists.{least_given}
use Rattle.interval.proofs.meeting.Ballot.least_end.Goals as goal

pub returns : goal.returns
returns c =
    let is = c.args.self.now.intervals.now in
    let ss = spans is in
    let q = c.args.self.now.quorum in
    let given : map (λ (i : Interval). i.lower) is ≡ map (λ (s : Span). s.lower) ss = sym (map-map (λ (s : Span). s.lower) span is) in
    let found : c.fold.result ≡ fold (λ least end. Some (min (unwrap_or least end) end)) None (filter (quorate ss q) (map (λ (i : Interval). i.lower) is)) =
    fold_from_yields_List {s = c.filter.result} _ (λ least end. Some (min (unwrap_or least end) end)) None c.fold.result c.fold.ensures.ran
    (YieldsList-from_filter _ (quorate ss q)
    (YieldsList-at c.filter.ensures.source
    (YieldsList-from_map _ (λ (i : Interval). i.lower) (YieldsList-at c.map.ensures.source (YieldsList-from_slice is (cc))) c.map.ensures.closure (λ x r f called. search (rules, tests))))
    c.filter.ensures.closure
    (λ x b f called. search (rules, tests)))
    (λ a x b f called. search (rules, tests)) in
    least_end ss q c.args.self.now.positive c.fold.result
    (subst (LeastOf ss q) (sym (found ∙ least_given _ ∙ ap (λ ends. reduce min (filter (quorate ss q) ends)) given)) (least_of ss q))
