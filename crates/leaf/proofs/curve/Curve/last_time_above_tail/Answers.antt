-- `last_time_above_tail`: the fold ends with the time of the last breakpoint with codes above those of the tail only.
use Rattle.std.proofs.Common.{◌≡◌, ◌∙◌, ap, cond, nat_lt, rules, tests}
use Rattle.std.specs.List.{filter, fold}
use Rattle.std.proofs.lemmas.Iterator.{YieldsList-from_slice}
use Rattle.std.proofs.lemmas.Iterator.Consumers.{fold_from_yields_List}
use Rattle.leaf.specs.declared.breakpoint.Breakpoint.{Breakpoint}
use Rattle.leaf.specs.Breakpoints.{times}
use Rattle.leaf.specs.Lasts.{last_of}
use Rattle.leaf.proofs.Lasts.{last_taken}
use Rattle.leaf.proofs.curve.Curve.last_time_above_tail.Goals as goal

pub returns : goal.returns
returns c =
    let bs = c.args.self.now.breakpoints.items in
    let above = λ (b : Breakpoint). nat_lt c.last_highest-tail_highest.result b.lowest in
    let time = λ (b : Breakpoint). b.time in
    let folded : c.fold.result ≡ fold (λ last b. cond (above b) (time b) last) 0 bs =
    fold_from_yields_List _ (λ last b. cond (above b) (time b) last) 0 c.fold.result c.fold.ensures.ran
    (YieldsList-from_slice bs (cc))
    (λ last b r f called. search (rules, tests)) in
    folded ∙ last_taken above time 0 bs ∙ ap (λ h. last_of 0 (times (filter (λ b. nat_lt h b.lowest) bs))) c.last_highest-tail_highest.ensures
