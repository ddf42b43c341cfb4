-- `greatest_width`: the chain tries the candidates of all breakpoints, and where these have been tried nothing is wider.
use Rattle.std.proofs.Common.{◌≡◌, ◌+◌, ◌≤◌, ℕ, max, map, rules, tests, subst, sym, arith}
use Rattle.std.specs.List.{AllByRecursion, fold}
use Rattle.std.proofs.ByRecursion.{All-map, All-weaker, all_has_itself}
use Rattle.std.proofs.lemmas.Iterator.{YieldsList-from_map, YieldsList-from_slice}
use Rattle.std.proofs.lemmas.Iterator.Consumers.{YieldsList-at, fold_from_yields_List}
use Rattle.interval.proofs.Lists.{all_le-fold_max, all_mapped, fold_keeps}
use Rattle.leaf.specs.declared.breakpoint.Breakpoint.{Breakpoint}
use Rattle.leaf.specs.Tiers.{by_code, closed_width, tier_width}
use Rattle.leaf.specs.BreakpointsLemmas.{is_ruled}
use Rattle.leaf.proofs.Candidates.{tail_in_range, width_over, width_under}
use Rattle.leaf.proofs.curve.Curve.greatest_width.Goals as goal

pub overflow_add-closing : goal.overflow_add-closing
overflow_add-closing c =
    let curve = c.args.self.now in
    let bs = curve.breakpoints.items in
    omega (arith, tail_in_range bs (is_ruled bs curve.ruled))

pub returns : goal.returns
returns c =
    let curve = c.args.self.now in
    let bs = curve.breakpoints.items in
    let ruled = is_ruled bs curve.ruled in
    let tried = λ (h : ℕ) (b : Breakpoint). closed_width (by_code bs (max b.lowest (h + 1))) in
    let h = c.last_highest.result in
    let widths = map (tried h) bs in
    let w = c.fold.result in
    let found : w ≡ fold max 0 widths =
    fold_from_yields_List {s = c.map.result} _ max 0 w c.fold.ensures.ran
    (YieldsList-from_map _ (tried h) (YieldsList-at c.map.ensures.source (YieldsList-from_slice bs (cc))) c.map.ensures.closure (λ x r f called. search (rules, tests)))
    (λ a x b f called. search (rules, tests)) in
    let over : w ≤ tier_width bs = subst (λ n. n ≤ tier_width bs) (sym found) (fold_keeps max (λ n. n ≤ tier_width bs) (λ m n below beneath. omega arith) 0 widths (omega arith) (All-map _ (tried h) bs (All-weaker _ _ (λ b _. width_over bs ruled (max b.lowest (h + 1))) bs (all_has_itself bs)))) in
    let each : AllByRecursion (λ b. tried h b ≤ w) bs = all_mapped (tried h) (λ n. n ≤ w) bs (subst (λ n. AllByRecursion (λ m. m ≤ n) widths) (sym found) (all_le-fold_max 0 widths)) in
    let under = width_under bs ruled w (subst (λ n. AllByRecursion (λ b. tried n b ≤ w) bs) c.last_highest.ensures each) in
    omega arith
