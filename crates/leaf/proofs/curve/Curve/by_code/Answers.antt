-- `by_code`: the first and the last cell that admit the code make the span, and where its top is closed its ends are in order.
use Rattle.std.proofs.Common.{◌≡◌, Some, get_or, sym, ap, ◌∙◌, subst}
use Rattle.interval.specs.Spans.{ends}
use Rattle.interval.specs.Tops.{AtMost}
use Rattle.interval.proofs.Spans.{between_in_order}
use Rattle.leaf.specs.declared.cell.Cell.{Cell}
use Rattle.leaf.specs.Cells.{cells, tail}
use Rattle.leaf.specs.Tiers.{by_code}
use Rattle.leaf.specs.BreakpointsLemmas.{is_ruled}
use Rattle.leaf.specs.TiersLemmas.{found_in_order}
use Rattle.leaf.proofs.Searches.{spanned_found}
use Rattle.leaf.proofs.curve.Curve.by_code.Goals as goal

pub returns-in-Closed : goal.returns-in-Closed
returns-in-Closed c =
    let curve = c.args.self.now in
    let bs = curve.breakpoints.items in
    let from = c.cell-start.result.from in
    let to = c.cell-end.result.to in
    let found : by_code bs c.args.code ≡ Some (ends from to) =
    spanned_found c.args.code (cells bs) (tail bs) _ _ c.in_ok-first.ensures c.last_admitting-last.ensures
    ∙ ap (λ (e : Cell). Some (ends e.from (get_or (cells bs) c.last_admitting-last.result (tail bs)).to)) (sym c.cell-start.ensures)
    ∙ ap (λ (e : Cell). Some (ends from e.to)) (sym c.cell-end.ensures) in
    let order = found_in_order bs (is_ruled bs curve.ruled) _ _ _ found in
    ap Some
    (c.between.ensures ∙ between_in_order from c.in-Closed.top (subst (AtMost from) c.in-Closed.is order) ∙ ap (ends from) (sym c.in-Closed.is))
    ∙ sym found
