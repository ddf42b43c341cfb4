-- `first_admitting`: a cell that does not admit the code is passed.
use Rattle.std.proofs.Common.{◌≡◌, ◌+◌, ◌<◌, ◌∙◌, ap, get_or, length, refl, sym, arith}
use Rattle.leaf.specs.declared.breakpoint.Breakpoint.{Breakpoint}
use Rattle.leaf.specs.Cells.{admits, cell_between, cells, tail}
use Rattle.leaf.proofs.Cells.{cell_at, cells_length}
use Rattle.leaf.proofs.Searches.{admitting_no}
use Rattle.leaf.proofs.curve.Curve.first_admitting.Goals as goal

pub loop-at-init : goal.loop-at-init
loop-at-init c = (omega arith, omega (arith, cells_length c.args.self.now.breakpoints.items, c.cell_count-closed.ensures), refl)

pub loop-at-preserved : goal.loop-at-preserved
loop-at-preserved c =
    let bs = c.args.self.now.breakpoints.items in
    let i = c.loop-at.at in
    let v = c.args.code in
    let none : Breakpoint = record { time = 0; lowest = 0; highest = 0 } in
    let next : i + 1 < length bs = omega (arith, c.if-at-closed.false, c.loop-at.invariant.1) in
    let cell : c.between.result ≡ get_or (cells bs) i (tail bs) =
    c.between.ensures ∙ ap (λ ps. cell_between (get_or ps i none) (get_or ps (i + 1) none)) c.as_slice-points.ensures.value ∙ cell_at bs i (tail bs) none next in
    let fails = ap (admits v) (sym cell) ∙ sym c.admits-in-loop-at.ensures ∙ c.if-admits-2.false in
    (omega (arith, c.if-at-closed.false), c.loop-at.invariant.1, c.loop-at.invariant.2 ∙ admitting_no v (cells bs) (tail bs) i (omega (arith, cells_length bs, next)) fails)
