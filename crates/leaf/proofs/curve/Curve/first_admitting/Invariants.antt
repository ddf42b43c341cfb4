-- `first_admitting` has passed only cells that do not admit the code.
use Rattle.std.proofs.Common.{◌≡◌, ◌-◌, ◌≤◌, length, drop}
use Rattle.leaf.specs.Cells.{cells}
use Rattle.leaf.specs.Searches.{admitting}
use Rattle.leaf.proofs.curve.Curve.first_admitting.Given as goal

abbrev pub invariant-loop-at : goal.invariant-loop-at
invariant-loop-at l =
    let bs = l.self.breakpoints.items in
    (l.at ≤ l.closed) × (l.closed ≡ length bs - 1) × (admitting l.code (cells bs) ≡ admitting l.code (drop l.at (cells bs)))

abbrev pub decreases-loop-at : goal.decreases-loop-at
decreases-loop-at l = l.closed - l.at
