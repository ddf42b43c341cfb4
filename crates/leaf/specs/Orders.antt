-- The cells of breakpoints that keep the rules are in order, and none of their ends passes the last breakpoint.
use Rattle.std.specs.Prelude.{ℕ, ◌≤◌, List, [], ◌∷◌}
use Rattle.std.proofs.Common.{arith, le_refl}
use Rattle.std.specs.List.{AllByRecursion}
use Rattle.std.proofs.ByRecursion.{All-weaker}
use Rattle.interval.specs.Tops.{AtMost}
use Rattle.gauge.specs.Shows.{EndsBy}
use Rattle.leaf.specs.declared.breakpoint.Breakpoint.{Breakpoint}
use Rattle.leaf.specs.Lasts.{last_of}
use Rattle.leaf.specs.Breakpoints.{latest_time, times, top_code}
use Rattle.leaf.specs.Cells.{cells, cells_from, last_time}
use Rattle.leaf.specs.BreakpointsLemmas.{Chain, Ruled, Within}
use Rattle.leaf.specs.Spanned.{Ordered}

-- no cell from b on starts or ends before b, and no lowest code of them is higher than that of b
not_before : (b : Breakpoint) (bs : List Breakpoint) → Chain b bs → AllByRecursion (λ e. (b.time ≤ e.from) × ((x : ℕ) → x ≤ b.time → AtMost x e.to) × (e.lowest ≤ b.lowest)) (cells (b ∷ bs))
not_before b [] chain = ((le_refl _, λ x below. tt, omega arith), tt)
not_before b (c ∷ bs) (next, chain) = (
  (le_refl _, λ x below. omega (arith, next.later), next.lowest),
  All-weaker _ _ (λ e (from, to, low). (omega (arith, next.later), λ x below. to x (omega (arith, next.later)), omega (arith, next.lowest))) (cells (c ∷ bs)) (not_before c bs chain),
)

-- the cells from b on are in order
ordered_from : (b : Breakpoint) (bs : List Breakpoint) → Chain b bs → Ordered (cells (b ∷ bs))
ordered_from b [] chain = (tt, tt, tt)
ordered_from b (c ∷ bs) (next, chain) = (
  omega (arith, next.later),
  All-weaker _ _ (λ e (from, to, low). (omega (arith, next.later), to, low)) (cells (c ∷ bs)) (not_before c bs chain),
  ordered_from c bs chain,
)

-- so are all cells
pub ordered_cells : (bs : List Breakpoint) → Ruled bs → Ordered (cells bs)
ordered_cells [] ruled = (tt, tt, tt)
ordered_cells (b ∷ bs) (_, _, chain) = ordered_from b bs chain

-- the last breakpoint is no earlier than b
last_later : (b : Breakpoint) (bs : List Breakpoint) → Chain b bs → b.time ≤ last_of b.time (times bs)
last_later b [] chain = le_refl _
last_later b (c ∷ bs) (next, chain) = omega (arith, next.later, last_later c bs chain)

-- no end of a cell from b on passes the last breakpoint
within_from : (b : Breakpoint) (bs : List Breakpoint) → Chain b bs → AllByRecursion (λ e. (e.from ≤ last_time (b ∷ bs)) × EndsBy (last_time (b ∷ bs)) e.to) (cells (b ∷ bs))
within_from b [] chain = ((le_refl _, tt), tt)
within_from b (c ∷ bs) (next, chain) =
    ((last_later b (c ∷ bs) (next, chain), last_later c bs chain), within_from c bs chain)

-- no end of a cell passes the last breakpoint
pub within_last : (bs : List Breakpoint) → Ruled bs → AllByRecursion (λ e. (e.from ≤ last_time bs) × EndsBy (last_time bs) e.to) (cells bs)
within_last [] ruled = ((le_refl _, tt), tt)
within_last (b ∷ bs) (_, _, chain) = within_from b bs chain

-- the last breakpoint from b on is early enough
last_early : (b : Breakpoint) (bs : List Breakpoint) → Within b → Chain b bs → last_of b.time (times bs) ≤ latest_time
last_early b [] inside chain = inside.early
last_early b (c ∷ bs) inside (next, chain) = last_early c bs next.inside chain

-- the last breakpoint is early enough
pub last_in_range : (bs : List Breakpoint) → Ruled bs → last_time bs ≤ latest_time
last_in_range [] ruled = omega arith
last_in_range (b ∷ bs) (_, inside, chain) = last_early b bs inside chain

-- no cell from b on admits a code above the highest of all
codes_from : (b : Breakpoint) (bs : List Breakpoint) → Within b → Chain b bs → AllByRecursion (λ e. e.highest ≤ top_code) (cells (b ∷ bs))
codes_from b [] inside chain = (inside.low, tt)
codes_from b (c ∷ bs) inside (next, chain) = (inside.low, codes_from c bs next.inside chain)

-- the lowest code of a cell is that of the breakpoint after it
pub lowest_after : (P : ℕ → Type 0) (b : Breakpoint) (bs : List Breakpoint) → AllByRecursion (λ c. P c.lowest) bs → AllByRecursion (λ e. P e.lowest) (cells_from b bs)
lowest_after P b [] each = tt
lowest_after P b (c ∷ bs) (first, rest) = (first, lowest_after P c bs rest)

-- no cell admits a code above the highest of all
pub codes_in_range : (bs : List Breakpoint) → Ruled bs → AllByRecursion (λ e. e.highest ≤ top_code) (cells bs)
codes_in_range [] ruled = (le_refl _, tt)
codes_in_range (b ∷ bs) (_, inside, chain) = codes_from b bs inside chain
