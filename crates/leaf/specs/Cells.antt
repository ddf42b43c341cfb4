-- The cells of a tier: between each two breakpoints one, and the tail from the last breakpoint on.
use Rattle.std.specs.Prelude.{ℕ, ◌≤◌, Bool, ◌&&◌, List, [], ◌∷◌, ◌++◌, nat_le}
use Rattle.interval.specs.declared.top.Top.TheVariants.{Closed, Open}
use Rattle.interval.specs.Spans.{Span, ends}
use Rattle.leaf.specs.declared.breakpoint.Breakpoint.{Breakpoint}
use Rattle.leaf.specs.declared.cell.Cell.{Cell}
use Rattle.leaf.specs.Lasts.{last_of}
use Rattle.leaf.specs.Breakpoints.{highests, times, top_code}

-- the outages of a cell, both ends included
abbrev pub outages : Cell → Span
outages c = ends c.from c.to

-- the cell admits the code v
abbrev pub Admits : ℕ → Cell → Type 0
Admits v c = (c.lowest ≤ v) × (v ≤ c.highest)

-- the same as a test
abbrev pub admits : ℕ → Cell → Bool
admits v c = nat_le c.lowest v && nat_le v c.highest

-- the cell from b to the next breakpoint c
abbrev pub cell_between : Breakpoint → Breakpoint → Cell
cell_between b c = record { from = b.time; to = Closed c.time; lowest = c.lowest; highest = b.highest }

-- the cells from b on, as far as they are between two breakpoints
abbrev pub cells_from : Breakpoint → List Breakpoint → List Cell
cells_from b [] = []
cells_from b (c ∷ bs) = cell_between b c ∷ cells_from c bs

abbrev pub closed_cells : List Breakpoint → List Cell
closed_cells [] = []
closed_cells (b ∷ bs) = cells_from b bs

-- the time of the last breakpoint, and its highest code; with no breakpoint, 0 and the highest of all codes
abbrev pub last_time : List Breakpoint → ℕ
last_time bs = last_of 0 (times bs)

abbrev pub last_highest : List Breakpoint → ℕ
last_highest bs = last_of top_code (highests bs)

abbrev pub tail : List Breakpoint → Cell
tail bs = record { from = last_time bs; to = Open; lowest = 0; highest = last_highest bs }

-- all cells in their order, the tail last
abbrev pub cells : List Breakpoint → List Cell
cells bs = closed_cells bs ++ tail bs ∷ []
