-- The cells of a tier by their places.
use Rattle.std.proofs.Common.{◌≡◌, ℕ, zero, suc, ◌+◌, ◌<◌, ◌≤◌, max, List, [], ◌∷◌, length, get_or, ⊎_elim, sym, refl, ap, ◌∙◌, add-one, arith}
use Rattle.std.proofs.lemmas.List.{get_or_append_left, get_or_past, get_or_push, length_push}
use Rattle.std.proofs.lemmas.Bool.{cases_lt}
use Rattle.leaf.specs.declared.breakpoint.Breakpoint.{Breakpoint}
use Rattle.leaf.specs.declared.cell.Cell.{Cell}
use Rattle.leaf.specs.Cells.{cell_between, cells, cells_from, closed_cells, tail}

-- from b on there are as many cells as breakpoints after b
from_length : (b : Breakpoint) (bs : List Breakpoint) → length (cells_from b bs) ≡ length bs
from_length b [] = refl
from_length b (c ∷ bs) = ap suc (from_length c bs)

-- one fewer than there are breakpoints are not the tail
closed_length : (bs : List Breakpoint) → length (closed_cells bs) + 1 ≡ max (length bs) 1
closed_length [] = refl
closed_length (b ∷ bs) = omega (arith, from_length b bs)

-- with the tail there are as many cells as breakpoints, and at least one
pub cells_length : (bs : List Breakpoint) → max (length bs) 1 ≡ length (cells bs)
cells_length bs = sym (length_push (closed_cells bs) (tail bs) ∙ closed_length bs)

-- cell i from b on lies between the breakpoints i and i + 1 of those from b on
from_at : (b : Breakpoint) (bs : List Breakpoint) (i : ℕ) (e : Cell) (d : Breakpoint) → i < length bs → cell_between (get_or (b ∷ bs) i d) (get_or (b ∷ bs) (i + 1) d) ≡ get_or (cells_from b bs) i e
from_at b [] i e d lt = absurd (omega arith)
from_at b (c ∷ bs) zero e d lt = refl
from_at b (c ∷ bs) (suc i) e d lt = rw (add-one (suc i)) (rw (add-one i) at (from_at c bs i e d (omega arith)))

-- cell i lies between the breakpoints i and i + 1
pub cell_at : (bs : List Breakpoint) (i : ℕ) (e : Cell) (d : Breakpoint) → i + 1 < length bs → cell_between (get_or bs i d) (get_or bs (i + 1) d) ≡ get_or (cells bs) i e
cell_at [] i e d lt = absurd (omega arith)
cell_at (b ∷ bs) i e d lt =
    from_at b bs i e d (omega arith)
    ∙ sym (get_or_append_left (cells_from b bs) _ e i (omega (arith, from_length b bs)))

-- and the last cell is the tail
pub tail_at : (bs : List Breakpoint) (i : ℕ) (e : Cell) → length bs ≤ i + 1 → i < length (cells bs) → tail bs ≡ get_or (cells bs) i e
tail_at bs i e last within = sym (get_or_push (closed_cells bs) (tail bs) e i (omega (arith, closed_length bs, cells_length bs)))

-- and with fewer than two breakpoints from i on, the tail stands there
pub tail_from : (bs : List Breakpoint) (i : ℕ) → length bs ≤ i + 1 → tail bs ≡ get_or (cells bs) i (tail bs)
tail_from bs i last =
    ⊎_elim (λ within. tail_at bs i (tail bs) last within) (λ past. sym (get_or_past (cells bs) i (tail bs) past)) (cases_lt i (length (cells bs)))
