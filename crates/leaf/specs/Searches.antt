-- What the search among the cells finds: where the first and the last cell stand that admit a code.
use Rattle.std.specs.Prelude.{◌≡◌, ℕ, ◌<◌, true, List, [], length, drop, Some, None, filter, Option, slice_index_or}
use Rattle.leaf.specs.declared.cell.Cell.{Cell}
use Rattle.leaf.specs.Lasts.{last_of}
use Rattle.leaf.specs.Cells.{admits}

-- the cells that admit the code v
abbrev pub admitting : ℕ → List Cell → List Cell
admitting v cs = filter (admits v) cs

-- cell i admits v, and all that do come from i on; or none does
abbrev pub FirstAdmitting : ℕ → List Cell → Option ℕ → Type 0
FirstAdmitting v cs (Some i) = (i < length cs) × (admitting v cs ≡ admitting v (drop i cs)) × ((c : Cell) → admits v (slice_index_or cs i c) ≡ true)
FirstAdmitting v cs None = admitting v cs ≡ []

-- of the cells from i on that admit v the last is the one at j, or, if none does, the one at i is
abbrev pub LastAdmitting : ℕ → List Cell → ℕ → ℕ → Type 0
LastAdmitting v cs i j = (j < length cs) × ((c : Cell) → last_of (slice_index_or cs i c) (admitting v (drop i cs)) ≡ slice_index_or cs j c)
