-- The meaning of a tier.
use Rattle.std.specs.Prelude.{ℕ, zero, suc, ◌-◌, ◌<◌, max, cond, List, [], ◌∷◌, length, Some, None, Err, filter, Option, Result, nat_le, nat_lt}
use Rattle.std.specs.Option.{ok_or}
use Rattle.std.specs.List.{ContainsAt}
use Rattle.interval.specs.declared.top.Top.TheVariants.{Closed, Open}
use Rattle.interval.specs.Spans.{Span, ends, Holds}
use Rattle.gauge.specs.declared.fault.GaugeFault.{GaugeFault}
use Rattle.gauge.specs.declared.fault.GaugeFault.TheVariants.{OffScale, Impossible}
use Rattle.gauge.specs.Paths.{start}
use Rattle.gauge.specs.Meaning.{Meaning}
use Rattle.leaf.specs.declared.breakpoint.Breakpoint.{Breakpoint}
use Rattle.leaf.specs.declared.cell.Cell.{Cell}
use Rattle.leaf.specs.Lasts.{last_of}
use Rattle.leaf.specs.Readings.{reading_at, read}
use Rattle.leaf.specs.Breakpoints.{times, top_code}
use Rattle.leaf.specs.Searches.{admitting}
use Rattle.leaf.specs.Cells.{Admits, cells, last_highest, last_time, outages}

-- an outage of length d may leave the code v: a cell that holds d admits it
abbrev pub CodeAllowed : List Breakpoint → ℕ → ℕ → Type 0
CodeAllowed bs v d = (c : Cell) × ContainsAt (cells bs) c × Holds (outages c) d × Admits v c

-- from the start of the first cell to the end of the last
abbrev pub spanned : List Cell → Option Span
spanned [] = None
spanned (c ∷ cs) = Some (ends c.from (last_of c cs).to)

-- the span of the cells that admit the code v
abbrev pub by_code : List Breakpoint → ℕ → Option Span
by_code bs v = spanned (admitting v (cells bs))

-- what the code v is answered
abbrev pub code_answer : ℕ → List Breakpoint → ℕ → Result Span GaugeFault
code_answer channel bs v = cond (nat_le v top_code) (ok_or (by_code bs v) (Impossible channel v start)) (Err (OffScale channel v start))

-- the time of the last breakpoint whose lowest code is above the highest code of the last breakpoint, else 0
abbrev pub tier_reach : List Breakpoint → ℕ
tier_reach bs = last_of 0 (times (filter (λ b. nat_lt (last_highest bs) b.lowest) bs))

-- how far a closed top is above the lower end; 0 where the top is open, or there is no span
abbrev pub closed_width : Option Span → ℕ
closed_width None = 0
closed_width (Some s) = elim s.top [ Closed t ↦ t - s.lower | Open ↦ 0 ]

-- the greatest of f 0 to f (n - 1)
unfoldable pub greatest_below : ℕ → (ℕ → ℕ) → ℕ
greatest_below zero f = 0
greatest_below (suc n) f = max (f n) (greatest_below n f)

-- the greatest width of a closed answer, over all codes
abbrev pub tier_width : List Breakpoint → ℕ
tier_width bs = greatest_below (suc top_code) (λ v. closed_width (by_code bs v))

abbrev pub tier_meaning : ℕ → List Breakpoint → Meaning
tier_meaning channel bs = record {
  allows = λ row d. (channel < length row) × CodeAllowed bs (reading_at row channel) d;
  answer = λ row. read row channel (code_answer channel bs);
  reach = tier_reach bs;
  width = tier_width bs;
  ceiling = last_time bs;
}
