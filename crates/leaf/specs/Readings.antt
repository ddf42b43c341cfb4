-- The reading of one channel of a row.
use Rattle.std.specs.Prelude.{ℕ, cond, List, length, Err, Result, nat_lt, slice_index}
use Rattle.gauge.specs.declared.fault.GaugeFault.{GaugeFault}
use Rattle.gauge.specs.declared.fault.GaugeFault.TheVariants.{Missing}
use Rattle.gauge.specs.Paths.{start}

-- what stands at the channel
abbrev pub reading_at : List ℕ → ℕ → ℕ
reading_at row channel = slice_index row channel

-- the answer to the reading of the channel, or the refusal of a row that has none for it
abbrev pub read : {A : Type 0} → List ℕ → ℕ → (ℕ → Result A GaugeFault) → Result A GaugeFault
read row channel answer = cond (nat_lt channel (length row)) (answer (reading_at row channel)) (Err (Missing channel start))
