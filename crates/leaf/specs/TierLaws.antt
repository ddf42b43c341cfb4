-- What the meaning of every tier that keeps the rules comes to, in the words of its breakpoints.
use Rattle.std.specs.Prelude.{◌≡◌, ℕ, ◌+◌, ◌<◌, ◌≤◌, true, ◌⊎◌, List, length, Some, Err, slice_index_or}
use Rattle.interval.specs.declared.top.Top.TheVariants.{Closed}
use Rattle.interval.specs.Spans.{ends}
use Rattle.gauge.specs.declared.fault.GaugeFault.TheVariants.{Impossible, Missing, OffScale}
use Rattle.gauge.specs.Meaning.{ExactlyWhen, NoneAllowed}
use Rattle.gauge.specs.Paths.{start}
use Rattle.leaf.specs.declared.breakpoint.Breakpoint.{Breakpoint}
use Rattle.leaf.specs.Breakpoints.{in_rule, top_code}
use Rattle.leaf.specs.Cells.{last_highest, last_time}
use Rattle.leaf.specs.Readings.{reading_at}
use Rattle.leaf.specs.Tiers.{CodeAllowed, by_code, tier_meaning, tier_width}

-- the breakpoint numbered i
abbrev pub point : List Breakpoint → ℕ → Breakpoint
point bs i = slice_index_or bs i (record { time = 0; lowest = 0; highest = 0 })

-- cell i holds d, and admits v
pub record InCell (bs : List Breakpoint) (i v d : ℕ) : Type 0 where
  pub numbered : i + 1 < length bs
  pub from : (point bs i).time ≤ d
  pub to : d ≤ (point bs (i + 1)).time
  pub lowest : (point bs (i + 1)).lowest ≤ v
  pub highest : v ≤ (point bs i).highest

-- the tail holds d, and admits v
pub record InTail (bs : List Breakpoint) (v d : ℕ) : Type 0 where
  pub from : last_time bs ≤ d
  pub highest : v ≤ last_highest bs

pub record TierLaws : Type 0 where
  -- an outage may leave a code exactly when a cell or the tail holds the one and admits the other
  pub pairs : (bs : List Breakpoint) (v d : ℕ) → ExactlyWhen (CodeAllowed bs v d) (((i : ℕ) × InCell bs i v d) ⊎ InTail bs v d)
  -- a code on the scale is refused as impossible exactly when no outage may have left it
  pub impossible : (channel : ℕ) (bs : List Breakpoint) (row : List ℕ) → in_rule bs ≡ true → channel < length row → reading_at row channel ≤ top_code → ExactlyWhen ((tier_meaning channel bs).answer row ≡ Err (Impossible channel (reading_at row channel) start)) (NoneAllowed (tier_meaning channel bs) row)
  -- any other code is off the scale, and no outage leaves it
  pub off_scale : (channel : ℕ) (bs : List Breakpoint) (row : List ℕ) → in_rule bs ≡ true → channel < length row → top_code < reading_at row channel → ((tier_meaning channel bs).answer row ≡ Err (OffScale channel (reading_at row channel) start)) × NoneAllowed (tier_meaning channel bs) row
  -- a row that has not the channel is missing it, and is allowed with nothing
  pub missing : (channel : ℕ) (bs : List Breakpoint) (row : List ℕ) → length row ≤ channel → ((tier_meaning channel bs).answer row ≡ Err (Missing channel start)) × NoneAllowed (tier_meaning channel bs) row
  -- no closed answer is wider than the width, and if the width is not 0, one is as wide
  pub covered : (bs : List Breakpoint) (v l t : ℕ) → in_rule bs ≡ true → by_code bs v ≡ Some (ends l (Closed t)) → t ≤ l + tier_width bs
  pub attained : (bs : List Breakpoint) → (tier_width bs ≡ 0) ⊎ ((v l t : ℕ) × (v ≤ top_code) × (by_code bs v ≡ Some (ends l (Closed t))) × (t ≡ l + tier_width bs))
