-- A worked tier, as the definitions have it.
use Rattle.std.specs.Prelude.{◌≡◌, true, List, [], ◌∷◌, Ok}
use Rattle.interval.specs.declared.top.Top.TheVariants.{Closed, Open}
use Rattle.interval.specs.Spans.{ends}
use Rattle.gauge.specs.Meaning.{Meaning}
use Rattle.leaf.specs.declared.breakpoint.Breakpoint.{Breakpoint}
use Rattle.leaf.specs.Breakpoints.{breakpoint, in_rule}
use Rattle.leaf.specs.Tiers.{tier_meaning}

-- four breakpoints of a capacitor that is nearly empty after 5 s
abbrev pub worked_points : List Breakpoint
worked_points = breakpoint 0 4000 4095 ∷ breakpoint 100 3000 3300 ∷ breakpoint 1000 800 1200 ∷ breakpoint 5000 0 60 ∷ []

-- the tier with these on channel 0
abbrev pub worked_meaning : Meaning
worked_meaning = tier_meaning 0 worked_points

pub record WorkedTier : Type 0 where
  pub ruled : in_rule worked_points ≡ true
  pub reach : worked_meaning.reach ≡ 1000
  pub width : worked_meaning.width ≡ 4900
  pub ceiling : worked_meaning.ceiling ≡ 5000
  -- at the highest code only the first cell admits it; at 3200 the first two do
  pub at_4095 : worked_meaning.answer (4095 ∷ []) ≡ Ok (ends 0 (Closed 100))
  pub at_3200 : worked_meaning.answer (3200 ∷ []) ≡ Ok (ends 0 (Closed 1000))
  -- 61 is the lowest code that the tail does not admit
  pub at_61 : worked_meaning.answer (61 ∷ []) ≡ Ok (ends 1000 (Closed 5000))
  pub at_60 : worked_meaning.answer (60 ∷ []) ≡ Ok (ends 1000 Open)
  pub allowed : worked_meaning.allows (3200 ∷ []) 500
  pub not_allowed : worked_meaning.allows (3200 ∷ []) 1001 → ⊥
