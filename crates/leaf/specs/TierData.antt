-- What a tier holds: its channel and its breakpoints.
use Rattle.std.specs.Prelude.{ℕ, List, vec_items}
use Rattle.leaf.specs.declared.breakpoint.Breakpoint.{Breakpoint}
use Rattle.leaf.specs.declared.tier.Tier.{Tier}

abbrev pub channel_of : Tier → ℕ
channel_of t = t.channel

abbrev pub points : Tier → List Breakpoint
points t = vec_items t.curve.breakpoints
