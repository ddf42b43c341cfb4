-- `last_time`: the last breakpoint stands at the last place.
use Rattle.std.proofs.Common.{◌≡◌, ◌-◌, ◌∙◌, length, rules, slice_get}
use Rattle.std.specs.Option.{option_map_or}
use Rattle.leaf.specs.declared.breakpoint.Breakpoint.{Breakpoint}
use Rattle.leaf.proofs.Lasts.{last_place}
use Rattle.leaf.proofs.curve.Curve.last_time.Goals as goal

pub returns : goal.returns
returns c =
    let bs = c.args.self.now.breakpoints.items in
    let time = λ (b : Breakpoint). b.time in
    let found : c.map_or.result ≡ option_map_or time (slice_get bs (length bs - 1)) 0 = search rules in
    found ∙ last_place time 0 bs
