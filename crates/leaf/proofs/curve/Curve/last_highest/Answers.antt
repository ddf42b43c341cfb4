-- `last_highest`: the last breakpoint stands at the last place.
use Rattle.std.proofs.Common.{◌≡◌, ◌-◌, ◌∙◌, length, rules, slice_get}
use Rattle.std.specs.Option.{option_map_or}
use Rattle.leaf.specs.declared.breakpoint.Breakpoint.{Breakpoint}
use Rattle.leaf.specs.Breakpoints.{top_code}
use Rattle.leaf.proofs.Lasts.{last_place}
use Rattle.leaf.proofs.curve.Curve.last_highest.Goals as goal

pub returns : goal.returns
returns c =
    let bs = c.args.self.now.breakpoints.items in
    let highest = λ (b : Breakpoint). b.highest in
    let found : c.map_or.result ≡ option_map_or highest (slice_get bs (length bs - 1)) top_code = search rules in
    found ∙ last_place highest top_code bs
