-- `digits`: the highest bit tells how many digits there are.
use Rattle.std.proofs.Common.{◌∙◌}
use Rattle.gauge.proofs.Paths.{digits_of_bits}
use Rattle.gauge.proofs.path.digits.Goals as goal

pub returns : goal.returns
returns c = c.min.ensures ∙ digits_of_bits c.ilog2.result c.args.number c.ilog2.ensures.power_le c.ilog2.ensures.next_power_gt
