-- The refusals of intervals and meetings: the number of each, and the numbers that it tells.
use Rattle.std.specs.Prelude.{ℕ, List, [], ◌∷◌}
use Rattle.interval.specs.declared.fault.RuleFault.{RuleFault}
use Rattle.interval.specs.declared.fault.MeetingFault.{MeetingFault}
use Rattle.interval.specs.declared.fault.MeetingFault.TheVariants.{Empty, OutOfRule}

-- the refusal of a value that breaks the rule of its kind
abbrev pub out_of_rule : ℕ → RuleFault
out_of_rule value = record { place = value }

abbrev pub rule_number : RuleFault → ℕ
rule_number fault = 19

-- the value that breaks the rule
abbrev pub rule_told : RuleFault → List ℕ
rule_told fault = fault.place ∷ []

abbrev pub meeting_number : MeetingFault → ℕ
meeting_number Empty = 5
meeting_number (OutOfRule quorum) = 19

-- lost votes and path, both 0 where a meeting is asked for by itself; or the quorum
abbrev pub meeting_told : MeetingFault → List ℕ
meeting_told Empty = 0 ∷ 0 ∷ []
meeting_told (OutOfRule quorum) = quorum ∷ []
