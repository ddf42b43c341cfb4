-- `filled`: each breakpoint in turn is in rule, so the tier has the four.
use Rattle.std.proofs.Common.{◌≡◌, List, ap, ◌∙◌}
use Rattle.std.proofs.lemmas.Result.{IfOk-from_err}
use Rattle.leaf.specs.declared.breakpoint.Breakpoint.{Breakpoint}
use Rattle.leaf.specs.Breakpoints.{added}
use Rattle.leaf.specs.Examples.{worked_points}
use Rattle.leaf.specs.TierData.{channel_of, points}
use Rattle.leaf.proofs.Examples.{worked_tier}
use Rattle.leaf.proofs.SameTiers.{same_tier}
use Rattle.leaf.proofs.worked.filled.Goals as goal

pub returns-in_err-tier : goal.returns-in_err-tier
returns-in_err-tier c = record { defined = worked_tier; holds = IfOk-from_err _ _ c.from_residual.ensures.0 }

-- the same breakpoint added to the same breakpoints
same_added : (bs cs : List Breakpoint) (b c : Breakpoint) → bs ≡ cs → b ≡ c → added bs b ≡ added cs c
same_added bs cs b c same this = ap (λ bs. added bs b) same ∙ ap (added cs) this

pub returns : goal.returns
returns c =
    let none = c.in_ok-tier.ensures.makes in
    let one = c.add.ensures.becomes ∙ same_added _ _ _ _ none.1 c.new-2.ensures in
    let two = c.add-2.ensures.becomes ∙ same_added _ _ _ _ one c.new-3.ensures in
    let three = c.add-3.ensures.becomes ∙ same_added _ _ _ _ two c.new-4.ensures in
    let four : points c.add-4.new.self ≡ worked_points = c.add-4.ensures.becomes ∙ same_added _ _ _ _ three c.new-5.ensures in
    let channel : channel_of c.add-4.new.self ≡ 0 = c.add-4.ensures.same ∙ c.add-3.ensures.same ∙ c.add-2.ensures.same ∙ c.add.ensures.same ∙ none.0 in
    record { defined = worked_tier; holds = same_tier _ _ _ _ channel four }
