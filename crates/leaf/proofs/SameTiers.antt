-- Tiers with the same channel and breakpoints mean the same.
use Rattle.std.proofs.Common.{◌≡◌, ℕ, List, sym, subst}
use Rattle.gauge.specs.Meaning.{SameMeaning}
use Rattle.gauge.proofs.Meanings.{same_meaning}
use Rattle.leaf.specs.declared.breakpoint.Breakpoint.{Breakpoint}
use Rattle.leaf.specs.Tiers.{tier_meaning}

pub same_tier : (m n : ℕ) (bs cs : List Breakpoint) → m ≡ n → bs ≡ cs → SameMeaning (tier_meaning m bs) (tier_meaning n cs)
same_tier m n bs cs channel points =
    subst (λ k. SameMeaning (tier_meaning k bs) (tier_meaning n cs)) (sym channel)
    (subst (λ ds. SameMeaning (tier_meaning n ds) (tier_meaning n cs)) (sym points) (same_meaning _))
