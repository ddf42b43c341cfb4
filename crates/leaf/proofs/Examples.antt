-- The worked tier, from the definitions.
use Rattle.std.proofs.Common.{ℕ, zero, suc, refl, inl, ⊎_elim, arith, lit<, lit≤}
use Rattle.leaf.specs.Examples.{WorkedTier, worked_points}
use Rattle.leaf.specs.TierLaws.{InCell}
use Rattle.leaf.specs.Tiers.{greatest_below}
use Rattle.leaf.proofs.TierLaws.{tier_laws}

-- cells 0 and 1 end before 1001 ms, cell 2 does not admit 3200, and there is no other but the tail
no_cell : (i : ℕ) → InCell worked_points i 3200 1001 → ⊥
no_cell zero in_Cell = omega (arith, in_Cell.to)
no_cell (suc zero) in_Cell = omega (arith, in_Cell.to)
no_cell (suc (suc zero)) in_Cell = omega (arith, in_Cell.highest)
no_cell (suc (suc (suc i))) in_Cell = omega (arith, in_Cell.numbered)

pub worked_tier : WorkedTier
unfolding greatest_below
worked_tier = record {
  ruled = refl;
  reach = refl;
  width = refl;
  ceiling = refl;
  at_4095 = refl;
  at_3200 = refl;
  at_61 = refl;
  at_60 = refl;
  allowed = (lit< tt, (tier_laws.pairs worked_points 3200 500).1 (inl (1, record { numbered = lit< tt; from = lit≤ tt; to = lit≤ tt; lowest = lit≤ tt; highest = lit≤ tt })));
  not_allowed = λ (_, allowed).
      ⊎_elim (λ (i, in_Cell). no_cell i in_Cell) (λ in_Tail. omega (arith, in_Tail.highest)) ((tier_laws.pairs worked_points 3200 1001).0 allowed);
}
