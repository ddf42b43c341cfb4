-- A counter shows what a gauge must.
use Rattle.std.specs.Prelude.{◌≡◌, ℕ, ◌+◌, ◌*◌, ◌<◌, ◌≤◌, true, Ok, nat_le, nat_lt}
use Rattle.std.proofs.Common.{subst, arith, mul-le-mul_right, add-mul}
use Rattle.std.proofs.lemmas.Bool.{and_parts, cond_both, leb-true, ltb-false, ltb-true}
use Rattle.interval.specs.Spans.{Span, Holds, InOrder}
use Rattle.gauge.specs.Shows.{ClosedBy, EndsBy, Shows}
use Rattle.leaf.specs.Readings.{reading_at}
use Rattle.leaf.specs.Counters.{CountAllowed, counted, counter_meaning, greatest_period, period_in_rule, stop}
use Rattle.leaf.specs.ReadingsLemmas.{answered_present, ok_present}

-- the answer holds every outage that may leave the reading
counted_holds : (period k d : ℕ) → CountAllowed period k d → Holds (counted period k) d
counted_holds period k d (from, to) =
    cond_both (nat_lt k stop) _ _ (λ s. Holds s d)
    (λ below. (from, to (ltb-true k stop below)))
    (λ above. (omega (arith, mul-le-mul_right period (ltb-false k stop above)), tt))

module _ (period : ℕ) (ruled : period_in_rule period ≡ true) where
  -- the ends of every answer are in order and at most the ceiling
  counted_bounded : (k : ℕ) → InOrder (counted period k) × ((counted period k).lower ≤ stop * period) × EndsBy (stop * period) (counted period k).top
  counted_bounded k =
      cond_both (nat_lt k stop) _ _ (λ (s : Span). InOrder s × (s.lower ≤ stop * period) × EndsBy (stop * period) s.top)
      (λ below.
      let more = add-mul k 1 period in
      let most = mul-le-mul_right {m = k + 1} {n = stop} period (omega (arith, ltb-true k stop below)) in
      (omega arith, omega arith, omega arith))
      (λ _. (tt, omega arith, tt))

  -- below the reach the counter has not stopped, and the answer is one period wide
  counted_closes : (k d : ℕ) → CountAllowed period k d → d < stop * period → ClosedBy ((counted period k).lower + period) (counted period k).top
  counted_closes k d (from, _) near =
      cond_both (nat_lt k stop) _ _ (λ (s : Span). ClosedBy (s.lower + period) s.top)
      (λ _. omega (arith, add-mul k 1 period))
      (λ above. absurd (omega (arith, mul-le-mul_right period (ltb-false k stop above))))

  -- what a gauge owes, clause by clause
  pub counter_shows : (channel : ℕ) → Shows (counter_meaning channel period)
  counter_shows channel =
      let parts = and_parts (nat_le 1 period) (nat_le period greatest_period) ruled in
      let some = leb-true 1 period parts.0 in
      let most = leb-true period greatest_period parts.1 in
      let answer = λ (k : ℕ). Ok (counted period k) in
      record {
        holding = λ row d (has, allowed). answered_present row channel answer (λ s. Holds s d) has (counted_holds period _ d allowed);
        closing = λ row d (has, allowed) near.
            answered_present row channel answer (λ (s : Span). ClosedBy (s.lower + period) s.top) has (counted_closes _ d allowed near);
        bounded = λ row s answered.
            let k = reading_at row channel in
            let same = ok_present row channel answer s answered in
            let e : counted period k ≡ s = cc in
            subst (λ (s : Span). InOrder s × (s.lower ≤ stop * period) × EndsBy (stop * period) s.top) e (counted_bounded k);
        narrow = omega arith;
        low = omega arith;
        near = omega arith;
      }
