-- The top of an interval: the time at which it is closed, and the times that do not pass it.
use Rattle.std.specs.Prelude.{ℕ, ◌≤◌, Bool, true, false, Some, None, Option, nat_le}
use Rattle.interval.specs.declared.top.Top.{Top}
use Rattle.interval.specs.declared.top.Top.TheVariants.{Closed, Open}

-- the cases of a top: the time at which it is closed, or none where it is open
abbrev pub closed_time : Top → Option ℕ
closed_time (Closed t) = Some t
closed_time Open = None

-- the time x does not pass the top
abbrev pub AtMost : ℕ → Top → Type 0
AtMost x (Closed t) = x ≤ t
AtMost x Open = Unit {0}

-- the same as a test
abbrev pub at_most : ℕ → Top → Bool
at_most x (Closed t) = nat_le x t
at_most x Open = true

-- the test for an open top
abbrev pub is_open : Top → Bool
is_open (Closed t) = false
is_open Open = true
