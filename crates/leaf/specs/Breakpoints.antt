-- The breakpoints of a tier, and the rules that they keep.
use Rattle.std.specs.Prelude.{ℕ, Bool, true, cond, ◌&&◌, List, [], ◌∷◌, ◌++◌, map, length, Ok, Err, Result, ◌==◌, nat_le, nat_lt}
use Rattle.interval.specs.declared.fault.RuleFault.{RuleFault}
use Rattle.interval.specs.Faults.{out_of_rule}
use Rattle.leaf.specs.declared.breakpoint.Breakpoint.{Breakpoint}

abbrev pub breakpoint : ℕ → ℕ → ℕ → Breakpoint
breakpoint time lowest highest = record { time = time; lowest = lowest; highest = highest }

abbrev pub top_code : ℕ
top_code = 4095

abbrev pub latest_time : ℕ
latest_time = 100000000

abbrev pub most_breakpoints : ℕ
most_breakpoints = 16

-- its lowest code does not pass its highest, and its highest code and its time are in range
abbrev pub within : Breakpoint → Bool
within b = nat_le b.lowest b.highest && nat_le b.highest top_code && nat_le b.time latest_time

-- the first breakpoint stands at time 0
abbrev pub starts : Breakpoint → Bool
starts b = b.time == 0 && within b

-- c may come after b: it is later, and neither of its codes is higher
abbrev pub follows : Breakpoint → Breakpoint → Bool
follows b c = nat_lt b.time c.time && nat_le c.lowest b.lowest && nat_le c.highest b.highest && within c

-- each of the list may come after the one before, the first of them after b
abbrev pub chained : Breakpoint → List Breakpoint → Bool
chained b [] = true
chained b (c ∷ bs) = follows b c && chained c bs

-- the breakpoints keep every rule but that of their number
abbrev pub ordered : List Breakpoint → Bool
ordered [] = true
ordered (b ∷ bs) = starts b && chained b bs

-- the breakpoints keep every rule
abbrev pub in_rule : List Breakpoint → Bool
in_rule bs = ordered bs && nat_le (length bs) most_breakpoints

-- one breakpoint more, where the rules allow it
abbrev pub added : List Breakpoint → Breakpoint → List Breakpoint
added bs b = cond (in_rule (bs ++ b ∷ [])) (bs ++ b ∷ []) bs

-- what adding a breakpoint answers: one that breaks the rules is refused, with the number that it would have had
abbrev pub add_answer : List Breakpoint → Breakpoint → Result (Unit {0}) RuleFault
add_answer bs b = cond (in_rule (bs ++ b ∷ [])) (Ok tt) (Err (out_of_rule (length bs)))

abbrev pub times : List Breakpoint → List ℕ
times bs = map (λ b. b.time) bs

abbrev pub highests : List Breakpoint → List ℕ
highests bs = map (λ b. b.highest) bs
