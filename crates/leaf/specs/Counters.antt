-- The meaning of a counter: it counts periods, and stops at its greatest reading.
use Rattle.std.specs.Prelude.{◌≡◌, ℕ, ◌+◌, ◌*◌, ◌<◌, ◌≤◌, Bool, cond, ◌&&◌, List, length, Ok, Err, nat_le, nat_lt}
use Rattle.interval.specs.declared.top.Top.TheVariants.{Closed, Open}
use Rattle.interval.specs.Spans.{Holds, Span, ends}
use Rattle.gauge.specs.declared.fault.GaugeFault.TheVariants.{Missing}
use Rattle.gauge.specs.Meaning.{ExactlyWhen, Meaning, NoneAllowed}
use Rattle.gauge.specs.Paths.{start}
use Rattle.gauge.specs.Shows.{AnsweredBy}
use Rattle.leaf.specs.Readings.{reading_at, read}

-- the greatest reading
abbrev pub stop : ℕ
stop = 65535

abbrev pub greatest_period : ℕ
greatest_period = 1000

-- the period is 1 to 1,000 ms
abbrev pub period_in_rule : ℕ → Bool
period_in_rule period = nat_le 1 period && nat_le period greatest_period

-- an outage of length d may leave the reading k: k periods have passed, and, unless the counter stopped, not more than one more
abbrev pub CountAllowed : ℕ → ℕ → ℕ → Type 0
CountAllowed period k d = (k * period ≤ d) × (k < stop → d ≤ (k + 1) * period)

-- what the reading k is answered
abbrev pub counted : ℕ → ℕ → Span
counted period k = cond (nat_lt k stop) (ends (k * period) (Closed ((k + 1) * period))) (ends (stop * period) Open)

abbrev pub counter_meaning : ℕ → ℕ → Meaning
counter_meaning channel period = record {
  allows = λ row d. (channel < length row) × CountAllowed period (reading_at row channel) d;
  answer = λ row. read row channel (λ k. Ok (counted period k));
  reach = stop * period;
  width = period;
  ceiling = stop * period;
}

-- what every counter's meaning comes to
pub record CounterLaws : Type 0 where
  -- a row that has the channel is allowed with exactly the outages that its answer holds
  pub pairs : (channel period : ℕ) (row : List ℕ) (d : ℕ) → channel < length row → reading_at row channel ≤ stop → ExactlyWhen ((counter_meaning channel period).allows row d) (AnsweredBy (λ s. Holds s d) ((counter_meaning channel period).answer row))
  -- a row that has not is missing it, and is allowed with nothing
  pub missing : (channel period : ℕ) (row : List ℕ) → length row ≤ channel → ((counter_meaning channel period).answer row ≡ Err (Missing channel start)) × NoneAllowed (counter_meaning channel period) row
