-- A gauge that reads one channel: its answers are those to the reading.
use Rattle.std.specs.Prelude.{◌≡◌, ℕ, ◌<◌, List, length, Ok, Err, Result, nat_lt}
use Rattle.std.proofs.Common.{sym, subst, ◌∙◌, ⊎_elim, arith}
use Rattle.std.proofs.lemmas.Bool.{cases_lt, cond-true, cond-false, lt-ltb, le-ltb}
use Rattle.interval.specs.Spans.{Span}
use Rattle.gauge.specs.declared.fault.GaugeFault.{GaugeFault}
use Rattle.gauge.specs.declared.fault.GaugeFault.TheVariants.{Missing}
use Rattle.gauge.specs.Paths.{start}
use Rattle.gauge.specs.Shows.{AnsweredBy}
use Rattle.leaf.specs.Readings.{reading_at, read}

module _ (row : List ℕ) (channel : ℕ) (answer : ℕ → Result Span GaugeFault) where
  -- a row that has the channel is answered as its reading is
  pub read_present : channel < length row → read row channel answer ≡ answer (reading_at row channel)
  read_present has = cond-true (nat_lt channel (length row)) _ _ (lt-ltb _ _ has)

  -- what is said of the answer to the reading holds of the answer to the row
  pub answered_present : (P : Span → Type 0) → channel < length row → AnsweredBy P (answer (reading_at row channel)) → AnsweredBy P (read row channel answer)
  answered_present P has answered = subst (AnsweredBy P) (sym (read_present has)) answered

  -- a row that is answered has the channel, and its reading gets the same answer
  pub ok_present : (s : Span) → read row channel answer ≡ Ok s → answer (reading_at row channel) ≡ Ok s
  ok_present s answered =
      ⊎_elim
      (λ has. sym (read_present has) ∙ answered)
      (λ short.
      let missing : read row channel answer ≡ Err (Missing channel start) = cond-false (nat_lt channel (length row)) _ _ (le-ltb _ _ short) in
      let z : ◌≡◌ {A = ℕ} 0 1 = cc in
      absurd (omega arith))
      (cases_lt channel (length row))
