-- The meeting of spans at a quorum q: the smallest span that holds every point lying in at least q of them.
use Rattle.std.specs.Prelude.{◌≡◌, ℕ, ◌<◌, ◌≤◌, Bool, true, false, ◌&&◌, List, map, length, Ok, Err, count_by, Result, nat_le}
use Rattle.interval.specs.declared.top.Top.TheVariants.{Closed}
use Rattle.interval.specs.declared.interval.Interval.{Interval}
use Rattle.interval.specs.declared.fault.MeetingFault.{MeetingFault}
use Rattle.interval.specs.declared.fault.MeetingFault.TheVariants.{Empty, OutOfRule}
use Rattle.interval.specs.Tops.{is_open}
use Rattle.interval.specs.Spans.{Span, span, Holds, holds, InOrder}

abbrev pub spans : List Interval → List Span
spans is = map span is

-- how many of the listed spans hold x
abbrev pub holders : List Span → ℕ → ℕ
holders ss x = count_by (λ s. holds s x) ss

-- how many of the listed spans have an open top
abbrev pub open_tops : List Span → ℕ
open_tops ss = count_by (λ s. is_open s.top) ss

-- x lies in at least q of the listed spans
abbrev pub Quorate : List Span → ℕ → ℕ → Type 0
Quorate ss q x = q ≤ holders ss x

-- the same as a test
abbrev pub quorate : List Span → ℕ → ℕ → Bool
quorate ss q x = nat_le q (holders ss x)

-- no point lies in q of the listed spans
abbrev pub NoneQuorate : List Span → ℕ → Type 0
NoneQuorate ss q = (x : ℕ) → holders ss x < q

pub record Meets (ss : List Span) (q : ℕ) (m : Span) : Type 0 where
  pub ordered : InOrder m
  -- the meeting holds every point that lies in at least q of the spans
  pub holding : (x : ℕ) → Quorate ss q x → Holds m x
  -- and whatever span holds all of these contains the meeting
  pub smallest : (s : Span) → ((x : ℕ) → Quorate ss q x → Holds s x) → (x : ℕ) → Holds m x → Holds s x
  -- its top is open exactly when at least q tops are
  pub openness : is_open m.top ≡ nat_le q (open_tops ss)

pub record MeetingLaws : Type 0 where
  -- the lower end of a meeting, and its top if that is closed, lie in at least q of the spans
  pub lower_end : (ss : List Span) (q : ℕ) (m : Span) → Meets ss q m → Quorate ss q m.lower
  pub closed_top : (ss : List Span) (q t : ℕ) (m : Span) → Meets ss q m → m.top ≡ Closed t → Quorate ss q t
  -- spans have at most one meeting at a quorum
  pub one : (ss : List Span) (q : ℕ) (m n : Span) → Meets ss q m → Meets ss q n → m ≡ n

-- the most spans that a meeting is asked for
abbrev pub most_spans : ℕ
most_spans = 8

-- n is 1 to 8, and the quorum q is 1 to n
abbrev pub in_rule : ℕ → ℕ → Bool
in_rule n q = nat_le 1 q && nat_le q n && nat_le n most_spans

-- what a meeting answers: it meets, or no time lies in q of the intervals, or their number or q is out of rule
abbrev pub MeetingAnswer : List Interval → ℕ → Result Interval MeetingFault → Type 0
MeetingAnswer is q (Ok m) = (in_rule (length is) q ≡ true) × Meets (spans is) q (span m)
MeetingAnswer is q (Err Empty) = (in_rule (length is) q ≡ true) × NoneQuorate (spans is) q
MeetingAnswer is q (Err (OutOfRule quorum)) = (in_rule (length is) q ≡ false) × (quorum ≡ q)
