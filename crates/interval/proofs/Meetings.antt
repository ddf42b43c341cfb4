-- The two ends found by the search make the meeting; the ends of any meeting, and that there is but one.
use Rattle.std.proofs.Common.{◌≡◌, ℕ, ◌+◌, ◌-◌, ◌<◌, ◌≤◌, max, true, List, [], ◌∷◌, length, Some, Ok, Err, Result, sym, refl, ap, ◌∙◌, subst, ⊎_elim, le_trans, le_refl, arith}
use Rattle.std.specs.List.{AllByRecursion}
use Rattle.std.proofs.lemmas.Bool.{le-leb, lt-leb, cases_lt, true≢false, false≢true}
use Rattle.interval.specs.declared.top.Top.{Top}
use Rattle.interval.specs.declared.top.Top.TheVariants.{Closed, Open}
use Rattle.interval.specs.declared.interval.Interval.{Interval}
use Rattle.interval.specs.declared.fault.MeetingFault.{MeetingFault}
use Rattle.interval.specs.declared.fault.MeetingFault.TheVariants.{Empty, OutOfRule}
use Rattle.interval.specs.Tops.{AtMost, is_open}
use Rattle.interval.specs.Spans.{Span, ends, span, Holds, holds, answered}
use Rattle.interval.specs.Meetings.{spans, holders, open_tops, Quorate, Meets, MeetingLaws, MeetingAnswer, in_rule}
use Rattle.interval.specs.Ends.{LeastPoint, GreatestPoint}
use Rattle.interval.proofs.Counts.{counts_no_fewer}
use Rattle.interval.proofs.Spans.{holds_decides, at_most_before}

-- a time that no lower end passes
beyond : List Span → ℕ
beyond [] = 0
beyond (s ∷ ss) = max s.lower (beyond ss)

-- from there on every span with an open top holds
open_holds : (x : ℕ) (ss : List Span) → beyond ss ≤ x → AllByRecursion (λ s. is_open s.top ≡ true → holds s x ≡ true) ss
unfolding beyond
open_holds x [] far = tt
open_holds x (s ∷ ss) far = (λ opened. (holds_decides s x).1 (omega arith, never s.top opened), open_holds x ss (omega arith))
  where
    never : (t : Top) → is_open t ≡ true → AtMost x t
    never (Closed t) opened = absurd (false≢true opened)
    never Open opened = tt

module _ (ss : List Span) (q b : ℕ) (least : LeastPoint ss q (Some b)) where
  -- with q open tops the least point and an open top make the meeting
  pub meets_open : q ≤ open_tops ss → Meets ss q (ends b Open)
  meets_open opens = record {
    ordered = tt;
    holding = λ x enough. (least.1 x enough, tt);
    smallest = λ s all x held.
        let far = max x (beyond ss) in
        let enough = le_trans opens (counts_no_fewer (λ r. is_open r.top) (λ r. holds r far) ss (open_holds far ss (omega arith))) in
        (le_trans (all b least.0).0 held.0, at_most_before x far s.top (omega arith) (all far enough).1);
    openness = sym (le-leb _ _ opens);
  }

  -- with fewer, the least and the greatest point do
  pub meets_closed : (t : ℕ) → open_tops ss < q → GreatestPoint ss q b t → Meets ss q (ends b (Closed t))
  meets_closed t few top = record {
    ordered = top.above;
    holding = λ x enough. (least.1 x enough, top.greatest few x enough);
    smallest = λ s all x held.
        (le_trans (all b least.0).0 held.0, at_most_before x t s.top held.1 (all t (top.enough least.0)).1);
    openness = sym (lt-leb _ _ few);
  }

-- a time in at least q of the spans is not one that lies in fewer
apart : (ss : List Span) (q x y : ℕ) → holders ss y < q → Quorate ss q x → x ≡ y → ⊥
apart ss q x y few enough e = omega (arith, ap (holders ss) e)

-- the lower end of a meeting lies in at least q of the spans: else a span without it would do
lower_end : (ss : List Span) (q : ℕ) (m : Span) → Meets ss q m → Quorate ss q m.lower
lower_end ss q m meets =
    ⊎_elim
    (λ few.
    let rest : (x : ℕ) → Quorate ss q x → Holds (ends (m.lower + 1) m.top) x =
    λ x enough. (omega (arith, apart ss q x m.lower few enough, (meets.holding x enough).0), (meets.holding x enough).1) in
    absurd (omega (arith, (meets.smallest (ends (m.lower + 1) m.top) rest m.lower (le_refl _, meets.ordered)).0)))
    (λ enough. enough)
    (cases_lt (holders ss m.lower) q)

-- and so does a closed top
closed_end : (ss : List Span) (q l t : ℕ) → Meets ss q (ends l (Closed t)) → Quorate ss q t
closed_end ss q l t meets =
    ⊎_elim
    (λ few.
    let lower : Quorate ss q l = lower_end ss q (ends l (Closed t)) meets in
    let rest : (x : ℕ) → Quorate ss q x → Holds (ends l (Closed (t - 1))) x =
    λ x enough. ((meets.holding x enough).0, omega (arith, apart ss q x t few enough, (meets.holding x enough).1)) in
    absurd (omega (arith, apart ss q l t few lower, (meets.smallest (ends l (Closed (t - 1))) rest t (meets.ordered, le_refl t)).1)))
    (λ enough. enough)
    (cases_lt (holders ss t) q)

-- the same of any span whose top is closed
closed_top : (ss : List Span) (q t : ℕ) (m : Span) → Meets ss q m → m.top ≡ Closed t → Quorate ss q t
closed_top ss q t m meets closed = closed_end ss q m.lower t (subst (λ top. Meets ss q (ends m.lower top)) closed meets)

-- two meetings of the same spans have the same top
one_top : (ss : List Span) (q l k : ℕ) (s t : Top) → Meets ss q (ends l s) → Meets ss q (ends k t) → s ≡ t
one_top ss q l k (Closed s) (Closed t) first second =
    ap Closed (omega (arith, (second.holding s (closed_end ss q l s first)).1, (first.holding t (closed_end ss q k t second)).1))
one_top ss q l k (Closed s) Open first second = absurd (false≢true (first.openness ∙ sym second.openness))
one_top ss q l k Open (Closed t) first second = absurd (true≢false (first.openness ∙ sym second.openness))
one_top ss q l k Open Open first second = refl

-- and the same lower end
one_lower : (ss : List Span) (q : ℕ) (m n : Span) → Meets ss q m → Meets ss q n → m.lower ≡ n.lower
one_lower ss q m n first second =
    omega (arith, (second.holding m.lower (lower_end ss q m first)).0, (first.holding n.lower (lower_end ss q n second)).0)

-- the laws of every meeting, from what a meeting is
pub meeting_laws : MeetingLaws
meeting_laws = record {
  lower_end = lower_end;
  closed_top = closed_top;
  one = λ ss q m n first second.
      ap (λ l. ends l m.top) (one_lower ss q m n first second)
      ∙ ap (ends n.lower) (one_top ss q m.lower n.lower m.top n.top first second);
}

-- where a span is the meeting and number and quorum are in rule, that span is the answer
pub answers_meeting : (is : List Interval) (q : ℕ) (m : Span) (r : Result Interval MeetingFault) → in_rule (length is) q ≡ true → Meets (spans is) q m → MeetingAnswer is q r → answered r ≡ Ok m
answers_meeting is q m (Ok i) rule meets (_, found) = ap Ok (meeting_laws.one (spans is) q (span i) m found meets)
answers_meeting is q m (Err Empty) rule meets (_, none) =
    absurd (omega (arith, none m.lower, lower_end (spans is) q m meets))
answers_meeting is q m (Err (OutOfRule quorum)) rule meets (broken, _) = absurd (false≢true (sym broken ∙ rule))
