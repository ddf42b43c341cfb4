-- A tier shows what a gauge must.
use Rattle.std.specs.Prelude.{◌≡◌, ℕ, suc, ◌+◌, ◌<◌, ◌≤◌, true, List, Some, None, Ok, Err, Option, nat_le, refl}
use Rattle.std.proofs.Common.{sym, subst, ◌∙◌, ⊎_elim, arith, le_trans}
use Rattle.std.specs.Option.{ok_or}
use Rattle.std.specs.List.{ContainsAt, AllByRecursion}
use Rattle.std.proofs.ByRecursion.{all-has, all_has_itself, all_kept_by, All-weaker, kept_by_passes}
use Rattle.std.proofs.lemmas.Bool.{and_from, and_parts, cases_lt, cond-false, cond-true, le-leb, leb-true, lt-leb}
use Rattle.interval.specs.declared.top.Top.{Top}
use Rattle.interval.specs.declared.top.Top.TheVariants.{Closed, Open}
use Rattle.interval.specs.Tops.{AtMost}
use Rattle.interval.specs.Spans.{Holds, Span, ends}
use Rattle.interval.proofs.Lists.{all_passing}
use Rattle.gauge.specs.declared.fault.GaugeFault.{GaugeFault}
use Rattle.gauge.specs.declared.fault.GaugeFault.TheVariants.{Impossible, OffScale}
use Rattle.gauge.specs.Paths.{start}
use Rattle.gauge.specs.Shows.{AnsweredBy, ClosedBy, EndsBy, Shows}
use Rattle.leaf.specs.declared.breakpoint.Breakpoint.{Breakpoint}
use Rattle.leaf.specs.declared.cell.Cell.{Cell}
use Rattle.leaf.specs.Breakpoints.{in_rule, top_code}
use Rattle.leaf.specs.Cells.{Admits, admits, cells, last_time, outages}
use Rattle.leaf.specs.Readings.{reading_at}
use Rattle.leaf.specs.Searches.{admitting}
use Rattle.leaf.specs.Tiers.{by_code, closed_width, code_answer, tier_meaning, tier_width}
use Rattle.leaf.specs.BreakpointsLemmas.{Ruled, is_ruled}
use Rattle.leaf.specs.Orders.{codes_in_range, last_in_range, ordered_cells, within_last}
use Rattle.leaf.specs.Reaches.{ClosedTop, above_tail, closed_above, reach_early}
use Rattle.leaf.specs.ReadingsLemmas.{answered_present, ok_present}
use Rattle.leaf.specs.Spanned.{EndsWithin, Ordered, Spans, ordered_kept, spanned_within, spans_each}
use Rattle.leaf.specs.Widths.{greatest_over, greatest_under}

-- the span holds the outages of a cell within it
held : (c : Cell) (d : ℕ) (o : Option Span) (fault : GaugeFault) → Spans c o → Holds (outages c) d → AnsweredBy (λ s. Holds s d) (ok_or o fault)
held c d None fault spans holds = absurd spans
held c d (Some s) fault spans holds = (le_trans spans.0 holds.0, spans.1 d holds.1)

-- a closed top is no further above the lower end than the width of the span
closes : (w l : ℕ) (top : Top) → ClosedTop (Some (ends l top)) → closed_width (Some (ends l top)) ≤ w → ClosedBy (l + w) top
closes w l (Closed t) closed narrow = omega arith
closes w l Open closed narrow = absurd closed

-- so an answer that spans a cell and is closed is no wider than w, if its width is not
closed : (c : Cell) (w : ℕ) (o : Option Span) (fault : GaugeFault) → Spans c o → ClosedTop o → closed_width o ≤ w → AnsweredBy (λ (s : Span). ClosedBy (s.lower + w) s.top) (ok_or o fault)
closed c w None fault spans top narrow = absurd spans
closed c w (Some s) fault spans top narrow = closes w s.lower s.top top narrow

-- ends that do not pass b are no further apart
top_narrow : (b l : ℕ) (top : Top) → EndsBy b top → closed_width (Some (ends l top)) ≤ b
top_narrow b l (Closed t) low = omega arith
top_narrow b l Open low = omega arith

-- so a span within b is no wider than b
width_within : (b : ℕ) (o : Option Span) → EndsWithin b o → closed_width o ≤ b
width_within b None within = omega arith
width_within b (Some s) within = top_narrow b s.lower s.top within.2

-- an answer is the span
ok_some : (o : Option Span) (fault : GaugeFault) (s : Span) → ok_or o fault ≡ Ok s → o ≡ Some s
ok_some None fault s answered = let z : ◌≡◌ {A = ℕ} 0 1 = cc in absurd (omega arith)
ok_some (Some t) fault s answered = cc

-- what a passed test says
is_admitted : (v : ℕ) (c : Cell) → admits v c ≡ true → Admits v c
is_admitted v c test = let parts = and_parts (nat_le c.lowest v) (nat_le v c.highest) test in (leb-true _ _ parts.0, leb-true _ _ parts.1)

-- cells that admit the code v: each is one of cs and admits it, and they are in order
pub record Admitting (v : ℕ) (cs ks : List Cell) : Type 0 where
  pub among : AllByRecursion (ContainsAt cs) ks
  pub admitted : AllByRecursion (Admits v) ks
  pub order : Ordered ks

module _ (bs : List Breakpoint) (ruled : Ruled bs) where
  -- the cells of the tier that admit a code are such
  pub are_admitting : (v : ℕ) (ks : List Cell) → admitting v (cells bs) ≡ ks → Admitting v (cells bs) ks
  are_admitting v ks same = subst (Admitting v (cells bs)) same (record {
    among = all_kept_by (admits v) _ (cells bs) (all_has_itself (cells bs));
    admitted = All-weaker _ _ (is_admitted v) _ (kept_by_passes (admits v) (cells bs));
    order = ordered_kept (admits v) (cells bs) (ordered_cells bs ruled);
  })

  -- the answer to a code holds the outages of every cell that admits it
  pub spans_admitting : (v : ℕ) (c : Cell) → ContainsAt (cells bs) c → Admits v c → Spans c (by_code bs v)
  spans_admitting v c has (low, high) =
      let order = (are_admitting v _ refl).order in
      let each = all_passing (admits v) (λ e. Spans e (by_code bs v)) (cells bs) (spans_each (admitting v (cells bs)) order) in
      all-has _ (cells bs) c each has (and_from _ _ (le-leb _ _ low) (le-leb _ _ high))

  -- a code that a cell admits is on the scale
  pub on_scale : (v : ℕ) (c : Cell) → ContainsAt (cells bs) c → Admits v c → v ≤ top_code
  on_scale v c has (_, high) = le_trans high (all-has (λ e. e.highest ≤ top_code) (cells bs) c (codes_in_range bs ruled) has)

  -- the ends of every answer are in order and do not pass the last breakpoint
  ends_within : (v : ℕ) → EndsWithin (last_time bs) (by_code bs v)
  ends_within v =
      spanned_within (last_time bs) (admitting v (cells bs))
      (are_admitting v _ refl).order
      (all_kept_by (admits v) _ (cells bs) (within_last bs ruled))

  -- so are those of the span that is found
  pub found_in_order : (v l : ℕ) (top : Top) → by_code bs v ≡ Some (ends l top) → AtMost l top
  found_in_order v l top found = (subst (EndsWithin (last_time bs)) found (ends_within v)).0

  -- a code on the scale gets what the cells say
  pub scaled : (channel v : ℕ) → v ≤ top_code → code_answer channel bs v ≡ ok_or (by_code bs v) (Impossible channel v start)
  scaled channel v on = cond-true (nat_le v top_code) _ _ (le-leb _ _ on)

  -- any other is off the scale
  pub off_scale : (channel v : ℕ) → top_code < v → code_answer channel bs v ≡ Err (OffScale channel v start)
  off_scale channel v off = cond-false (nat_le v top_code) _ _ (lt-leb _ _ off)

  -- a code that is answered gets the span of the cells
  answered_code : (channel v : ℕ) (s : Span) → code_answer channel bs v ≡ Ok s → by_code bs v ≡ Some s
  answered_code channel v s answered =
      ⊎_elim
      (λ off.
      let refused = off_scale channel v off in
      let z : ◌≡◌ {A = ℕ} 0 1 = cc in
      absurd (omega arith))
      (λ on. ok_some (by_code bs v) _ s (sym (scaled channel v on) ∙ answered))
      (cases_lt top_code v)

  -- what a gauge owes, clause by clause
  tier_shows : (channel : ℕ) → Shows (tier_meaning channel bs)
  tier_shows channel = record {
    holding = λ row d (has, (c, among, holds, admits)).
        let v = reading_at row channel in
        answered_present row channel (code_answer channel bs) (λ s. Holds s d) has
        (subst (AnsweredBy (λ s. Holds s d)) (sym (scaled channel v (on_scale v c among admits)))
        (held c d (by_code bs v) _ (spans_admitting v c among admits) holds));
    closing = λ row d (has, (c, among, holds, admits)) near.
        let v = reading_at row channel in
        let w = tier_width bs in
        let on = on_scale v c among admits in
        let narrow = greatest_over (suc top_code) (λ v. closed_width (by_code bs v)) v (omega arith) in
        let P = λ (s : Span). ClosedBy (s.lower + w) s.top in
        answered_present row channel (code_answer channel bs) P has
        (subst (AnsweredBy P) (sym (scaled channel v on))
        (closed c w (by_code bs v) _ (spans_admitting v c among admits)
        (closed_above bs v (above_tail bs c v d ruled among holds.0 admits.0 near)) narrow));
    bounded = λ row s answered.
        let v = reading_at row channel in
        let same = answered_code channel v s (ok_present row channel (code_answer channel bs) s answered) in
        subst (EndsWithin (last_time bs)) same (ends_within v);
    narrow = greatest_under (suc top_code) (λ v. closed_width (by_code bs v)) (last_time bs) (λ v _. width_within _ (by_code bs v) (ends_within v));
    low = omega (arith, last_in_range bs ruled);
    near = omega (arith, last_in_range bs ruled, reach_early bs ruled);
  }

-- every tier that keeps the rules of its breakpoints
pub ruled_shows : (channel : ℕ) (bs : List Breakpoint) → in_rule bs ≡ true → Shows (tier_meaning channel bs)
ruled_shows channel bs rule = tier_shows bs (is_ruled bs rule) channel
