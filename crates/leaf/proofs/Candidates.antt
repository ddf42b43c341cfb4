-- The widest closed answer of a tier is found among few codes: of those above all that the tail admits, the lowest that
-- a cell admits. Any other code whose answer begins with this cell gets an answer within that one's.
use Rattle.std.proofs.Common.{◌≡◌, ℕ, suc, ◌+◌, ◌<◌, ◌≤◌, max, leb, ◌⊎◌, List, [], ◌∷◌, Some, None, Option, refl, ap, subst, inl, inr, ⊎_elim, le_trans, le_refl, arith}
use Rattle.std.specs.List.{ContainsAt, AllByRecursion}
use Rattle.std.proofs.ByRecursion.{all-has, all_kept_by, All-push, All-weaker, has_push}
use Rattle.std.proofs.lemmas.Bool.{and_right, cases_lt, lt-leb}
use Rattle.interval.specs.declared.top.Top.{Top}
use Rattle.interval.specs.declared.top.Top.TheVariants.{Closed, Open}
use Rattle.interval.specs.Tops.{AtMost}
use Rattle.interval.specs.Spans.{Span, ends}
use Rattle.leaf.specs.declared.breakpoint.Breakpoint.{Breakpoint}
use Rattle.leaf.specs.declared.cell.Cell.{Cell}
use Rattle.leaf.specs.Lasts.{last_of}
use Rattle.leaf.specs.Breakpoints.{top_code}
use Rattle.leaf.specs.Cells.{Admits, admits, cells, closed_cells, last_highest, tail}
use Rattle.leaf.specs.Searches.{admitting}
use Rattle.leaf.specs.Tiers.{by_code, closed_width, spanned, tier_width}
use Rattle.leaf.specs.BreakpointsLemmas.{Ruled}
use Rattle.leaf.specs.LastsLemmas.{last_all}
use Rattle.leaf.specs.Orders.{codes_in_range, lowest_after}
use Rattle.leaf.specs.Reaches.{ClosedTop, closed_above}
use Rattle.leaf.specs.Spanned.{Spans, kept_none}
use Rattle.leaf.specs.TiersLemmas.{are_admitting, spans_admitting}
use Rattle.leaf.specs.Widths.{greatest_over, greatest_under}

-- a span that holds every time has no closed width
open_top : (l : ℕ) (top : Top) → ((x : ℕ) → AtMost x top) → closed_width (Some (ends l top)) ≡ 0
open_top l (Closed t) all = absurd (omega (arith, all (t + 1)))
open_top l Open all = refl

-- so has one that holds all that the tail does
open_width : (bs : List Breakpoint) (o : Option Span) → Spans (tail bs) o → closed_width o ≡ 0
open_width bs None spans = refl
open_width bs (Some s) spans = open_top s.lower s.top (λ x. spans.1 x tt)

-- a span within one whose top is closed is no wider
wider_top : (l k : ℕ) (top up : Top) → k ≤ l → ((x : ℕ) → AtMost x top → AtMost x up) → ClosedTop (Some (ends k up)) → closed_width (Some (ends l top)) ≤ closed_width (Some (ends k up))
wider_top l k (Closed t) (Closed u) low within closed = omega (arith, within t (le_refl t))
wider_top l k (Closed t) Open low within closed = absurd closed
wider_top l k Open up low within closed = omega arith

-- so the span from c to e is no wider than a closed one that spans both
wider : (c e : Cell) (o : Option Span) → Spans c o → Spans e o → ClosedTop o → closed_width (Some (ends c.from e.to)) ≤ closed_width o
wider c e None from to closed = absurd from
wider c e (Some s) from to closed = wider_top c.from s.lower e.to s.top from.0 to.1 closed

module _ (bs : List Breakpoint) (ruled : Ruled bs) where
  abbrev width_at : ℕ → ℕ
  width_at v = closed_width (by_code bs v)

  -- the code that is tried for a lowest code
  abbrev candidate : ℕ → ℕ
  candidate low = max low (last_highest bs + 1)

  -- the tail is one of the cells
  tail_among : ContainsAt (cells bs) (tail bs)
  tail_among = has_push (closed_cells bs) (tail bs)

  -- its highest code is on the scale
  pub tail_in_range : last_highest bs ≤ top_code
  tail_in_range = all-has (λ e. e.highest ≤ top_code) (cells bs) (tail bs) (codes_in_range bs ruled) tail_among

  -- a code that the tail admits has no closed answer
  open_below : (v : ℕ) → v ≤ last_highest bs → width_at v ≡ 0
  open_below v low = open_width bs (by_code bs v) (spans_admitting bs ruled v (tail bs) tail_among (omega arith, low))

  -- the answer that begins with the cell c is no wider than that to the candidate of c
  from_cell : (v : ℕ) (c : Cell) (cs : List Cell) → last_highest bs < v → admitting v (cells bs) ≡ c ∷ cs → closed_width (spanned (c ∷ cs)) ≤ width_at (candidate c.lowest)
  from_cell v c cs high same =
      let facts = are_admitting bs ruled v (c ∷ cs) same in
      let among = facts.among in
      let passing = facts.admitted in
      let e = last_of c cs in
      let u = candidate c.lowest in
      let low : e.lowest ≤ c.lowest = last_all (λ e. e.lowest ≤ c.lowest) c cs (le_refl _) (All-weaker _ _ (λ e after. after.2) cs facts.order.1) in
      let last_admits : Admits v e = last_all (Admits v) c cs passing.0 passing.1 in
      let first_admits = passing.0 in
      wider c e (by_code bs u)
      (spans_admitting bs ruled u c among.0 (omega arith, omega arith))
      (spans_admitting bs ruled u e (last_all (ContainsAt (cells bs)) c cs among.0 among.1) (omega arith, omega arith))
      (closed_above bs u (omega arith))

  -- so where each cell's candidate has been tried, no code has a wider answer
  tried_all : (v w : ℕ) → last_highest bs < v → AllByRecursion (λ c. (c.highest ≤ last_highest bs) ⊎ (width_at (candidate c.lowest) ≤ w)) (cells bs) → (ks : List Cell) → admitting v (cells bs) ≡ ks → closed_width (spanned ks) ≤ w
  tried_all v w high tried [] same = omega arith
  tried_all v w high tried (c ∷ cs) same =
      let passing = (are_admitting bs ruled v (c ∷ cs) same).admitted.0 in
      let kept = subst (AllByRecursion (λ e. (e.highest ≤ last_highest bs) ⊎ (width_at (candidate e.lowest) ≤ w))) same (all_kept_by (admits v) _ (cells bs) tried) in
      ⊎_elim (λ low. absurd (omega arith)) (λ here. le_trans (from_cell v c cs high same) here) kept.0

  -- each answer is at most as wide as the width says
  pub width_over : (v : ℕ) → width_at v ≤ tier_width bs
  width_over v =
      ⊎_elim
      (λ off.
      let none = kept_none (admits v) (cells bs) (All-weaker _ _ (λ e low. and_right (leb e.lowest v) (leb v e.highest) (lt-leb v e.highest (omega arith))) (cells bs) (codes_in_range bs ruled)) in
      omega (arith, ap (λ ks. closed_width (spanned ks)) none))
      (λ on. greatest_over (suc top_code) width_at v (omega arith))
      (cases_lt top_code v)

  -- and where the candidates of the breakpoints have been tried, nothing is wider
  pub width_under : (w : ℕ) → AllByRecursion (λ b. width_at (candidate b.lowest) ≤ w) bs → tier_width bs ≤ w
  width_under w tried =
      greatest_under (suc top_code) width_at w
      (λ v _.
      ⊎_elim
      (λ high. tried_all v w high (All-push _ (closed_cells bs) (tail bs) (closed_tried bs tried) (inl (le_refl _))) (admitting v (cells bs)) refl)
      (λ low. omega (arith, open_below v low))
      (cases_lt (last_highest bs) v))
    where
      closed_tried : (cs : List Breakpoint) → AllByRecursion (λ b. width_at (candidate b.lowest) ≤ w) cs → AllByRecursion (λ c. (c.highest ≤ last_highest bs) ⊎ (width_at (candidate c.lowest) ≤ w)) (closed_cells cs)
      closed_tried [] each = tt
      closed_tried (b ∷ cs) (_, rest) = All-weaker _ _ (λ c tried. inr tried) _ (lowest_after (λ low. width_at (candidate low) ≤ w) b cs rest)
