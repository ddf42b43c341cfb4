-- The laws of a tier's meaning.
use Rattle.std.proofs.Common.{◌≡◌, ℕ, suc, ◌+◌, ◌<◌, ltb, ◌⊎◌, List, [], ◌∷◌, length, Some, None, Option, sym, refl, ap, ◌∙◌, subst, inl, inr, ⊎_elim, le_refl, arith}
use Rattle.std.proofs.ByRecursion.{has_push}
use Rattle.std.proofs.lemmas.Bool.{cases_lt, cond-false, le-ltb}
use Rattle.std.specs.Option.{ok_or}
use Rattle.interval.specs.declared.top.Top.{Top}
use Rattle.interval.specs.declared.top.Top.TheVariants.{Closed, Open}
use Rattle.interval.specs.Spans.{Holds, Span, ends}
use Rattle.gauge.specs.declared.fault.GaugeFault.TheVariants.{Impossible}
use Rattle.gauge.specs.Paths.{start}
use Rattle.gauge.specs.Shows.{AnsweredBy}
use Rattle.leaf.specs.declared.breakpoint.Breakpoint.{Breakpoint}
use Rattle.leaf.specs.declared.cell.Cell.{Cell}
use Rattle.leaf.specs.Breakpoints.{top_code}
use Rattle.leaf.specs.Cells.{Admits, cell_between, cells, closed_cells, outages, tail}
use Rattle.leaf.specs.Readings.{reading_at}
use Rattle.leaf.specs.Searches.{admitting}
use Rattle.leaf.specs.TierLaws.{InCell, InTail, TierLaws, point}
use Rattle.leaf.specs.Tiers.{CodeAllowed, by_code, closed_width, code_answer, spanned, tier_width}
use Rattle.leaf.specs.BreakpointsLemmas.{Ruled, is_ruled}
use Rattle.leaf.proofs.Candidates.{width_over}
use Rattle.leaf.proofs.Cells.{cell_at, cells_length, tail_at}
use Rattle.leaf.specs.ReadingsLemmas.{read_present}
use Rattle.leaf.specs.TiersLemmas.{are_admitting, off_scale, on_scale, ruled_shows, scaled}
use Rattle.leaf.specs.Widths.{greatest_attained}

-- a cell is one between two breakpoints, or the tail
cell_or_tail : (bs : List Breakpoint) (v d : ℕ) → CodeAllowed bs v d → ((i : ℕ) × InCell bs i v d) ⊎ InTail bs v d
cell_or_tail bs v d (c, (k, within, same), holds, admitted) =
    let P = λ (c : Cell). Holds (outages c) d × Admits v c in
    ⊎_elim
    (λ lt.
    let facts = subst P (sym (cell_at bs k c _ lt ∙ same c)) (holds, admitted) in
    inl (k, record { numbered = lt; from = facts.0.0; to = facts.0.1; lowest = facts.1.0; highest = facts.1.1 }))
    (λ le.
    let facts = subst P (sym (tail_at bs k c le within ∙ same c)) (holds, admitted) in
    inr (record { from = facts.0.0; highest = facts.1.1 }))
    (cases_lt (k + 1) (length bs))

-- and each of these is a cell
cell_allowed : (bs : List Breakpoint) (v d i : ℕ) → InCell bs i v d → CodeAllowed bs v d
cell_allowed bs v d i in_Cell = (
  cell_between (point bs i) (point bs (i + 1)),
  (i, omega (arith, cells_length bs, in_Cell.numbered), λ c. sym (cell_at bs i c _ in_Cell.numbered)),
  (in_Cell.from, in_Cell.to),
  (in_Cell.lowest, in_Cell.highest),
)

-- so is the tail
tail_allowed : (bs : List Breakpoint) (v d : ℕ) → InTail bs v d → CodeAllowed bs v d
tail_allowed bs v d in_Tail = (tail bs, has_push (closed_cells bs) (tail bs), (in_Tail.from, tt), (omega arith, in_Tail.highest))

-- where some cell admits a code, the outage that the first of them starts at may leave it
none_admits : (bs : List Breakpoint) (v : ℕ) → Ruled bs → ((d : ℕ) → CodeAllowed bs v d → ⊥) → (ks : List Cell) → admitting v (cells bs) ≡ ks → spanned ks ≡ None
none_admits bs v ruled none [] same = refl
none_admits bs v ruled none (c ∷ cs) same =
    let facts = are_admitting bs ruled v (c ∷ cs) same in
    absurd (none c.from (c, facts.among.0, (le_refl _, facts.order.0), facts.admitted.0))

-- a closed width above 0 is that of a closed top
closed_answer : (l w : ℕ) (top : Top) → 0 < w → closed_width (Some (ends l top)) ≡ w → (t : ℕ) × (top ≡ Closed t) × (t ≡ l + w)
closed_answer l w (Closed t) some same = (t, refl, omega arith)
closed_answer l w Open some same = absurd (omega arith)

-- so a code whose answer has a closed width above 0 has a closed answer so wide
widest : (bs : List Breakpoint) (v w : ℕ) (o : Option Span) → by_code bs v ≡ o → 0 < w → closed_width o ≡ w → (l t : ℕ) × (by_code bs v ≡ Some (ends l (Closed t))) × (t ≡ l + w)
widest bs v w None found some same = absurd (omega arith)
widest bs v w (Some s) found some same =
    let answer = closed_answer s.lower w s.top some same in
    (s.lower, answer.0, found ∙ ap (λ top. Some (ends s.lower top)) answer.1, answer.2)

-- the laws of every tier
pub tier_laws : TierLaws
tier_laws = record {
  pairs = λ bs v d. (cell_or_tail bs v d, ⊎_elim (λ (i, in_Cell). cell_allowed bs v d i in_Cell) (tail_allowed bs v d));
  impossible = λ channel bs row rule has on.
      let v = reading_at row channel in
      let ruled = is_ruled bs rule in
      let present = read_present row channel (code_answer channel bs) has in (
        λ refused d allowed. subst (AnsweredBy (λ s. Holds s d)) refused ((ruled_shows channel bs rule).holding row d allowed),
        λ none.
            present
            ∙ scaled bs ruled channel v on
            ∙ ap (λ o. ok_or o (Impossible channel v start)) (none_admits bs v ruled (λ d allowed. none d (has, allowed)) _ refl),
      );
  off_scale = λ channel bs row rule has off.
      let v = reading_at row channel in
      let ruled = is_ruled bs rule in (
        read_present row channel (code_answer channel bs) has ∙ off_scale bs ruled channel v off,
        λ d (_, (c, among, _, admitted)). omega (arith, on_scale bs ruled v c among admitted),
      );
  missing = λ channel bs row short. (cond-false (ltb channel _) _ _ (le-ltb _ _ short), λ d (has, _). absurd (omega arith));
  covered = λ bs v l t rule found. omega (arith, width_over bs (is_ruled bs rule) v, ap closed_width found);
  attained = λ bs.
      ⊎_elim inl
      (λ (v, within, some, same).
      let answer = widest bs v (tier_width bs) (by_code bs v) refl some same in
      inr (v, answer.0, answer.1, omega arith, answer.2, answer.3))
      (greatest_attained (suc top_code) (λ v. closed_width (by_code bs v)));
}
