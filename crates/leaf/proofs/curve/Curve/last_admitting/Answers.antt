-- `last_admitting`: the tail if it admits the code; else the chain ends with the last of the numbers from the first on whose cells
-- admit it, or with the first.
use Rattle.std.proofs.Common.{◌≡◌, ℕ, ◌+◌, ◌-◌, ◌<◌, ◌∙◌, ap, get_or, length, rules, sym, tests, arith}
use Rattle.std.specs.List.{filter, fold, range_with_len}
use Rattle.std.proofs.lemmas.Bool.{cond-false, cond-true}
use Rattle.std.proofs.lemmas.Iterator.{YieldsList-from_range, serves_from_Range}
use Rattle.std.proofs.lemmas.Iterator.Consumers.{YieldsList-at, YieldsList-from_filter, fold_from_yields_List}
use Rattle.leaf.specs.declared.breakpoint.Breakpoint.{Breakpoint}
use Rattle.leaf.specs.Cells.{admits, cell_between, cells, tail}
use Rattle.leaf.specs.Lasts.{last_of}
use Rattle.leaf.proofs.Cells.{cell_at, cells_length, tail_from}
use Rattle.leaf.proofs.Lasts.{last_kept, passing_same}
use Rattle.leaf.proofs.Searches.{last_found}
use Rattle.leaf.proofs.curve.Curve.last_admitting.Goals as goal

pub returns-then-admits : goal.returns-then-admits
returns-then-admits c =
    let bs = c.args.self.now.breakpoints.items in
    let first = c.args.first in
    let k = c.cell_count-closed.result - 1 - first in
    let at_tail = tail_from bs (first + k) (omega (arith, cells_length bs, c.cell_count-closed.ensures, c.requires)) in
    let passes = ap (admits c.args.code) (sym at_tail ∙ sym c.tail.ensures) ∙ sym c.admits.ensures ∙ c.if-admits.true in
    last_found c.args.code (cells bs) (tail bs) first _ k c.requires (omega (arith, c.cell_count-closed.ensures, c.requires))
    (sym (cond-true _ _ _ passes ∙ omega (arith, c.cell_count-closed.ensures, c.requires)))

pub fold-requires-clause-can : goal.fold-requires-clause-can
fold-requires-clause-can c =
    let bs = c.args.self.now.breakpoints.items in (
      tt,
      tt,
      serves_from_Range (λ x f called. search (rules, tests))
          (λ i from below.
          let within : i + 1 < length c.filter.result.p.0.now =
          omega (arith, ap (λ r. r.end) c.filter.ensures.source, ap (λ p. length p.0.now) c.filter.ensures.closure, cells_length bs, c.cell_count-closed.ensures, c.as_slice-points.ensures.len, ap length c.as_slice-points.ensures.value) in
          search (rules, arith, within)),
    )

pub returns : goal.returns
returns c =
    let bs = c.args.self.now.breakpoints.items in
    let v = c.args.code in
    let first = c.args.first in
    let k = c.cell_count-closed.result - 1 - first in
    let numbers = range_with_len first k in
    let none : Breakpoint = record { time = 0; lowest = 0; highest = 0 } in
    let asked = λ (i : ℕ). admits v (cell_between (get_or bs i none) (get_or bs (i + 1) none)) in
    let tried = λ (i : ℕ). admits v (get_or (cells bs) i (tail bs)) in
    let at_tail = tail_from bs (first + k) (omega (arith, cells_length bs, c.cell_count-closed.ensures, c.requires)) in
    let fails = ap (admits v) (sym at_tail ∙ sym c.tail.ensures) ∙ sym c.admits.ensures ∙ c.if-admits.false in
    let folded : c.fold.result ≡ fold (λ _ i. i) first (filter asked numbers) =
    fold_from_yields_List {s = c.filter.result} _ (λ _ i. i) first c.fold.result c.fold.ensures.ran
    (YieldsList-from_filter _ asked (YieldsList-at c.filter.ensures.source (YieldsList-from_range first (c.cell_count-closed.result - 1) k (cc) (omega arith))) c.filter.ensures.closure (λ i b f called. search (rules, tests)))
    (λ last i b f called. search (rules, tests)) in
    let same = passing_same asked tried k first (λ i from below. ap (admits v) (cell_at bs i (tail bs) none (omega (arith, cells_length bs, c.cell_count-closed.ensures)))) in
    let found = folded ∙ last_kept first (filter asked numbers) ∙ ap (last_of first) same in
    last_found v (cells bs) (tail bs) first _ k c.requires (omega (arith, c.cell_count-closed.ensures, c.requires)) (found ∙ sym (cond-false _ _ _ fails))
