-- The search among cells: one cell more, the last of a stretch that admits the code, and what the first and the last make.
use Rattle.std.proofs.Common.{◌≡◌, ℕ, zero, suc, ◌+◌, ◌<◌, true, false, List, ◌∷◌, length, get_or, cond, drop, Some, sym, ap, subst, ◌∙◌, arith}
use Rattle.std.specs.List.{filter, range_with_len}
use Rattle.std.proofs.lemmas.List.{at_drop_more, drop_all, get_or_default}
use Rattle.std.proofs.lemmas.Bool.{cond_both, cond-false, cond-true}
use Rattle.interval.specs.Spans.{ends}
use Rattle.leaf.specs.declared.cell.Cell.{Cell}
use Rattle.leaf.specs.Cells.{admits}
use Rattle.leaf.specs.Lasts.{last_of}
use Rattle.leaf.specs.Searches.{FirstAdmitting, LastAdmitting, admitting}
use Rattle.leaf.specs.Tiers.{spanned}
use Rattle.leaf.proofs.Lasts.{last_more}

-- what holds of the last cell with one default holds with any, since both numbers are those of cells
at_any : (cs : List Cell) (i j : ℕ) (c d : Cell) (v : ℕ) → i < length cs → j < length cs → last_of (get_or cs i d) (admitting v (drop i cs)) ≡ get_or cs j d → last_of (get_or cs i c) (admitting v (drop i cs)) ≡ get_or cs j c
at_any cs i j c d v first last same =
    ap (λ e. last_of e (admitting v (drop i cs))) (get_or_default cs i c d first) ∙ same ∙ get_or_default cs j d c last

module _ (v : ℕ) (cs : List Cell) (d : Cell) where
  -- cell i, or d past the last
  abbrev at : ℕ → Cell
  at i = get_or cs i d

  -- of the cells from i on, cell i is the first that admits the code if it does, and else is none of them
  admitting_yes : (i : ℕ) → i < length cs → admits v (at i) ≡ true → admitting v (drop i cs) ≡ at i ∷ admitting v (drop (i + 1) cs)
  admitting_yes i within passes = at_drop_more (admitting v) cs i d within ∙ cond-true _ _ _ passes

  pub admitting_no : (i : ℕ) → i < length cs → admits v (at i) ≡ false → admitting v (drop i cs) ≡ admitting v (drop (i + 1) cs)
  admitting_no i within fails = at_drop_more (admitting v) cs i d within ∙ cond-false _ _ _ fails

  -- of the cells from i on that admit the code the last, or cell l if none does
  last_tried : (k i l : ℕ) → i + k ≡ length cs → l < length cs → (last_of l (filter (λ j. admits v (at j)) (range_with_len i k)) < length cs) × (last_of (at l) (admitting v (drop i cs)) ≡ at (last_of l (filter (λ j. admits v (at j)) (range_with_len i k))))
  last_tried zero i l all within = (within, ap (λ ks. last_of (at l) (admitting v ks)) (drop_all i cs (omega arith)))
  last_tried (suc k) i l all within =
      let later = filter (λ j. admits v (at j)) (range_with_len (i + 1) k) in
      cond_both (admits v (at i)) (i ∷ later) later
      (λ js. (last_of l js < length cs) × (last_of (at l) (admitting v (drop i cs)) ≡ at (last_of l js)))
      (λ passes.
      let rest = last_tried k (i + 1) i (omega arith) (omega arith) in
      (rest.0, ap (last_of (at l)) (admitting_yes i (omega arith) passes) ∙ rest.1))
      (λ fails.
      let rest = last_tried k (i + 1) l (omega arith) within in
      (rest.0, ap (last_of (at l)) (admitting_no i (omega arith) fails) ∙ rest.1))

  -- of the cells from i on: the last of all if it admits the code, and else the last of the k before it that does, or cell i
  pub last_found : (i j k : ℕ) → i < length cs → i + suc k ≡ length cs → j ≡ cond (admits v (at (i + k))) (i + k) (last_of i (filter (λ n. admits v (at n)) (range_with_len i k))) → LastAdmitting v cs i j
  last_found i j k within all found =
      let last = last_tried (suc k) i i all within in
      subst (LastAdmitting v cs i) (sym (found ∙ sym (last_more (λ n. admits v (at n)) k i i))) (last.0, λ e. at_any cs i _ e d v within last.0 last.1)

  -- the first and the last cell that admit the code make the span
  pub spanned_found : (i j : ℕ) → FirstAdmitting v cs (Some i) → LastAdmitting v cs i j → spanned (admitting v cs) ≡ Some (ends (at i).from (at j).to)
  spanned_found i j (within, from, here) (_, end) =
      let rest = admitting_yes i within (here d) in
      ap spanned (from ∙ rest)
      ∙ ap (λ (c : Cell). Some (ends (at i).from c.to)) (ap (last_of (at i)) (sym rest) ∙ end d)
