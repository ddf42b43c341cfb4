-- Cells in their order, those of them that admit a code, and the span from the first to the last.
use Rattle.std.specs.Prelude.{◌≡◌, ℕ, ◌≤◌, Bool, false, List, [], ◌∷◌, Some, None, filter, Option, refl}
use Rattle.std.proofs.Common.{◌∙◌, le_refl}
use Rattle.std.specs.List.{AllByRecursion}
use Rattle.std.proofs.ByRecursion.{all_kept_by, All-weaker}
use Rattle.std.proofs.lemmas.Bool.{cond_both, cond-false}
use Rattle.interval.specs.Tops.{AtMost}
use Rattle.interval.specs.Spans.{InOrder, Span}
use Rattle.gauge.specs.Shows.{EndsBy}
use Rattle.leaf.specs.declared.cell.Cell.{Cell}
use Rattle.leaf.specs.Lasts.{last_of}
use Rattle.leaf.specs.Cells.{outages}
use Rattle.leaf.specs.Tiers.{spanned}
use Rattle.leaf.specs.LastsLemmas.{last_all}

-- e neither starts nor ends before c, and its lowest code is no higher
abbrev NotBefore : Cell → Cell → Type 0
NotBefore c e = (c.from ≤ e.from) × ((x : ℕ) → AtMost x c.to → AtMost x e.to) × (e.lowest ≤ c.lowest)

-- each cell has its ends in order, and all after it come in order
abbrev pub Ordered : List Cell → Type 0
Ordered [] = Unit {0}
Ordered (c ∷ cs) = InOrder (outages c) × AllByRecursion (NotBefore c) cs × Ordered cs

-- so it is with those that pass a test
pub ordered_kept : (p : Cell → Bool) (cs : List Cell) → Ordered cs → Ordered (filter p cs)
ordered_kept p [] order = tt
ordered_kept p (c ∷ cs) (inner, later, order) =
    cond_both (p c) _ _ Ordered
    (λ _. (inner, all_kept_by p (NotBefore c) cs later, ordered_kept p cs order))
    (λ _. ordered_kept p cs order)

-- where none passes, nothing is kept
pub kept_none : (p : Cell → Bool) (cs : List Cell) → AllByRecursion (λ c. p c ≡ false) cs → filter p cs ≡ []
kept_none p [] none = refl
kept_none p (c ∷ cs) (first, rest) = cond-false (p c) _ _ first ∙ kept_none p cs rest

-- what holds of all, and what else holds of all
all_both : (P Q : Cell → Type 0) (cs : List Cell) → AllByRecursion P cs → AllByRecursion Q cs → AllByRecursion (λ c. P c × Q c) cs
all_both P Q [] first second = tt
all_both P Q (c ∷ cs) (p, first) (q, second) = ((p, q), all_both P Q cs first second)

-- the span holds what the cell e holds
abbrev pub Spans : Cell → Option Span → Type 0
Spans e None = ⊥
Spans e (Some s) = (s.lower ≤ e.from) × ((x : ℕ) → AtMost x e.to → AtMost x s.top)

-- the last cell ends no earlier than any
last_ends : (c : Cell) (cs : List Cell) → Ordered (c ∷ cs) → AllByRecursion (λ e. (x : ℕ) → AtMost x e.to → AtMost x (last_of c cs).to) (c ∷ cs)
last_ends c [] order = (λ x below. below, tt)
last_ends c (d ∷ cs) (_, (next, _), order) =
    let rest = last_ends d cs order in
    (λ x below. rest.0 x (next.1 x below), rest)

-- the span of the cells holds what each of them holds
pub spans_each : (cs : List Cell) → Ordered cs → AllByRecursion (λ e. Spans e (spanned cs)) cs
spans_each [] order = tt
spans_each (c ∷ cs) (inner, later, order) =
    let ends = last_ends c cs (inner, later, order) in
    ((le_refl _, ends.0), all_both (λ e. c.from ≤ e.from) _ cs (All-weaker _ _ (λ e after. after.0) cs later) ends.1)

-- the ends of the span are in order and at most b, as those of each cell are
abbrev pub EndsWithin : ℕ → Option Span → Type 0
EndsWithin b None = Unit {0}
EndsWithin b (Some s) = InOrder s × (s.lower ≤ b) × EndsBy b s.top

pub spanned_within : (b : ℕ) (cs : List Cell) → Ordered cs → AllByRecursion (λ e. (e.from ≤ b) × EndsBy b e.to) cs → EndsWithin b (spanned cs)
spanned_within b [] order low = tt
spanned_within b (c ∷ cs) (inner, later, order) (first, rest) =
    ((last_ends c cs (inner, later, order)).0 c.from inner, first.0, last_all (λ e. EndsBy b e.to) c cs first.1 (All-weaker _ _ (λ e low. low.1) cs rest))
