-- What a span holds: tests and facts, earlier times, and the lower of two tops.
use Rattle.std.proofs.Common.{◌≡◌, ℕ, ◌≤◌, min, max, Decides, refl, ap, ◌∙◌, arith}
use Rattle.std.proofs.lemmas.Bool.{leb-true, le-leb}
use Rattle.std.proofs.lemmas.Bool.Decides.{Decides-and}
use Rattle.interval.specs.declared.top.Top.{Top}
use Rattle.interval.specs.declared.top.Top.TheVariants.{Closed, Open}
use Rattle.interval.specs.Tops.{AtMost, at_most}
use Rattle.interval.specs.Spans.{Span, Holds, ends, holds}
use Rattle.interval.specs.Shared.{least_top}
use Rattle.interval.proofs.Numbers.{min_either}

-- the test of a top and its fact agree
at_most_decides : (x : ℕ) (t : Top) → Decides (at_most x t) (AtMost x t)
at_most_decides x (Closed t) = (leb-true x t, le-leb x t)
at_most_decides x Open = (λ _. tt, λ _. refl)

-- between two times in order run the two themselves
pub between_in_order : (l t : ℕ) → l ≤ t → ends (min l t) (Closed (max l t)) ≡ ends l (Closed t)
between_in_order l t order =
    let low : min l t ≡ l = omega arith in
    let high : max l t ≡ t = omega arith in
    ap (λ k. ends k (Closed (max l t))) low ∙ ap (λ u. ends l (Closed u)) high

-- the test of a span and its fact agree
pub holds_decides : (s : Span) (x : ℕ) → Decides (holds s x) (Holds s x)
holds_decides s x = Decides-and _ _ (leb-true s.lower x, le-leb s.lower x) (at_most_decides x s.top)

-- a time before one that does not pass the top does not pass it either
pub at_most_before : (x y : ℕ) (t : Top) → x ≤ y → AtMost y t → AtMost x t
at_most_before x y (Closed t) le below = omega arith
at_most_before x y Open le below = tt

-- a time that does not pass the lower of two tops passes neither
pub least_top_parts : (x : ℕ) (s t : Top) → AtMost x (least_top s t) → AtMost x s × AtMost x t
least_top_parts x (Closed s) (Closed t) below = (omega arith, omega arith)
least_top_parts x (Closed s) Open below = (below, tt)
least_top_parts x Open (Closed t) below = (tt, below)
least_top_parts x Open Open below = (tt, tt)

-- and the other way round
pub least_top_both : (x : ℕ) (s t : Top) → AtMost x s → AtMost x t → AtMost x (least_top s t)
least_top_both x (Closed s) (Closed t) one other = omega arith
least_top_both x (Closed s) Open one other = one
least_top_both x Open (Closed t) one other = other
least_top_both x Open Open one other = tt

-- the lower of two tops is one of them
pub least_top_either : (P : Top → Type 0) (s t : Top) → P s → P t → P (least_top s t)
least_top_either P (Closed s) (Closed t) one other = min_either (λ n. P (Closed n)) s t one other
least_top_either P (Closed s) Open one other = one
least_top_either P Open (Closed t) one other = other
least_top_either P Open Open one other = one
