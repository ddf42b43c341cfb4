-- The part that two spans share, as a value and by its points.
use Rattle.std.specs.Prelude.{ℕ, min, max, Some, None, Option}
use Rattle.std.specs.Result.{result_ok}
use Rattle.interval.specs.declared.top.Top.{Top}
use Rattle.interval.specs.declared.top.Top.TheVariants.{Closed, Open}
use Rattle.interval.specs.Spans.{Span, Holds, made_span}

-- the lower of two tops
abbrev pub least_top : Top → Top → Top
least_top (Closed s) (Closed t) = Closed (min s t)
least_top (Closed s) Open = Closed s
least_top Open (Closed t) = Closed t
least_top Open Open = Open

-- from the greater lower end to the lower top, where these ends make a span
abbrev pub shared : Span → Span → Option Span
shared a b = result_ok (made_span (max a.lower b.lower) (least_top a.top b.top))

-- the points of the shared part are those that lie in both; with no shared part no point does
abbrev pub SharedPoints : Span → Span → Option Span → Type 0
SharedPoints a b (Some s) = (x : ℕ) → (Holds s x → Holds a x × Holds b x) × (Holds a x → Holds b x → Holds s x)
SharedPoints a b None = (x : ℕ) → Holds a x → Holds b x → ⊥
