-- The nearest ends around a time x: the greatest lower end and the lowest top among the spans that hold x.
use Rattle.std.proofs.Common.{◌≡◌, ℕ, ◌<◌, ◌≤◌, max, Bool, true, cond, List, [], ◌∷◌, ap, ⊎_elim, arith}
use Rattle.std.specs.List.{AllByRecursion}
use Rattle.std.proofs.lemmas.Bool.{cond_both, cases_Bool}
use Rattle.interval.specs.declared.top.Top.{Top}
use Rattle.interval.specs.declared.top.Top.TheVariants.{Open}
use Rattle.interval.specs.Tops.{AtMost}
use Rattle.interval.specs.Spans.{Span, holds}
use Rattle.interval.specs.Shared.{least_top}
use Rattle.interval.specs.Meetings.{holders}
use Rattle.interval.proofs.Counts.{count_cons, count_no}
use Rattle.interval.proofs.Numbers.{max_either}
use Rattle.interval.proofs.Spans.{holds_decides, at_most_before, least_top_parts, least_top_both, least_top_either}

module _ (x : ℕ) where
  -- the greatest lower end among the spans that hold x
  pub nearest_lower : List Span → ℕ
  nearest_lower [] = 0
  nearest_lower (s ∷ ss) = cond (holds s x) (max s.lower (nearest_lower ss)) (nearest_lower ss)

  -- the lowest top among the spans that hold x
  pub nearest_top : List Span → Top
  nearest_top [] = Open
  nearest_top (s ∷ ss) = cond (holds s x) (least_top s.top (nearest_top ss)) (nearest_top ss)

  -- it does not pass x
  pub lower_below : (ss : List Span) → nearest_lower ss ≤ x
  unfolding nearest_lower
  lower_below [] = omega arith
  lower_below (s ∷ ss) =
      cond_both (holds s x) _ _ (λ n. n ≤ x)
      (λ held. omega (arith, ((holds_decides s x).0 held).0, lower_below ss))
      (λ _. lower_below ss)

  -- each span that holds x holds every time from the nearest lower end to x
  pub holds_from_lower : (l : ℕ) (ss : List Span) → nearest_lower ss ≤ l → l ≤ x → AllByRecursion (λ s. holds s x ≡ true → holds s l ≡ true) ss
  unfolding nearest_lower
  holds_from_lower l [] from to = tt
  holds_from_lower l (s ∷ ss) from to = (
    λ held.
        let low = rw held at from in
        let whole = (holds_decides s x).0 held in
        (holds_decides s l).1 (omega arith, at_most_before l x s.top to whole.1),
    holds_from_lower l ss (cond_both (holds s x) _ _ (λ n. n ≤ l → nearest_lower ss ≤ l) (λ _ le. omega arith) (λ _ le. le) from) to,
  )

  -- where it is above 0, it comes from a span that holds x
  lower_some : (ss : List Span) → 0 < nearest_lower ss → 0 < holders ss x
  unfolding nearest_lower
  lower_some [] some = some
  lower_some (s ∷ ss) some =
      ⊎_elim
      (λ held. omega (arith, count_cons (λ r. holds r x) s ss, ap (λ (b : Bool). cond {A = ℕ} b 1 0) held))
      (λ missed. omega (arith, count_no (λ r. holds r x) s ss missed, lower_some ss (rw missed at some)))
      (cases_Bool (holds s x))

  -- it is the lower end of one of the spans, if one holds x
  pub lower_of_one : (P : ℕ → Type 0) (ss : List Span) → 0 < holders ss x → AllByRecursion (λ s. P s.lower) ss → P (nearest_lower ss)
  unfolding nearest_lower
  lower_of_one P [] some all = absurd (omega arith)
  lower_of_one P (s ∷ ss) some (here, rest) =
      cond_both (holds s x) _ _ P
      (λ _. max_either P s.lower (nearest_lower ss) here (λ above. lower_of_one P ss (lower_some ss (omega arith)) rest))
      (λ missed. lower_of_one P ss (omega (arith, count_no (λ r. holds r x) s ss missed)) rest)

  -- x does not pass it
  pub top_above : (ss : List Span) → AtMost x (nearest_top ss)
  unfolding nearest_top
  top_above [] = tt
  top_above (s ∷ ss) =
      cond_both (holds s x) _ _ (AtMost x)
      (λ held. least_top_both x s.top (nearest_top ss) ((holds_decides s x).0 held).1 (top_above ss))
      (λ _. top_above ss)

  -- no span that holds x has its top below the nearest one
  pub no_top_below : (t : Top) (ss : List Span) → ((l : ℕ) → AtMost l t → AtMost l (nearest_top ss)) → AllByRecursion (λ s. holds s x ≡ true → (l : ℕ) → AtMost l t → AtMost l s.top) ss
  unfolding nearest_top
  no_top_below t [] below = tt
  no_top_below t (s ∷ ss) below = (
    λ held l le. (least_top_parts l s.top (nearest_top ss) (rw held at (below l le))).0,
    no_top_below t ss (λ l le. cond_both (holds s x) _ _ (λ r. AtMost l r → AtMost l (nearest_top ss)) (λ _ both. (least_top_parts l s.top (nearest_top ss) both).1) (λ _ same. same) (below l le)),
  )

  -- it is open, or the top of one of the spans
  pub top_of_one : (P : Top → Type 0) (ss : List Span) → P Open → AllByRecursion (λ s. P s.top) ss → P (nearest_top ss)
  unfolding nearest_top
  top_of_one P [] none all = none
  top_of_one P (s ∷ ss) none (here, rest) =
      let below = top_of_one P ss none rest in
      cond_both (holds s x) _ _ P (λ _. least_top_either P s.top (nearest_top ss) here below) (λ _. below)
