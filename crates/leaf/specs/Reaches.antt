-- Below the reach of a tier no code comes that the tail admits.
use Rattle.std.specs.Prelude.{◌≡◌, ℕ, ◌<◌, ◌≤◌, false, ltb, ◌⊎◌, List, [], ◌∷◌, ◌++◌, Some, None, filter, Option, nat_lt, refl}
use Rattle.std.proofs.Common.{sym, ap, subst, ◌∙◌, inl, inr, ⊎_elim, arith, le_refl}
use Rattle.std.specs.List.{ContainsAt, AllByRecursion}
use Rattle.std.proofs.lemmas.List.Elements.{filter-append}
use Rattle.std.proofs.ByRecursion.{all-has, all_kept_by, All-push}
use Rattle.std.proofs.lemmas.List.{append-nil}
use Rattle.std.proofs.lemmas.Bool.{and_right, cond_both, cond-false, le-ltb, lt-leb, ltb-false, ltb-true}
use Rattle.interval.specs.declared.top.Top.{Top}
use Rattle.interval.specs.declared.top.Top.TheVariants.{Closed, Open}
use Rattle.interval.specs.Spans.{Span}
use Rattle.leaf.specs.declared.breakpoint.Breakpoint.{Breakpoint}
use Rattle.leaf.specs.declared.cell.Cell.{Cell}
use Rattle.leaf.specs.Lasts.{last_of}
use Rattle.leaf.specs.Breakpoints.{times}
use Rattle.leaf.specs.Cells.{admits, cells, cells_from, closed_cells, cell_between, last_highest, last_time, tail}
use Rattle.leaf.specs.Searches.{admitting}
use Rattle.leaf.specs.Tiers.{by_code, spanned, tier_reach}
use Rattle.leaf.specs.BreakpointsLemmas.{Chain, Ruled}
use Rattle.leaf.specs.LastsLemmas.{last_all}

module _ (h : ℕ) where
  -- the breakpoints that have only codes above h
  abbrev above : List Breakpoint → List Breakpoint
  above bs = filter (λ b. ltb h b.lowest) bs

  -- the time of the last of them, else t
  abbrev last_above : ℕ → List Breakpoint → ℕ
  last_above t bs = last_of t (times (above bs))

  -- codes do not rise, so after a breakpoint that is not one of them there is none of them
  none_above : (b : Breakpoint) (bs : List Breakpoint) → Chain b bs → b.lowest ≤ h → above bs ≡ []
  none_above b [] chain low = refl
  none_above b (c ∷ bs) (next, chain) low =
      let low' : c.lowest ≤ h = omega (arith, next.lowest) in
      cond-false (nat_lt h c.lowest) _ _ (le-ltb _ _ low') ∙ none_above c bs chain low'

  -- a cell between breakpoints starts at that time or later, or admits only codes above h
  past_or_above : (t : ℕ) (b : Breakpoint) (bs : List Breakpoint) → Chain b bs → t ≤ b.time → AllByRecursion (λ e. (last_above t bs ≤ e.from) ⊎ (h < e.lowest)) (cells_from b bs)
  past_or_above t b [] chain early = tt
  past_or_above t b (c ∷ bs) (next, chain) early =
      cond_both (nat_lt h c.lowest) (c ∷ above bs) (above bs)
      (λ ks. AllByRecursion (λ e. (last_of t (times ks) ≤ e.from) ⊎ (h < e.lowest)) (cell_between b c ∷ cells_from c bs))
      (λ yes. (inr (ltb-true _ _ yes), past_or_above c.time c bs chain (le_refl _)))
      (λ no.
      let none = none_above c bs chain (ltb-false _ _ no) in
      (inl (subst (λ ks. last_of t (times ks) ≤ b.time) (sym none) early), past_or_above t c bs chain (omega (arith, next.later))))

  -- that time is no later than the last breakpoint
  above_early : (t : ℕ) (b : Breakpoint) (bs : List Breakpoint) → Chain b bs → t ≤ b.time → last_above t bs ≤ last_of b.time (times bs)
  above_early t b [] chain early = early
  above_early t b (c ∷ bs) (next, chain) early =
      cond_both (nat_lt h c.lowest) _ _ (λ ks. last_of t (times ks) ≤ last_of c.time (times bs))
      (λ _. above_early c.time c bs chain (le_refl _))
      (λ _. above_early t c bs chain (omega (arith, next.later)))

-- the reach is no later than the last breakpoint
pub reach_early : (bs : List Breakpoint) → Ruled bs → tier_reach bs ≤ last_time bs
reach_early [] ruled = le_refl _
reach_early (b ∷ bs) (_, _, chain) =
    cond_both (nat_lt (last_highest (b ∷ bs)) b.lowest) _ _ (λ ks. last_of 0 (times ks) ≤ last_time (b ∷ bs))
    (λ _. above_early _ b.time b bs chain (le_refl _))
    (λ _. above_early _ 0 b bs chain (omega arith))

-- a cell starts at the reach or later, or admits no code that the tail does
closed_past : (bs : List Breakpoint) → Ruled bs → AllByRecursion (λ e. (tier_reach bs ≤ e.from) ⊎ (last_highest bs < e.lowest)) (closed_cells bs)
closed_past [] ruled = tt
closed_past (b ∷ bs) (_, _, chain) =
    cond_both (nat_lt (last_highest (b ∷ bs)) b.lowest) _ _ (λ ks. AllByRecursion (λ e. (last_of 0 (times ks) ≤ e.from) ⊎ (last_highest (b ∷ bs) < e.lowest)) (cells_from b bs))
    (λ _. past_or_above _ b.time b bs chain (le_refl _))
    (λ _. past_or_above _ 0 b bs chain (omega arith))

-- so a code that an outage below the reach may leave is above all that the tail admits
pub above_tail : (bs : List Breakpoint) (c : Cell) (v d : ℕ) → Ruled bs → ContainsAt (cells bs) c → c.from ≤ d → c.lowest ≤ v → d < tier_reach bs → last_highest bs < v
above_tail bs c v d ruled has from low near =
    let past : AllByRecursion (λ e. (tier_reach bs ≤ e.from) ⊎ (last_highest bs < e.lowest)) (cells bs) = All-push _ (closed_cells bs) (tail bs) (closed_past bs ruled) (inl (reach_early bs ruled)) in
    ⊎_elim (λ late. absurd (omega arith)) (λ high. omega arith) (all-has _ (cells bs) c past has)

abbrev IsClosed : Top → Type 0
IsClosed (Closed t) = Unit {0}
IsClosed Open = ⊥

all_closed : (b : Breakpoint) (bs : List Breakpoint) → AllByRecursion (λ e. IsClosed e.to) (cells_from b bs)
all_closed b [] = tt
all_closed b (c ∷ bs) = (tt, all_closed c bs)

closed_all : (bs : List Breakpoint) → AllByRecursion (λ e. IsClosed e.to) (closed_cells bs)
closed_all [] = tt
closed_all (b ∷ bs) = all_closed b bs

-- the top is closed, if there is a span
abbrev pub ClosedTop : Option Span → Type 0
ClosedTop None = Unit {0}
ClosedTop (Some s) = IsClosed s.top

spanned_closed : (cs : List Cell) → AllByRecursion (λ e. IsClosed e.to) cs → ClosedTop (spanned cs)
spanned_closed [] closed = tt
spanned_closed (c ∷ cs) (first, rest) = last_all (λ e. IsClosed e.to) c cs first rest

-- a code above all that the tail admits gets a closed top
pub closed_above : (bs : List Breakpoint) (v : ℕ) → last_highest bs < v → ClosedTop (by_code bs v)
closed_above bs v high =
    let refused : admits v (tail bs) ≡ false = and_right _ _ (lt-leb _ _ high) in
    let e : admitting v (cells bs) ≡ admitting v (closed_cells bs) =
    filter-append (admits v) (closed_cells bs) (tail bs ∷ [])
    ∙ ap (λ ks. admitting v (closed_cells bs) ++ ks) (cond-false (admits v (tail bs)) _ _ refused)
    ∙ append-nil _ in
    subst (λ ks. ClosedTop (spanned ks)) (sym e) (spanned_closed _ (all_kept_by (admits v) _ (closed_cells bs) (closed_all bs)))
