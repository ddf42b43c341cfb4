-- Whatever lies in at least q of the spans has a lower end at or below it, and a closed top at or above it unless
-- q tops are open, that lie in at least q of them too. So the search need try no other times.
use Rattle.std.proofs.Common.{◌≡◌, ℕ, ◌+◌, ◌<◌, ◌≤◌, min, max, true, List, [], ◌∷◌, map, Some, None, Option, sym, refl, subst, ⊎_elim, le_trans, le_refl, arith}
use Rattle.std.specs.List.{AllByRecursion, filter, filter_map, fold, reduce}
use Rattle.std.proofs.ByRecursion.{All-weaker, kept_by_passes}
use Rattle.std.proofs.lemmas.Bool.{cases_lt, le-leb, leb-true}
use Rattle.std.proofs.lemmas.Option.{none-some}
use Rattle.interval.specs.declared.top.Top.{Top}
use Rattle.interval.specs.declared.top.Top.TheVariants.{Closed, Open}
use Rattle.interval.specs.Tops.{AtMost, is_open, closed_time}
use Rattle.interval.specs.Spans.{Span, holds}
use Rattle.interval.specs.Meetings.{holders, open_tops, Quorate, quorate}
use Rattle.interval.specs.Ends.{LeastPoint, GreatestPoint}
use Rattle.interval.proofs.Counts.{counts_no_fewer}
use Rattle.interval.proofs.Numbers.{max_either, min_either}
use Rattle.interval.proofs.Nearest.{nearest_lower, lower_below, holds_from_lower, lower_of_one, nearest_top, top_above, no_top_below, top_of_one}
use Rattle.interval.proofs.Lists.{all_given, all_le-fold_max, all_mapped, all_passing, fold_keeps, fold_min-le, fold_min-le_all, le-fold_max}
use Rattle.interval.proofs.Spans.{holds_decides}

-- a top that no time passes is open
open_above : (t : Top) → ((l : ℕ) → AtMost l t) → is_open t ≡ true
open_above (Closed t) all = absurd (omega (arith, all (t + 1)))
open_above Open all = refl

module _ (ss : List Span) (q : ℕ) where
  -- below every quorate point lies a quorate lower end
  lower_quorate : (x : ℕ) → Quorate ss q x → Quorate ss q (nearest_lower x ss)
  lower_quorate x enough =
      le_trans enough
      (counts_no_fewer (λ s. holds s x) (λ s. holds s (nearest_lower x ss)) ss (holds_from_lower x (nearest_lower x ss) ss (le_refl _) (lower_below x ss)))

  -- the least of the quorate lower ends
  abbrev pub LeastOf : Option ℕ → Type 0
  LeastOf (Some b) = Quorate ss q b × AllByRecursion (λ s. Quorate ss q s.lower → b ≤ s.lower) ss
  LeastOf None = AllByRecursion (λ s. Quorate ss q s.lower → ⊥) ss

  -- it is what the search among the lower ends finds
  pub least_of : LeastOf (reduce min (filter (quorate ss q) (map (λ s. s.lower) ss)))
  least_of = found (filter (quorate ss q) (map (λ s. s.lower) ss)) refl
    where
      found : (ys : List ℕ) → filter (quorate ss q) (map (λ (s : Span). s.lower) ss) ≡ ys → LeastOf (reduce min ys)
      found [] is = All-weaker _ _ (λ s none enough. none (le-leb _ _ enough)) ss (all_mapped (λ (s : Span). s.lower) _ ss (all_passing (quorate ss q) (λ _. ⊥) _ (subst (AllByRecursion (λ _. ⊥)) (sym is) tt)))
      found (y ∷ ys) is =
          let enough = subst (AllByRecursion (λ t. quorate ss q t ≡ true)) is (kept_by_passes (quorate ss q) _) in
          let b = fold min y ys in (
            fold_keeps min (Quorate ss q) (min_either (Quorate ss q)) y ys (leb-true _ _ enough.0) (All-weaker _ _ (λ t passes. leb-true _ _ passes) ys enough.1),
            All-weaker _ _ (λ s bound enough. bound (le-leb _ _ enough)) ss
                (all_mapped (λ (s : Span). s.lower) _ ss (all_passing (quorate ss q) (λ t. b ≤ t) _ (subst (AllByRecursion (λ t. b ≤ t)) (sym is) (fold_min-le y ys, fold_min-le_all y ys)))),
          )

  -- it is the least quorate point
  pub least_end : 0 < q → (r : Option ℕ) → LeastOf r → LeastPoint ss q r
  least_end some (Some b) (enough, least) = (
    enough,
    λ x enough'.
        le_trans
        (lower_of_one x (λ l. Quorate ss q l → b ≤ l) ss (omega arith) least (lower_quorate x enough'))
        (lower_below x ss),
  )
  least_end some None none =
      λ x.
      ⊎_elim (λ few. few)
      (λ enough'. absurd (lower_of_one x (λ l. Quorate ss q l → ⊥) ss (omega arith) none (lower_quorate x enough')))
      (cases_lt (holders ss x) q)

  -- a closed top that lies in at least q of the spans is no more than b
  abbrev pub TopBy : ℕ → Top → Type 0
  TopBy b top = (t : ℕ) → closed_time top ≡ Some t → Quorate ss q t → t ≤ b

  -- the greatest of floor and the quorate closed tops
  pub record GreatestOf (floor b : ℕ) : Type 0 where
    pub above : floor ≤ b
    pub enough : Quorate ss q floor → Quorate ss q b
    pub greatest : AllByRecursion (λ s. TopBy b s.top) ss

  -- it is what the search among the closed tops finds
  pub greatest_of : (floor : ℕ) → GreatestOf floor (fold max floor (filter (quorate ss q) (filter_map (λ s. closed_time s.top) ss)))
  greatest_of floor =
      let ys = filter (quorate ss q) (filter_map (λ s. closed_time s.top) ss) in
      record {
        above = le-fold_max floor ys;
        enough = λ enough. fold_keeps max (Quorate ss q) (λ m n here next. max_either (Quorate ss q) m n here (λ _. next)) floor ys enough (All-weaker _ _ (λ t passes. leb-true _ _ passes) ys (kept_by_passes (quorate ss q) _));
        greatest = All-weaker _ _ (λ s bound t closed enough. bound t closed (le-leb _ _ enough)) ss (all_given (λ s. closed_time s.top) _ ss (all_passing (quorate ss q) (λ t. t ≤ fold max floor ys) _ (all_le-fold_max floor ys)));
      }

  -- above every quorate point lies a quorate closed top, unless q tops are open
  top_quorate : (x b : ℕ) → open_tops ss < q → Quorate ss q x → (t : Top) → nearest_top x ss ≡ t → AtMost x t → TopBy b t → x ≤ b
  top_quorate x b few enough (Closed t) is below bound =
      let tops = no_top_below x (Closed t) ss (λ l le. subst (AtMost l) (sym is) le) in
      let held = All-weaker _ _ (λ s top h. (holds_decides s t).1 (le_trans ((holds_decides s x).0 h).0 below, top h t (le_refl t))) ss tops in
      le_trans below (bound t refl (le_trans enough (counts_no_fewer (λ s. holds s x) (λ s. holds s t) ss held)))
  top_quorate x b few enough Open is below bound =
      let tops = no_top_below x Open ss (λ l le. subst (AtMost l) (sym is) le) in
      let opens : AllByRecursion (λ s. holds s x ≡ true → is_open s.top ≡ true) ss = All-weaker _ _ (λ s top h. open_above s.top (λ l. top h l tt)) ss tops in
      absurd (omega (arith, counts_no_fewer (λ s. holds s x) (λ s. is_open s.top) ss opens))

  -- it is the greatest quorate point, unless q tops are open
  pub greatest_end : (floor b : ℕ) → GreatestOf floor b → GreatestPoint ss q floor b
  greatest_end floor b kept = record {
    above = kept.above;
    enough = kept.enough;
    greatest = λ few x enough. top_quorate x b few enough (nearest_top x ss) refl (top_above x ss) (top_of_one x (TopBy b) ss (λ u e enough. absurd (none-some u e)) kept.greatest);
  }
