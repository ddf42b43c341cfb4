-- The least and the greatest of a list of numbers, a filter after a map, and what holds of each element that a filter or a map gives.
use Rattle.std.proofs.Common.{◌≡◌, ℕ, ◌≤◌, min, max, Bool, true, List, [], ◌∷◌, map, Some, None, Option, unwrap_or, sym, refl, ap, ◌∙◌, subst, le_refl, arith}
use Rattle.std.specs.List.{AllByRecursion, cons_option, filter, filter_map, fold, reduce}
use Rattle.std.proofs.lemmas.Bool.{cond_both, false≢true}
use Rattle.std.proofs.lemmas.Option.{none-some}

-- what f keeps of two numbers, it keeps of all of a list
pub fold_keeps : (f : ℕ → ℕ → ℕ) (P : ℕ → Type 0) → ((m n : ℕ) → P m → P n → P (f m n)) → (b : ℕ) (ys : List ℕ) → P b → AllByRecursion P ys → P (fold f b ys)
fold_keeps f P keeps b [] here rest = here
fold_keeps f P keeps b (y ∷ ys) here (next, rest) = fold_keeps f P keeps (f b y) ys (keeps b y here next) rest

-- the least of a number and those of a list passes none of them
pub fold_min-le : (b : ℕ) (ys : List ℕ) → fold min b ys ≤ b
fold_min-le b [] = le_refl b
fold_min-le b (y ∷ ys) = omega (arith, fold_min-le (min b y) ys)

pub fold_min-le_all : (b : ℕ) (ys : List ℕ) → AllByRecursion (λ y. fold min b ys ≤ y) ys
fold_min-le_all b [] = tt
fold_min-le_all b (y ∷ ys) = (omega (arith, fold_min-le (min b y) ys), fold_min-le_all (min b y) ys)

-- and the greatest is passed by none
pub le-fold_max : (b : ℕ) (ys : List ℕ) → b ≤ fold max b ys
le-fold_max b [] = le_refl b
le-fold_max b (y ∷ ys) = omega (arith, le-fold_max (max b y) ys)

pub all_le-fold_max : (b : ℕ) (ys : List ℕ) → AllByRecursion (λ y. y ≤ fold max b ys) ys
all_le-fold_max b [] = tt
all_le-fold_max b (y ∷ ys) = (omega (arith, le-fold_max (max b y) ys), all_le-fold_max (max b y) ys)

-- the least of a list, found by keeping the lesser of what there is so far, if anything, and the next
pub least_given : (ys : List ℕ) → fold (λ least y. Some (min (unwrap_or least y) y)) None ys ≡ reduce min ys
least_given [] = refl
least_given (y ∷ ys) = let same : min y y ≡ y = omega arith in from (min y y) ys ∙ ap (λ b. Some (fold min b ys)) same
  where
    from : (b : ℕ) (ys : List ℕ) → fold (λ least y. Some (min (unwrap_or least y) y)) (Some b) ys ≡ Some (fold min b ys)
    from b [] = refl
    from b (y ∷ ys) = from (min b y) ys

-- a filter that maps, of a map, is one of the list itself
pub filter_map_mapped : {X Y Z : Type 0} (g : X → Y) (h : Y → Option Z) (xs : List X) → filter_map h (map g xs) ≡ filter_map (λ x. h (g x)) xs
filter_map_mapped g h [] = refl
filter_map_mapped g h (x ∷ xs) = ap (cons_option (h (g x))) (filter_map_mapped g h xs)

-- what holds of each element that is kept holds of each that passes
pub all_passing : {X : Type 0} (p : X → Bool) (P : X → Type 0) (xs : List X) → AllByRecursion P (filter p xs) → AllByRecursion (λ x. p x ≡ true → P x) xs
all_passing p P [] kept = tt
all_passing p P (x ∷ xs) kept =
    cond_both (p x) (x ∷ filter p xs) (filter p xs)
    (λ ys. AllByRecursion P ys → (p x ≡ true → P x) × AllByRecursion (λ y. p y ≡ true → P y) xs)
    (λ _ (here, rest). ((λ _. here), all_passing p P xs rest))
    (λ fails rest. ((λ passes. absurd (false≢true (sym fails ∙ passes))), all_passing p P xs rest))
    kept

-- what holds of each image holds of the image of each
pub all_mapped : {X Y : Type 0} (f : X → Y) (P : Y → Type 0) (xs : List X) → AllByRecursion P (map f xs) → AllByRecursion (λ x. P (f x)) xs
all_mapped f P [] all = tt
all_mapped f P (x ∷ xs) (here, rest) = (here, all_mapped f P xs rest)

-- and of the image of each that has one
pub all_given : {X : Type 0} (h : X → Option ℕ) (P : ℕ → Type 0) (xs : List X) → AllByRecursion P (filter_map h xs) → AllByRecursion (λ x. (t : ℕ) → h x ≡ Some t → P t) xs
all_given h P [] all = tt
all_given h P (x ∷ xs) all = given (h x) (all_given h P xs) all
  where
    given : (o : Option ℕ) → (AllByRecursion P (filter_map h xs) → AllByRecursion (λ x. (t : ℕ) → h x ≡ Some t → P t) xs) → AllByRecursion P (cons_option o (filter_map h xs)) → ((t : ℕ) → o ≡ Some t → P t) × AllByRecursion (λ x. (t : ℕ) → h x ≡ Some t → P t) xs
    given None rest all = ((λ t e. absurd (none-some t e)), rest all)
    given (Some u) rest (here, later) = ((λ t e. let same : u ≡ t = cc in subst P same here), rest later)
