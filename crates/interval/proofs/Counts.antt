-- Counts of what passes a test: one element more, a weaker test, and images of elements.
use Rattle.std.proofs.Common.{◌≡◌, ℕ, ◌+◌, ◌≤◌, Bool, true, false, cond, List, [], ◌∷◌, count_by, map, refl, sym, ap, ◌∙◌, arith}
use mathlib.Core.List.{map-map}
use Rattle.std.specs.List.{AllByRecursion, sum}
use Rattle.std.proofs.lemmas.List.Sums.{sum-map, sum_by-cons}

-- one element in front
pub count_cons : {X : Type 0} (p : X → Bool) (x : X) (xs : List X) → count_by p (x ∷ xs) ≡ cond (p x) 1 0 + count_by p xs
count_cons p x xs = sum_by-cons (λ y. cond (p y) 1 0) x xs

-- one in front that fails adds nothing
pub count_no : {X : Type 0} (p : X → Bool) (x : X) (xs : List X) → p x ≡ false → count_by p (x ∷ xs) ≡ count_by p xs
count_no p x xs fails = omega (arith, count_cons p x xs, ap (λ (b : Bool). cond {A = ℕ} b 1 0) fails)

-- a test that passes wherever another does counts no fewer
pub counts_no_fewer : {X : Type 0} (p r : X → Bool) (xs : List X) → AllByRecursion (λ x. p x ≡ true → r x ≡ true) xs → count_by p xs ≤ count_by r xs
counts_no_fewer p r [] all = omega arith
counts_no_fewer p r (x ∷ xs) (here, rest) =
    let step : cond (p x) 1 0 ≤ cond (r x) 1 0 = one (p x) (r x) here in
    omega (arith, count_cons p x xs, count_cons r x xs, counts_no_fewer p r xs rest)
  where
    one : (a b : Bool) → (a ≡ true → b ≡ true) → cond a 1 0 ≤ cond b 1 0
    one true b h = rw (h refl) (omega arith)
    one false b h = omega arith

-- the images that pass are as many as the elements whose images do
pub count_mapped : {X Y : Type 0} (g : X → Y) (p : Y → Bool) (xs : List X) → count_by p (map g xs) ≡ count_by (λ x. p (g x)) xs
count_mapped g p xs =
    let one = λ (b : Bool). cond {A = ℕ} b 1 0 in
    sym (sum-map (λ y. one (p y)) (map g xs)) ∙ ap sum (map-map (λ y. one (p y)) g xs) ∙ sum-map (λ x. one (p (g x))) xs
