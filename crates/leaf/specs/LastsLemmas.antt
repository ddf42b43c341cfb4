-- The last element of a list, by its place and by one more at the end.
use Rattle.std.specs.Prelude.{◌≡◌, ℕ, zero, suc, ◌+◌, ◌<◌, Bool, true, false, List, [], ◌∷◌, ◌++◌, map, length, get_or, take, filter, slice_index_or, refl}
use Rattle.std.proofs.Common.{sym, ap, ◌∙◌, arith}
use Rattle.std.specs.List.{AllByRecursion}
use Rattle.std.proofs.lemmas.List.Elements.{filter_more}
use Rattle.std.proofs.lemmas.List.{append-nil, map_push}
use Rattle.std.proofs.lemmas.Bool.{cond-false, cond-true}
use Rattle.leaf.specs.Lasts.{last_of}

-- of the values of f, the last is that at the last element
pub last_read : {X Y : Type 0} (f : X → Y) (d : Y) (xs : List X) (k : ℕ) (x : X) → k + 1 ≡ length xs → x ≡ slice_index_or xs k x → f x ≡ last_of d (map f xs)
last_read f d [] k x end read = absurd (omega arith)
last_read f d (y ∷ []) zero x end read = ap f read
last_read f d (y ∷ []) (suc k) x end read = absurd (omega arith)
last_read f d (y ∷ z ∷ zs) zero x end read = absurd (omega arith)
last_read f d (y ∷ z ∷ zs) (suc k) x end read = last_read f (f y) (z ∷ zs) k x (omega arith) read

-- one more at the end is the last
last_push : {X : Type 0} (d : X) (xs : List X) (x : X) → last_of d (xs ++ x ∷ []) ≡ x
last_push d [] x = refl
last_push d (y ∷ ys) x = last_push y ys x

-- what holds of all holds of the last
pub last_all : {X : Type 0} (P : X → Type 0) (x : X) (xs : List X) → P x → AllByRecursion P xs → P (last_of x xs)
last_all P x [] first rest = first
last_all P x (y ∷ ys) first (second, rest) = last_all P y ys second rest

-- of those that pass a test, one element more: if it passes it is the last, and else the last stays
module _ {X : Type 0} (p : X → Bool) (f : X → ℕ) (xs : List X) (i : ℕ) (x : X) (within : i < length xs) where
  pub last_passes : p (slice_index_or xs i x) ≡ true → f (slice_index_or xs i x) ≡ last_of 0 (map f (filter p (take (i + 1) xs)))
  last_passes passes =
      let kept = filter p (take i xs) in
      let here = get_or xs i x in
      let more = filter_more p xs i x within ∙ ap (λ ys. kept ++ ys) (cond-true (p here) _ _ passes) in
      sym (ap (λ ys. last_of 0 (map f ys)) more ∙ ap (last_of 0) (map_push f kept here) ∙ last_push 0 (map f kept) (f here))

  pub last_stays : p (slice_index_or xs i x) ≡ false → last_of 0 (map f (filter p (take i xs))) ≡ last_of 0 (map f (filter p (take (i + 1) xs)))
  last_stays fails =
      let kept = filter p (take i xs) in
      let more = filter_more p xs i x within ∙ ap (λ ys. kept ++ ys) (cond-false (p (slice_index_or xs i x)) _ _ fails) ∙ append-nil kept in
      sym (ap (λ ys. last_of 0 (map f ys)) more)
