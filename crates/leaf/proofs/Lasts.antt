-- The last element of a list, by its place and by a fold, and of those that pass a test; and tests that pass the same.
use Rattle.std.proofs.Common.{◌≡◌, ℕ, zero, suc, ◌+◌, ◌-◌, ◌<◌, ◌≤◌, Bool, cond, get_or, List, [], ◌∷◌, map, length, slice_get, refl, ap, ◌∙◌, ⊎_elim, arith}
use Rattle.std.specs.List.{filter, fold, range_with_len}
use Rattle.std.specs.Option.{option_map_or}
use Rattle.std.proofs.lemmas.Bool.{cases_Bool}
use Rattle.std.proofs.lemmas.List.{get_or_default}
use Rattle.std.proofs.lemmas.Option.{slice_get-get_or}
use Rattle.leaf.specs.Lasts.{last_of}
use Rattle.leaf.specs.LastsLemmas.{last_read}

-- of the values of f, the last is that at the last place
pub last_place : {X Y : Type 0} (f : X → Y) (d : Y) (xs : List X) → option_map_or f (slice_get xs (length xs - 1)) d ≡ last_of d (map f xs)
last_place f d [] = refl
last_place f d (x ∷ xs) =
    let k = length (x ∷ xs) - 1 in
    let within : k < length (x ∷ xs) = omega arith in
    ap (λ o. option_map_or f o d) (slice_get-get_or (x ∷ xs) k x within)
    ∙ last_read f d (x ∷ xs) k (get_or (x ∷ xs) k x) (omega arith) (get_or_default (x ∷ xs) k x (get_or (x ∷ xs) k x) within)

-- a fold that takes each element that passes, in place of what there was, ends with the last of them
pub last_taken : {X Y : Type 0} (p : X → Bool) (f : X → Y) (d : Y) (xs : List X) → fold (λ last x. cond (p x) (f x) last) d xs ≡ last_of d (map f (filter p xs))
last_taken p f d [] = refl
last_taken p f d (x ∷ xs) =
    ⊎_elim (λ passes. rw passes (last_taken p f (f x) xs)) (λ fails. rw fails (last_taken p f d xs)) (cases_Bool (p x))

-- of the numbers that pass, with one number more: it is the last if it passes, and else the last stays
pub last_more : (p : ℕ → Bool) (k i l : ℕ) → last_of l (filter p (range_with_len i (suc k))) ≡ cond (p (i + k)) (i + k) (last_of l (filter p (range_with_len i k)))
last_more p zero i l =
    let same : i + 0 ≡ i = omega arith in
    rw same (⊎_elim (λ passes. rw passes refl) (λ fails. rw fails refl) (cases_Bool (p i)))
last_more p (suc k) i l =
    let same : i + suc k ≡ i + 1 + k = omega arith in
    rw same (⊎_elim (λ passes. rw passes (last_more p k (i + 1) i)) (λ fails. rw fails (last_more p k (i + 1) l)) (cases_Bool (p i)))

-- a fold that takes each element in place of what there was ends with the last
pub last_kept : {X : Type 0} (d : X) (xs : List X) → fold (λ _ x. x) d xs ≡ last_of d xs
last_kept d [] = refl
last_kept d (x ∷ xs) = last_kept x xs

-- two tests that agree on some numbers in a row pass the same of them
pub passing_same : (p q : ℕ → Bool) (k i : ℕ) → ((n : ℕ) → i ≤ n → n < i + k → p n ≡ q n) → filter p (range_with_len i k) ≡ filter q (range_with_len i k)
passing_same p q zero i same = refl
passing_same p q (suc k) i same =
    let rest = passing_same p q k (i + 1) (λ n from below. same n (omega arith) (omega arith)) in
    rw (same i (omega arith) (omega arith)) (ap (λ ns. cond (q i) (i ∷ ns) ns) rest)
