-- The path of a fault: the places of the parts on the way down, the outermost first, as the base-4 digits of one number.
use Rattle.std.specs.Prelude.{◌≡◌, ℕ, zero, suc, ◌+◌, ◌*◌, ◌^◌, ◌<◌, ◌≤◌, cond, List, [], ◌∷◌, length, nat_le, nat_lt}
use Rattle.std.specs.List.{AllByRecursion}
use Rattle.gauge.specs.declared.path.Path.{Path}
use Rattle.gauge.specs.declared.path.Place.{Place}
use Rattle.gauge.specs.declared.path.Place.TheVariants.{First, Second, Third}

-- the most digits of a path
abbrev pub most_digits : ℕ
most_digits = 15

abbrev pub place_digit : Place → ℕ
place_digit First = 1
place_digit Second = 2
place_digit Third = 3

abbrev pub path : ℕ → Path
path n = record { number = n }

-- no digits
abbrev pub start : Path
start = path 0

-- how many of 1, 4, 16 and so on, the first k powers of four, the number n reaches
abbrev pub digits_below : ℕ → ℕ → ℕ
digits_below zero n = 0
digits_below (suc k) n = digits_below k n + cond (nat_le (4 ^ k) n) 1 0

-- how many base-4 digits n has, counted up to fifteen
abbrev pub digits : ℕ → ℕ
digits n = digits_below most_digits n

-- the digit p goes in front of those of n; after fifteen digits the number stays
abbrev pub in_front : ℕ → ℕ → ℕ
in_front p n = cond (nat_lt (digits n) most_digits) (p * 4 ^ digits n + n) n

-- the path of a fault that the part at place p hands up
abbrev pub under : ℕ → Path → Path
under p at = path (in_front p at.number)

-- the number whose base-4 digits are these places
abbrev pub places_number : List ℕ → ℕ
places_number [] = 0
places_number (p ∷ ps) = p * 4 ^ length ps + places_number ps

-- a place is 1, 2 or 3
abbrev pub IsPlace : ℕ → Type 0
IsPlace p = (1 ≤ p) × (p ≤ 3)

-- what the numbers mean: a path is a list of at most fifteen places
pub record PathLaws : Type 0 where
  -- with fewer than fifteen places, one more stands in front of them
  pub grows : (p : ℕ) (ps : List ℕ) → AllByRecursion IsPlace ps → length ps < most_digits → in_front p (places_number ps) ≡ places_number (p ∷ ps)
  -- with fifteen it stays
  pub stays : (p : ℕ) (ps : List ℕ) → AllByRecursion IsPlace ps → length ps ≡ most_digits → in_front p (places_number ps) ≡ places_number ps
