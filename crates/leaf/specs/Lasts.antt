-- The last element of a list.
use Rattle.std.specs.Prelude.{List, [], ◌∷◌}

-- the last of the list, or `x` where it is empty
abbrev pub last_of : {X : Type 0} → X → List X → X
last_of x [] = x
last_of x (y ∷ ys) = last_of y ys
