-- What the rules of breakpoints say: the tests as facts.
use Rattle.std.specs.Prelude.{◌≡◌, ℕ, ◌+◌, ◌<◌, ◌≤◌, true, false, ◌&&◌, List, [], ◌∷◌, ◌++◌, length, nat_le, slice_index_or}
use Rattle.std.proofs.Common.{sym, ap, ◌∙◌, arith}
use Rattle.std.proofs.lemmas.List.{length_push, map-id}
use Rattle.std.proofs.lemmas.Bool.{and_parts, and_right, le-leb, leb-true, lt-leb}
use Rattle.std.proofs.lemmas.Bool.Decides.{nat_tests}
use Rattle.leaf.specs.declared.breakpoint.Breakpoint.{Breakpoint}
use Rattle.leaf.specs.Lasts.{last_of}
use Rattle.leaf.specs.Breakpoints.{chained, follows, in_rule, latest_time, most_breakpoints, ordered, starts, top_code, within}
use Rattle.leaf.specs.LastsLemmas.{last_read}
use Rattle.std.proofs.Math.Bool.{and-true}

-- a breakpoint by itself: its codes are in order and on the scale, and it is early enough
pub record Within (b : Breakpoint) : Type 0 where
  pub codes : b.lowest ≤ b.highest
  pub low : b.highest ≤ top_code
  pub early : b.time ≤ latest_time

-- c may come after b
pub record Follows (b c : Breakpoint) : Type 0 where
  pub later : b.time < c.time
  pub lowest : c.lowest ≤ b.lowest
  pub highest : c.highest ≤ b.highest
  pub inside : Within c

-- each of the list follows the one before, the first of them b
abbrev pub Chain : Breakpoint → List Breakpoint → Type 0
Chain b [] = Unit {0}
Chain b (c ∷ bs) = Follows b c × Chain c bs

-- the first stands at time 0, and the rest follow
abbrev pub Ruled : List Breakpoint → Type 0
Ruled [] = Unit {0}
Ruled (b ∷ bs) = (b.time ≡ 0) × Within b × Chain b bs

-- what each passed test says
is_within : (b : Breakpoint) → within b ≡ true → Within b
is_within b test = record { codes = grind (arith, nat_tests); low = grind (arith, nat_tests); early = grind (arith, nat_tests) }

is_follows : (b c : Breakpoint) → follows b c ≡ true → Follows b c
is_follows b c test = record {
  later = grind (arith, nat_tests);
  lowest = grind (arith, nat_tests);
  highest = grind (arith, nat_tests);
  inside = is_within c (and_parts _ _ test).1;
}

is_chain : (b : Breakpoint) (bs : List Breakpoint) → chained b bs ≡ true → Chain b bs
is_chain b [] test = tt
is_chain b (c ∷ bs) test =
    let parts = and_parts (follows b c) (chained c bs) test in
    (is_follows b c parts.0, is_chain c bs parts.1)

-- and of all breakpoints together
pub is_ruled : (bs : List Breakpoint) → in_rule bs ≡ true → Ruled bs
is_ruled [] test = tt
is_ruled (b ∷ bs) test =
    let parts = and_parts (starts b) (chained b bs) (and_parts (ordered (b ∷ bs)) (nat_le (length (b ∷ bs)) most_breakpoints) test).0 in
    (grind (arith, nat_tests), is_within b (and_parts _ _ parts.0).1, is_chain b bs parts.1)

-- one more after a chain: it must follow the last
chain_push : (b : Breakpoint) (bs : List Breakpoint) (c : Breakpoint) → chained b bs ≡ true → chained b (bs ++ c ∷ []) ≡ follows (last_of b bs) c
chain_push b [] c rule = and-true (follows b c)
chain_push b (d ∷ bs) c rule =
    let parts = and_parts (follows b d) (chained d bs) rule in
    ap (λ t. t && chained d (bs ++ c ∷ [])) parts.0 ∙ chain_push d bs c parts.1

module _ (bs : List Breakpoint) (b : Breakpoint) where
  -- with room left, only the order of the breakpoints is asked
  room_left : length bs < most_breakpoints → ordered (bs ++ b ∷ []) ≡ in_rule (bs ++ b ∷ [])
  room_left few =
      sym (ap (λ t. ordered (bs ++ b ∷ []) && t) (le-leb _ most_breakpoints (omega (arith, length_push bs b))) ∙ and-true _)

  -- and with none, nothing more is in rule
  pub full_refuses : most_breakpoints ≤ length bs → false ≡ in_rule (bs ++ b ∷ [])
  full_refuses full = sym (and_right (ordered (bs ++ b ∷ [])) _ (lt-leb _ most_breakpoints (omega (arith, length_push bs b))))

  -- so where one more is in rule, there is room for it
  pub room_for : in_rule (bs ++ b ∷ []) ≡ true → length bs < most_breakpoints
  room_for rule =
      let few = leb-true (length (bs ++ b ∷ [])) most_breakpoints (and_parts (ordered (bs ++ b ∷ [])) _ rule).1 in
      omega (arith, length_push bs b)

-- a breakpoint after others is in rule if it may follow the last
pub next_in_rule : (bs : List Breakpoint) (b last : Breakpoint) (k : ℕ) → in_rule bs ≡ true → length bs < most_breakpoints → k + 1 ≡ length bs → last ≡ slice_index_or bs k last → follows last b ≡ in_rule (bs ++ b ∷ [])
next_in_rule [] b last k rule few end read = absurd (omega arith)
next_in_rule (c ∷ bs) b last k rule few end read =
    let parts = and_parts (starts c) (chained c bs) (and_parts (ordered (c ∷ bs)) (nat_le (length (c ∷ bs)) most_breakpoints) rule).0 in
    let same : last ≡ last_of c bs = last_read (λ x. x) c (c ∷ bs) k last end read ∙ ap (last_of c) (map-id (c ∷ bs)) in
    ap (λ x. follows x b) same
    ∙ sym (chain_push c bs b parts.1)
    ∙ ap (λ t. t && chained c (bs ++ b ∷ [])) (sym parts.0)
    ∙ room_left (c ∷ bs) b few
