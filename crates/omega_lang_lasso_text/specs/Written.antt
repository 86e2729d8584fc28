-- The written form of a lasso: a line for its stem and one for its cycle, by the numbers of their edges.
use Rattle.std.specs.Prelude.{◌++◌, List, ℕ, codes, decimal}
use Rattle.std.specs.List.{flat_map}

-- the numbers of edges, a space before each
abbrev pub numbers_text : List ℕ → List ℕ
numbers_text numbers = flat_map (λ number. codes " " ++ decimal number) numbers

-- the lines of a stem and of a cycle
abbrev pub lasso_text : List ℕ → List ℕ → List ℕ
lasso_text stem cycle =
    codes "stem" ++ (numbers_text stem ++ (codes "\ncycle" ++ (numbers_text cycle ++ codes "\n")))

-- numbers, each after a space and before what follows it
abbrev pub spaced_numbers : List (ℕ × List ℕ) → List ℕ
spaced_numbers items = flat_map (λ item. codes " " ++ (decimal item.0 ++ item.1)) items

-- the lines of a stem and of a cycle, with this at the front and what follows each number
abbrev pub spaced_text : List ℕ → (stem cycle : List (ℕ × List ℕ)) → List ℕ
spaced_text front stem cycle = front ++ (codes "stem"
    ++ (spaced_numbers stem ++ (codes "\ncycle" ++ (spaced_numbers cycle ++ codes "\n"))))
