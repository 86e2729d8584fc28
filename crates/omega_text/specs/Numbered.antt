-- Texts of the items of a list, each with its number.
use Rattle.std.specs.Prelude.{ℕ, ◌+◌, List, [], ◌∷◌, ◌++◌}

-- the texts of the items one after the other, numbered from a first number on
abbrev pub numbered : {X : Type 0} → (ℕ → X → List ℕ) → ℕ → List X → List ℕ
numbered text first [] = []
numbered text first (x ∷ xs) = text first x ++ numbered text (first + 1) xs
