-- The numbers of a list that have a property.
use Rattle.std.specs.Prelude.{◌≡◌, ◌⊎◌, ℕ, List, [], ◌∷◌}

-- the chosen numbers are those of a list that have the property, in the order of the list
abbrev pub AreThoseWith : (ℕ → Type 0) → List ℕ → List ℕ → Type 0
AreThoseWith P [] chosen = chosen ≡ []
AreThoseWith P (number ∷ numbers) chosen =
    ((rest : List ℕ) × P number × (chosen ≡ number ∷ rest) × AreThoseWith P numbers rest)
    ⊎ ((P number → ⊥) × AreThoseWith P numbers chosen)
