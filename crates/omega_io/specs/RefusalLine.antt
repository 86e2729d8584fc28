-- The line that the program prints for a refusal.
use Rattle.std.specs.Prelude.{ℕ, List, [], ◌++◌, Option, Some, None, codes, decimal}
use Rattle.omega_text.specs.Refusal.{name_of, number_of, place_of}
use Rattle.omega_text.specs.declared.refusal.Refusal.{Refusal}

-- the part of the line with the place of a refusal
abbrev pub place_text : Option ℕ → List ℕ
place_text None = []
place_text (Some place) = codes " at " ++ decimal place

-- the line that the program prints for a refusal
abbrev pub line_of : Refusal → List ℕ
line_of refusal =
    codes "omega: " ++ decimal (number_of refusal) ++ codes " " ++ name_of refusal
    ++ place_text (place_of refusal) ++ codes "\n"
