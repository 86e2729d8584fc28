-- Letters of the environment, by the propositions that hold.
use Rattle.std.specs.Prelude.{ℕ, ◌/◌, ◌%◌, ◌==◌, Bool, if◌then◌else◌, List, [], ◌∷◌, slice_index_or}
use Rattle.std.specs.List.{list_any}

-- whether a proposition holds in a letter, which is given by those that hold
abbrev pub holds_in : List ℕ → ℕ → Bool
holds_in letter p = list_any (λ q. q == p) letter

-- the letter of a question, by the propositions that hold
abbrev pub letter_of : List (List ℕ) → ℕ → List ℕ
letter_of letters question = slice_index_or letters question []

-- the letter with a number over inputs: the binary digits of the number, the lowest first, say which of them hold
abbrev pub letter_numbered : List ℕ → ℕ → List ℕ
letter_numbered [] number = []
letter_numbered (input ∷ inputs) number =
    if number % 2 == 1 then input ∷ letter_numbered inputs (number / 2)
    else letter_numbered inputs (number / 2)
