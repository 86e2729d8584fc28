-- Laws of the words that the letters of a lasso admit.
use Rattle.std.specs.Prelude.{◌≡◌, ◌↔◌, ℕ, Bool, true, false, List, [], ◌∷◌, get_or, Some}
use Rattle.std.specs.List.{AllByRecursion}
use Rattle.omega_text.specs.hoa.Forms.{IsQuotable}
use Rattle.omega_hoa_automaton.specs.Automaton.{BodyEdge, Description, edge_at}
use Rattle.omega_hoa_automaton.specs.Branching.{has_universal_branching}
use Rattle.omega_lang_runs.specs.Lasso.{IsAcceptingLasso}
use Rattle.omega_lang_runs.specs.Words.{CanBeTaken, IsAccepted}
use Rattle.omega_lang_lasso_word.specs.Letters.{letter_text}
use Rattle.omega_lang_lasso_word.specs.WordText.{word_text}
use Rattle.omega_lang_lasso_word.specs.Formulas.{HasTruth, formula}
use Rattle.omega_lang_lasso_word.specs.Fitting.{Fits, along}

-- each word that the letters along an accepting lasso admit is accepted
abbrev pub AdmittedWordsAreAccepted : Type 0
AdmittedWordsAreAccepted =
    (a : Description) (stem : List ℕ) (first : ℕ) (others : List ℕ) (word : ℕ → ℕ → Bool)
    → has_universal_branching a ≡ false → IsAcceptingLasso a stem (first ∷ others)
    → ((i : ℕ) → CanBeTaken a (along first others stem i) (word i)) → IsAccepted a word

-- the names of the propositions are strings, as in each text of an automaton
abbrev pub HasStrings : Description → Type 0
HasStrings a = AllByRecursion IsQuotable a.propositions

-- the propositions that hold if the names hold of which `held` says so
abbrev pub by_number : Description → (List ℕ → Bool) → ℕ → Bool
by_number a held p = held (get_or a.propositions p [])

-- a text has at most one truth: no two readings of it differ
abbrev pub TextsHaveOneTruth : Type 0
TextsHaveOneTruth =
    (held : List ℕ → Bool) (text : List ℕ) (one other : Bool)
    → HasTruth held formula text one → HasTruth held formula text other → one ≡ other

-- the letter of an edge is a formula, and it is true exactly where the edge can be taken
abbrev pub LettersAreTrueWhereEdgesCanBeTaken : Type 0
LettersAreTrueWhereEdgesCanBeTaken =
    (a : Description) (number : ℕ) (edge : BodyEdge) (held : List ℕ → Bool) → HasStrings a
    → edge_at a number ≡ Some edge
    → (value : Bool) × HasTruth held formula (letter_text a number) value
    × ((value ≡ true) ↔ CanBeTaken a number (by_number a held))

-- a word fits the text of an accepting lasso exactly if the edges along the lasso can be taken with it
abbrev pub WordsFitWhereEdgesCanBeTaken : Type 0
WordsFitWhereEdgesCanBeTaken =
    (a : Description) (stem : List ℕ) (first : ℕ) (others : List ℕ) (word : ℕ → List ℕ → Bool)
    → HasStrings a → IsAcceptingLasso a stem (first ∷ others)
    → Fits (word_text a stem (first ∷ others)) word
    ↔ ((i : ℕ) → CanBeTaken a (along first others stem i) (by_number a (word i)))

-- each word that fits the text of an accepting lasso is accepted
abbrev pub FittingWordsAreAccepted : Type 0
FittingWordsAreAccepted =
    (a : Description) (stem : List ℕ) (first : ℕ) (others : List ℕ) (word : ℕ → List ℕ → Bool)
    → HasStrings a → has_universal_branching a ≡ false → IsAcceptingLasso a stem (first ∷ others)
    → Fits (word_text a stem (first ∷ others)) word → IsAccepted a (λ i. by_number a (word i))
