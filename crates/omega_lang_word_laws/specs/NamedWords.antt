-- Words over names. Automata share the propositions that have one name, whatever their numbers are (HOA v1, AP).
use Rattle.std.specs.Prelude.{◌≡◌, ◌<◌, ◌↔◌, ℕ, Bool, List, [], length, slice_index_or, Contains}
use Rattle.omega_text.specs.NamedWords.{NamedWord, RepeatsItself}
use Rattle.omega_hoa_automaton.specs.Automaton.{Description, IsAutomaton}
use Rattle.omega_lang_runs.specs.Words.{IsAccepted}

-- the part of such a word that an automaton with propositions of these names sees, by their numbers
abbrev pub part_of : List (List ℕ) → NamedWord → ℕ → ℕ → Bool
part_of names word i number = word i (slice_index_or names number [])

-- an automaton accepts its part of such a word
abbrev pub AcceptsNamed : Description → NamedWord → Type 0
AcceptsNamed a word = IsAccepted a (part_of a.propositions word)

-- what an automaton sees of it is
abbrev pub IsPeriodicFor : Description → NamedWord → Type 0
IsPeriodicFor a = RepeatsItself (Contains a.propositions)

-- an automaton sees the same of two words by numbers: each of its propositions holds in both or in neither
abbrev pub AreSeenAlike : Description → (word other : ℕ → ℕ → Bool) → Type 0
AreSeenAlike a word other =
    (i number : ℕ) → number < length a.propositions → word i number ≡ other i number

-- words over names miss none: what an automaton sees of a word by numbers it sees of some word over names
abbrev pub WordsAreNamed : Type 0
WordsAreNamed =
    (a : Description) (word : ℕ → ℕ → Bool) → IsAutomaton a
    → (named : NamedWord) × AreSeenAlike a (part_of a.propositions named) word

-- whether an automaton accepts a word depends on what it sees of the word alone
abbrev pub WordsSeenAlikeAreOne : Type 0
WordsSeenAlikeAreOne =
    (a : Description) (word other : ℕ → ℕ → Bool) → IsAutomaton a → AreSeenAlike a word other
    → IsAccepted a word ↔ IsAccepted a other
