-- A letter of the environment as text, by the names of its propositions.
use Rattle.std.specs.Prelude.{List, ℕ}
use Rattle.omega_hoa_automaton.specs.Automaton.{Description}
use Rattle.omega_lang_lasso_word.specs.Letters.{label_words}
use Rattle.omega_synth_game.specs.RoundsOf.{holds_in}
use Rattle.omega_synth_text.specs.Winner.{inputs_of, letter_label}

-- a letter, which is given by the propositions that hold: what holds of each proposition that the system does not
-- control, in their order, as a label in words of lassos
abbrev pub letter_text : Description → (controlled letter : List ℕ) → List ℕ
letter_text a controlled letter =
    label_words 0 a.propositions (letter_label (holds_in letter) (inputs_of a controlled))
