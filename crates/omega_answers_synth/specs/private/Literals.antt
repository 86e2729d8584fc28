-- The parts of a letter as text.
use Rattle.std.specs.Prelude.{Bool, List, ℕ, ◌++◌, codes}
use Rattle.std.specs.List.{flat_map}
use Rattle.omega_lang_lasso_word.specs.Letters.{label_words}
use Rattle.omega_synth_game.specs.RoundsOf.{holds_in}
use Rattle.omega_synth_text.specs.Winner.{literal}

-- a proposition by its name if it holds, else its negation
abbrev pub literal_words : (names : List (List ℕ)) → Bool → ℕ → List ℕ
literal_words names holds p = label_words 1 names (literal holds p)

-- the literals of propositions in a letter, ` & ` before each
abbrev pub literals_after : (names : List (List ℕ)) → (letter : List ℕ) → List ℕ → List ℕ
literals_after names letter others =
    flat_map (λ p. codes " & " ++ literal_words names (holds_in letter p) p) others
