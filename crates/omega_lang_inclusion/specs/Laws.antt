-- Laws of symbolic words: of their automata, and of those of which an automaton sees one word at most.
use Rattle.std.specs.Prelude.{◌↔◌}
use Rattle.omega_hoa_automaton.specs.Automaton.{Description, IsAutomaton}
use Rattle.omega_lang_lasso_word.specs.Admitted.{Admits}
use Rattle.omega_lang_lasso_word.specs.declared.symbolic_word.SymbolicWord.{SymbolicWord}
use Rattle.omega_text.specs.NamedWords.{NamedWord}
use Rattle.omega_lang_word_laws.specs.NamedWords.{AcceptsNamed}
use Rattle.omega_lang_inclusion.specs.OneWord.{IsOneWordFor}
use Rattle.omega_lang_inclusion.specs.Written.{IsWordAutomaton}

-- the automaton of a symbolic word accepts exactly the words that the symbolic word admits
abbrev pub WordAutomataAcceptAdmitted : Type 0
WordAutomataAcceptAdmitted =
    (word : SymbolicWord) (a : Description) (named : NamedWord)
    → IsWordAutomaton word a → AcceptsNamed a named ↔ Admits word named

-- if each letter of a symbolic word fixes each proposition of an automaton, the automaton accepts all of the words that
-- are admitted if it accepts one
abbrev pub OneWordsAreAcceptedTogether : Type 0
OneWordsAreAcceptedTogether = (word : SymbolicWord) (a : Description) (one other : NamedWord)
    → IsAutomaton a → IsOneWordFor word a → Admits word one → Admits word other → AcceptsNamed a one
    → AcceptsNamed a other
