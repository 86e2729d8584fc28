-- The canonical text of an automaton: a function of the value, so that equal automata have equal texts.
use Rattle.std.specs.Prelude.{ℕ, List, ◌++◌, Option}
use Rattle.omega_hoa_automaton.specs.Automaton.{Description}
use Rattle.omega_canon.specs.BodyText.{body_text}
use Rattle.omega_canon.specs.HeaderText.{header_text}

-- the header and the body
abbrev pub canonical_automaton : Description → List ℕ
canonical_automaton a = header_text a ++ body_text a.defined

-- the automaton with this name, or without one, which changes no word that it accepts
abbrev pub titled : Option (List ℕ) → Description → Description
titled name a = record a { name = name }
