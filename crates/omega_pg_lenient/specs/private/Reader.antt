-- A reader as the state of the automaton, and what it knows of a token.
use Rattle.std.specs.Prelude.{ℕ, List}
use Rattle.omega_text.specs.pg.Forms.{Spells}
use Rattle.omega_pg_lenient.specs.declared.kind.LenientKind.{LenientKind}
use Rattle.omega_pg_lenient.specs.declared.kind.LenientKind.TheVariants.{Start, Strict}
use Rattle.omega_pg_lenient.specs.private.Automaton.{LenientState}
use Rattle.omega_pg_lenient.specs.declared.reader.LenientReader.TheInside.{Inside}

-- the state that a reader keeps
abbrev pub reader_state : Inside → LenientState
reader_state reader = record { stage = reader.stage; specs = reader.specs }

-- the text is a strict token of this kind and value, or the word `start`
abbrev pub IsSpelled : LenientKind → ℕ → List ℕ → Type 0
IsSpelled (Strict kind) value text = Spells kind value text
IsSpelled Start value text = Unit {0}
