-- The edges of an automaton as a table.
use Rattle.std.specs.Prelude.{◌≡◌, ℕ, Some}
use Rattle.omega_hoa_automaton.specs.Automaton.{Description, edge_at}
use Rattle.omega_lang_runs.specs.Places.{ArePlaces}
use Rattle.omega_lang_lasso_check.specs.declared.edge_table.EdgeTable.{EdgeTable}
use Rattle.omega_lang_lasso_check.specs.declared.edge_table.TableEdge.{TableEdge}

-- the automaton of a table
abbrev pub automaton_of : EdgeTable → Description
automaton_of table = table.automaton.now

-- the places are those of the automaton's edges
abbrev pub IsTable : EdgeTable → Type 0
IsTable table = ArePlaces (automaton_of table) table.places.now

-- the edge with this number is the one that was found
abbrev pub IsEdgeAt : EdgeTable → ℕ → TableEdge → Type 0
IsEdgeAt table number found = edge_at (automaton_of table) number
    ≡ Some (record { source = found.source.now; edge = found.edge })
