-- An edge that was found by its number.
use Rattle.std.specs.Prelude.{◌≡◌, ℕ, Some, slice_index_or}
use Rattle.omega_hoa_automaton.specs.Automaton.{Description, edge_at}
use Rattle.omega_hoa_automaton.specs.declared.edge.Edge.{Edge}
use Rattle.omega_lang_runs.specs.declared.finding.FoundEdge.{FoundEdge}

-- the edge with this number is that of the state that was found, at its index there
abbrev pub IsFoundEdge : Description → ℕ → FoundEdge → Type 0
IsFoundEdge a number found = (d : Edge) → edge_at a number ≡ Some
    (record { source = found.state.now; edge = slice_index_or found.state.now.edges found.index d })
