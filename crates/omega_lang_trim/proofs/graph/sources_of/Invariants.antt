-- the places of the starts so far
use Rattle.std.proofs.Common.{◌≡◌, ℕ, List, map, nat_eq, take}
use Rattle.std.specs.List.{position_or_len}
use Rattle.omega_lang_lasso_search.specs.Tabled.{first_of}
use Rattle.omega_lang_trim.proofs.graph.sources_of.Given as goal

abbrev pub invariant-loop-start : goal.invariant-loop-start
invariant-loop-start l =
    l.sources.items ≡ map (λ (start : List ℕ). position_or_len (nat_eq (first_of start)) l.places.keys) (take l.start-index l.automaton.starts)
