-- the edges of the graph have the ends before
use Rattle.std.proofs.Common.{◌≡◌, ◌+◌, ◌*◌, length, map, nat_eq, take, All}
use Rattle.std.specs.List.{IsDistinct}
use Rattle.omega_lang_lasso_search.specs.private.Numbering.{Grows, IsNamed, ends_in}
use Rattle.omega_lang_lasso_search.proofs.numbering.graph_of.Given as goal

abbrev pub invariant-loop-end : goal.invariant-loop-end
invariant-loop-end l =
    Grows (2 * l.end-index) l.initial.met.keys l.met.keys
    × IsDistinct nat_eq l.met.keys
    × (l.graph.states ≡ l.before + 2 * length l.ends)
    × All (IsNamed l.met.keys) l.graph.edges
    × (map (ends_in l.met.keys) l.graph.edges ≡ take l.end-index l.ends)
