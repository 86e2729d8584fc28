-- `edges_of`: edges in short mean themselves.
use Rattle.std.proofs.Common.{◌≡◌, map, sym, ap, ◌∙◌}
use Rattle.omega_hoa_syntax.specs.Edges.{edges_in, lengthened}
use Rattle.omega_hoa_automaton.proofs.ShortLemmas.{shorts_meant}
use Rattle.omega_hoa_automaton.proofs.making.states.edges_of.Goals as goal

pub returns-in-Short-clause-ok : goal.returns-in-Short-clause-ok
returns-in-Short-clause-ok c =
    let written : map lengthened c.in-Short.edges ≡ c.args.edges = sym (ap edges_in c.in-Short.is) ∙ c.into_held.ensures in
    rw (c.from_short.ensures, ← written) (shorts_meant c.args.aliases.now c.in-Short.edges)
