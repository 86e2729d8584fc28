-- `found_of_edges`: edges in compact form are edges.
use Rattle.std.proofs.Common.{◌≡◌, ap, map, subst, sym, ◌∙◌}
use Rattle.omega_hoa_syntax.specs.Edges.{edges_seen, lengthened}
use Rattle.omega_hoa_automaton.specs.private.layout.Body.{IsFoundOfEdges}
use Rattle.omega_hoa_automaton.proofs.ShortLemmas.{found-in-short}
use Rattle.omega_hoa_automaton.proofs.judging.edges.found_of_edges.Goals as goal

pub returns-in-Short : goal.returns-in-Short
returns-in-Short c =
    let written : map lengthened c.in-Short.edges.now ≡ c.args.edges.now = sym (ap edges_seen c.in-Short.is) ∙ c.slice.ensures in
    subst (λ edges. IsFoundOfEdges c.args.counts edges c.found_of_short.result) written
    (found-in-short c.args.counts c.in-Short.edges.now c.found_of_short.result c.found_of_short.ensures)
