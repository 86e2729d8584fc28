-- `findings_of_edges`: edges in compact form have no labels.
use Rattle.std.proofs.Common.{◌≡◌, IfOk, ap, map, sum_by, subst, sym, ◌∙◌}
use Rattle.std.specs.List.{list_any}
use Rattle.omega_hoa_label_text.specs.Expanding.{expansion}
use Rattle.omega_hoa_syntax.specs.Edges.{edges_seen, lengthened}
use Rattle.omega_hoa_syntax.specs.declared.raw_edge.RawEdge.{RawEdge}
use Rattle.omega_hoa_automaton.specs.Faults.{passes, size_under}
use Rattle.omega_hoa_automaton.specs.private.layout.Findings.{AreFound}
use Rattle.omega_hoa_automaton.proofs.ShortLemmas.{found-short}
use Rattle.omega_hoa_automaton.proofs.judging.findings.findings_of_edges.Goals as goal

pub returns-in-Short-clause-ok : goal.returns-in-Short-clause-ok
returns-in-Short-clause-ok c =
    let written : map lengthened c.in-Short._edges.now ≡ c.args.edges.now = sym (ap edges_seen c.in-Short.is) ∙ c.slice.ensures in
    subst (λ edges. AreFound (λ test. list_any (λ (edge : RawEdge). passes (λ label. test (expansion c.args.aliases.now label)) edge.label) edges) (sum_by (λ (edge : RawEdge). size_under c.args.aliases.now edge.label) edges) c.none.result)
    written (found-short c.args.aliases.now c.in-Short._edges.now c.none.result c.none.ensures)

pub returns-in-Full-clause-ok : goal.returns-in-Full-clause-ok
returns-in-Full-clause-ok c =
    let written : c.in-Full.edges.now ≡ c.args.edges.now = sym (ap edges_seen c.in-Full.is) ∙ c.slice.ensures in
    subst (λ edges. IfOk c.findings_of_full.result (AreFound (λ test. list_any (λ (edge : RawEdge). passes (λ label. test (expansion c.args.aliases.now label)) edge.label) edges) (sum_by (λ (edge : RawEdge). size_under c.args.aliases.now edge.label) edges)))
    written c.findings_of_full.ensures.ok
