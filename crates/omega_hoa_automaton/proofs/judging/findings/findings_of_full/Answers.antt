-- `findings_of_full`: one more edge.
use Rattle.std.proofs.Common.{Option, subst}
use Rattle.omega_hoa_label_text.specs.Expanding.{expansion}
use Rattle.omega_hoa_label.specs.Raw.{RawLabelTree}
use Rattle.omega_hoa_syntax.specs.declared.raw_edge.RawEdge.{RawEdge}
use Rattle.omega_hoa_automaton.specs.Faults.{passes, size_under}
use Rattle.omega_hoa_automaton.specs.private.layout.Findings.{AreFound}
use Rattle.omega_hoa_automaton.proofs.FindingLemmas.{found-step}
use Rattle.omega_hoa_automaton.proofs.judging.findings.findings_of_full.Goals as goal

pub loop-edge-preserved : goal.loop-edge-preserved
loop-edge-preserved c =
    let of_label =
    subst (λ (label : Option RawLabelTree). AreFound (λ test. passes (λ label. test (expansion c.args.aliases.now label)) label) (size_under c.args.aliases.now label) c.in_ok-more.more)
    c.as_ref.ensures.value c.in_ok-more.ensures.ok in
    found-step (λ test edge. passes (λ label. test (expansion c.args.aliases.now label)) edge.label) (λ (edge : RawEdge). size_under c.args.aliases.now edge.label)
    c.args.edges.now c.loop-edge.edge-index c.edge-item.result c.loop-edge.found c.in_ok-more.more c.with-found.result
    c.loop-edge-test.true c.edge-item.is c.loop-edge.invariant of_label c.with-found.ensures
