-- What holds in the loop of `findings_of_full`: it is found of the edges so far.
use Rattle.std.proofs.Common.{sum_by, take}
use Rattle.std.specs.List.{list_any}
use Rattle.omega_hoa_label_text.specs.Expanding.{expansion}
use Rattle.omega_hoa_syntax.specs.declared.raw_edge.RawEdge.{RawEdge}
use Rattle.omega_hoa_automaton.specs.Faults.{passes, size_under}
use Rattle.omega_hoa_automaton.specs.private.layout.Findings.{AreFound}
use Rattle.omega_hoa_automaton.proofs.judging.findings.findings_of_full.Given as goal

abbrev pub invariant-loop-edge : goal.invariant-loop-edge
invariant-loop-edge l =
    AreFound (λ test. list_any (λ (edge : RawEdge). passes (λ label. test (expansion l.aliases label)) edge.label) (take l.edge-index l.edges))
    (sum_by (λ (edge : RawEdge). size_under l.aliases edge.label) (take l.edge-index l.edges)) l.found
