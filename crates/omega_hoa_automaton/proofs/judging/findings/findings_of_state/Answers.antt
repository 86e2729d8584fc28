-- `findings_of_state`: of its own label and of its edges.
use Rattle.std.proofs.Common.{Option, subst, sum_by}
use Rattle.std.specs.List.{list_any}
use Rattle.omega_hoa_label_text.specs.Expanding.{expansion}
use Rattle.omega_hoa_label.specs.Raw.{RawLabelTree}
use Rattle.omega_hoa_syntax.specs.declared.raw_edge.RawEdge.{RawEdge}
use Rattle.omega_hoa_automaton.specs.Faults.{passes, size_under}
use Rattle.omega_hoa_automaton.specs.private.layout.Findings.{AreFound}
use Rattle.omega_hoa_automaton.proofs.FindingLemmas.{found-joined}
use Rattle.omega_hoa_automaton.proofs.judging.findings.findings_of_state.Goals as goal

pub returns-clause-ok : goal.returns-clause-ok
returns-clause-ok c =
    let of_own =
    subst (λ (label : Option RawLabelTree). AreFound (λ test. passes (λ label. test (expansion c.args.aliases.now label)) label) (size_under c.args.aliases.now label) c.in_ok-own.own)
    c.as_ref.ensures.value c.in_ok-own.ensures.ok in
    found-joined (λ test. passes (λ label. test (expansion c.args.aliases.now label)) c.args.state.now.label)
    (λ test. list_any (λ (edge : RawEdge). passes (λ label. test (expansion c.args.aliases.now label)) edge.label) c.args.state.now.edges)
    (size_under c.args.aliases.now c.args.state.now.label) (sum_by (λ (edge : RawEdge). size_under c.args.aliases.now edge.label) c.args.state.now.edges)
    c.in_ok-own.own c.in_ok-edges.edges c.with.result of_own c.in_ok-edges.ensures.ok c.with.ensures
