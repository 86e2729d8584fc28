-- one state more, and all
use Rattle.std.proofs.Common.{◌≡◌, ℕ, length, ap, sym, ◌∙◌, arith, subst}
use Rattle.omega_hoa_automaton.specs.Automaton.{Description}
use Rattle.omega_hoa_edges.specs.Determinism.{AreExclusiveBelow}
use Rattle.omega_hoa_edges.specs.AutomatonLabels.{labels_at}
use Rattle.omega_hoa_edges.specs.Letters.{AreExclusive}
use Rattle.omega_hoa_edges.specs.private.Refused.{IsUnjudgedAt}
use Rattle.omega_hoa_edges.proofs.ExclusiveStates.{exclusive_more}
use Rattle.omega_hoa_edges.proofs.Faults.{first_refused}
use Rattle.omega_hoa_edges.proofs.Refusals.{passed_on}
use Rattle.omega_hoa_edges.proofs.determinism.check_among.Goals as goal

pub check_state-requires : goal.check_state-requires
check_state-requires c = ap length c.propositions-count.ensures ∙ ap (λ (a : Description). length a.propositions) (sym c.requires)

pub returns-in_err-check_state-clause-refused : goal.returns-in_err-check_state-clause-refused
returns-in_err-check_state-clause-refused c =
    passed_on c.from_residual.result _ _ c.from_residual.ensures.1
    (first_refused c.args.automaton.now c.loop-number.number (omega (arith, c.loop-number-test.true, c.state_count-number-end.ensures))
    c.loop-number.invariant _
    (subst (λ (a : Description). IsUnjudgedAt a c.loop-number.number c.in_err-check_state.field-0.0) c.requires c.in_err-check_state.ensures.err))

pub loop-number-preserved : goal.loop-number-preserved
loop-number-preserved c =
    exclusive_more c.args.automaton.now c.loop-number.number c.loop-number.invariant
    (subst (λ (a : Description). AreExclusive (labels_at a c.loop-number.number)) c.requires c.in_ok-check_state.ensures.apart)

pub returns-clause-apart : goal.returns-clause-apart
returns-clause-apart c =
    let all : c.loop-number.number ≡ c.args.automaton.now.states =
    omega (arith, c.loop-number-test.false, c.loop-number.auto.number-end, c.state_count-number-end.ensures) in
    subst (λ (n : ℕ). AreExclusiveBelow c.args.automaton.now n) all c.loop-number.invariant
