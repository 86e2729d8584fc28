-- the states so far
use Rattle.std.proofs.Common.{◌≡◌, ◌+◌, ◌++◌, ◌∷◌, [], Bool, false, List, ℕ, subst, sym, arith}
use Rattle.std.proofs.lemmas.Result.{err_from_is_err_and}
use Rattle.omega_hoa_syntax.specs.declared.raw_state.RawState.{RawState}
use Rattle.omega_lang_complement.specs.private.Turned.{AreTurned}
use Rattle.omega_lang_complement.proofs.Faults.{state_refused}
use Rattle.omega_lang_complement.proofs.Turned.{turned_more, turned_none}
use Rattle.omega_lang_complement.proofs.states.push_turned.Goals as goal

pub returns-in_err-next-clause-err : goal.returns-in_err-next-clause-err
returns-in_err-next-clause-err c =
    let p = err_from_is_err_and c.from_residual.result c.from_residual.ensures.1 in
    rw (p.1, p.2)
    (state_refused c.args.automaton.now c.loop-number.number (omega (arith, c.loop-number-test.true, c.state_count-number-end.ensures)) c.loop-number.invariant.apart c.loop-number.invariant.fitting
    c.in_err-next.field-0.0 c.in_err-next.ensures.err)

pub loop-number-init : goal.loop-number-init
loop-number-init c = subst (λ (ss : List RawState). AreTurned c.args.automaton.now 0 ss false) (sym c.requires.empty) (turned_none c.args.automaton.now)

pub loop-number-preserved : goal.loop-number-preserved
loop-number-preserved c =
    subst (λ (ss : List RawState). AreTurned c.args.automaton.now (c.loop-number.number + 1) ss c.is_either_set-lacks.result) (sym c.in_ok-push.ensures.items)
    (subst (λ (b : Bool). AreTurned c.args.automaton.now (c.loop-number.number + 1) (c.loop-number.states.items ++ c.in_ok-next.next.state ∷ []) b) (sym c.is_either_set-lacks.ensures)
    (turned_more c.args.automaton.now c.loop-number.number c.loop-number.states.items c.loop-number.lacks c.in_ok-next.next.state c.in_ok-next.next.lacks c.loop-number.invariant
    c.in_ok-next.ensures.turned c.in_ok-next.ensures.apart c.in_ok-next.ensures.fitting c.in_ok-next.ensures.lacks))

pub returns-clause-turned : goal.returns-clause-turned
returns-clause-turned c =
    let all : c.loop-number.number ≡ c.args.automaton.now.states =
    omega (arith, c.loop-number-test.false, c.loop-number.auto.number-end, c.state_count-number-end.ensures) in
    subst (λ (n : ℕ). AreTurned c.args.automaton.now n c.loop-number.states.items c.loop-number.lacks) all c.loop-number.invariant
