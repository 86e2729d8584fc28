-- one state is open, or none
use Rattle.std.proofs.Common.{◌≡◌, get_or, refl, sym, ◌∙◌, arith, true≢false}
use Rattle.std.proofs.lemmas.Bool.{false≢true}
use Rattle.std.proofs.lemmas.Result.{err_from_is_err_and}
use Rattle.omega_hoa_automaton.specs.declared.state.State.{State}
use Rattle.omega_lang_inclusion.specs.private.Opened.{CanBeBoth, first_label}
use Rattle.omega_lang_inclusion.proofs.Below.{none_at_all, none_more}
use Rattle.omega_lang_inclusion.proofs.open_letters.has_open_state.Goals as goal

pub returns-in_err-is_open_state-clause-refused : goal.returns-in_err-is_open_state-clause-refused
returns-in_err-is_open_state-clause-refused c =
    let here : c.state-item.result ≡ get_or c.args.states.now c.loop-state.state-index c.state-item.result = c.state-item.is in
    let p = err_from_is_err_and c.from_residual.result c.from_residual.ensures.1 in
    rw (p.1, p.2) (c.state-item.result, (c.loop-state.state-index, c.loop-state-test.true, sym here), c.in_err-is_open_state.ensures.refused)

pub returns-then-branch-clause-right : goal.returns-then-branch-clause-right
returns-then-branch-clause-right c =
    let here : c.state-item.result ≡ get_or c.args.states.now c.loop-state.state-index c.state-item.result = c.state-item.is in (
      λ t. (
        c.state-item.result,
        (c.loop-state.state-index, c.loop-state-test.true, sym here),
        c.in_ok-is_open_state.ensures.right.0 c.if-branch.true,
      ),
      λ found. refl,
    )

pub loop-state-preserved : goal.loop-state-preserved
loop-state-preserved c =
    let here : c.state-item.result ≡ get_or c.args.states.now c.loop-state.state-index c.state-item.result = c.state-item.is in
    none_more (λ (state : State). CanBeBoth c.args.held.now c.args.unheld.now (first_label state.edges)) c.args.states.now
    c.loop-state.state-index c.state-item.result c.loop-state.invariant c.loop-state-test.true here
    (λ is. true≢false (sym (c.in_ok-is_open_state.ensures.right.1 is) ∙ c.if-branch.false))

pub returns-clause-right : goal.returns-clause-right
returns-clause-right c = (
  λ t. absurd (false≢true t),
  λ found. absurd (none_at_all (λ (state : State). CanBeBoth c.args.held.now c.args.unheld.now (first_label state.edges)) c.args.states.now
      c.loop-state.state-index c.loop-state.invariant (omega (arith, c.loop-state-test.false)) found.0 found.1 found.2),
)
