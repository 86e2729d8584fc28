-- the states of both, and a label of one of them that is too deep
use Rattle.std.proofs.Common.{◌≡◌, ◌++◌, List, ℕ, map, subst}
use Rattle.omega_hoa_automaton.specs.Automaton.{Description}
use Rattle.omega_hoa_edges.proofs.Refusals.{large_weaker, passed_on}
use Rattle.omega_lang_trim.specs.Written.{state_written}
use Rattle.omega_lang_trim.specs.private.Writing.{StatesHaveDeepLabel}
use Rattle.omega_lang_union.specs.Parts.{states_in}
use Rattle.omega_lang_union.specs.Union.{first_part, second_part, united}
use Rattle.omega_lang_union.specs.declared.sharing.Sharing.{Sharing}
use Rattle.omega_lang_union.specs.private.Operands.{first_over, second_over}
use Rattle.omega_lang_union.proofs.Formed.{both_written, deep_left, deep_right}
use Rattle.omega_lang_union.proofs.states.push_both.Goals as goal

pub returns-in_err-push_first-clause-err : goal.returns-in_err-push_first-clause-err
returns-in_err-push_first-clause-err c =
    let one : Description = c.args.one.now in
    let other : Description = c.args.other.now in
    let sharing : Sharing = c.args.sharing.now in
    passed_on c.from_residual.result _ _ c.from_residual.ensures.1
    (large_weaker (StatesHaveDeepLabel (states_in (first_over sharing c.args.names.now one) one.defined)) (StatesHaveDeepLabel (united sharing one other).defined)
    (λ deep. deep_left (states_in (first_part sharing one other) one.defined) (states_in (second_part sharing one other) other.defined)
    (subst (λ (names : List (List ℕ)). StatesHaveDeepLabel (states_in (first_over sharing names one) one.defined)) c.requires.names deep))
    _ c.in_err-push_first.ensures.err)

pub returns-in_err-push_second-clause-err : goal.returns-in_err-push_second-clause-err
returns-in_err-push_second-clause-err c =
    let one : Description = c.args.one.now in
    let other : Description = c.args.other.now in
    let sharing : Sharing = c.args.sharing.now in
    passed_on c.from_residual-in_err-push_second.result _ _ c.from_residual-in_err-push_second.ensures.1
    (large_weaker (StatesHaveDeepLabel (states_in (second_over sharing c.args.names.now one other) other.defined)) (StatesHaveDeepLabel (united sharing one other).defined)
    (λ deep. deep_right (states_in (first_part sharing one other) one.defined) (states_in (second_part sharing one other) other.defined)
    (subst (λ (names : List (List ℕ)). StatesHaveDeepLabel (states_in (second_over sharing names one other) other.defined)) c.requires.names deep))
    _ c.in_err-push_second.ensures.err)

pub returns-clause-states : goal.returns-clause-states
returns-clause-states c =
    let one : Description = c.args.one.now in
    let other : Description = c.args.other.now in
    let sharing : Sharing = c.args.sharing.now in
    both_written (states_in (first_part sharing one other) one.defined) (states_in (second_part sharing one other) other.defined)
    c.args.states.now.items c.push_first.new.states.items c.push_second.new.states.items
    (subst (λ (names : List (List ℕ)). c.push_first.new.states.items ≡ c.args.states.now.items ++ map state_written (states_in (first_over sharing names one) one.defined))
    c.requires.names c.in_ok-push_first.ensures.states)
    (subst (λ (names : List (List ℕ)). c.push_second.new.states.items ≡ c.push_first.new.states.items ++ map state_written (states_in (second_over sharing names one other) other.defined))
    c.requires.names c.in_ok-push_second.ensures.states)
