-- what the edges of the state enter, and its letters
use Rattle.std.proofs.Common.{ℕ, Bool, List, length, get_or, Option, sym, ap, subst, arith}
use Rattle.std.specs.Prelude.{IfNone, IfSome}
use Rattle.std.proofs.lemmas.List.Elements.{Contains-get_or}
use Rattle.omega_hoa_edges.proofs.Refusals.{passed_on}
use Rattle.omega_lang_runs.specs.Lasso.{IsStep}
use Rattle.omega_synth_game.specs.Making.{AllLeave}
use Rattle.omega_synth_check.specs.Judging.{AreInputs}
use Rattle.omega_synth_check.specs.private.Meeting.{state_at}
use Rattle.omega_synth_check.specs.private.Searching.{IsVisited, NoneAnswers, SomeAnswers}
use Rattle.omega_synth_check.proofs.Leavers.{has_place}
use Rattle.omega_synth_check.proofs.Reached.{met_reached}
use Rattle.omega_synth_check.proofs.Refusals.{hard_refused, unasked_refused}
use Rattle.omega_synth_check.proofs.Steps.{step_leaves}
use Rattle.omega_synth_check.proofs.Visits.{visited}
use Rattle.omega_synth_check.proofs.searching.visit.Goals as goal

pub enter_all-requires-clause-leave : goal.enter_all-requires-clause-leave
enter_all-requires-clause-leave c =
    let a = c.args.search.now.automaton.now in
    subst (λ (s : ℕ). AllLeave a s c.of_state-numbers.result.now) c.state_at-state.ensures
    (λ number has. (c.of_state-numbers.ensures number).0 has)

pub unanswered_letter-requires-clause-numbers : goal.unanswered_letter-requires-clause-numbers
unanswered_letter-requires-clause-numbers c =
    λ k d below.
    omega (
      arith,
      has_place c.args.search.now.automaton.now c.args.search.now.leaving.now c.requires.search.leaving c.state_at-state.result (get_or c.of_state-numbers.result.now k d)
          ((c.of_state-numbers.ensures (get_or c.of_state-numbers.result.now k d)).0 (Contains-get_or c.of_state-numbers.result.now k d below)),
      ap length c.as_slice-places.ensures.value,
    )

pub returns-in_err-enter_all-clause-refused : goal.returns-in_err-enter_all-clause-refused
returns-in_err-enter_all-clause-refused c =
    passed_on c.from_residual.result _ _ c.from_residual.ensures.1
    (hard_refused c.args.search.now.automaton.now c.args.search.now.controlled.now (state_at c.args.met.now.states.keys c.args.at) c.of_state-numbers.result.now
    (met_reached c.args.search.now.automaton.now c.args.met.now.states.keys c.args.met.now.entries.items c.requires.met c.args.at c.requires.at)
    (subst (λ (s : ℕ). AllLeave c.args.search.now.automaton.now s c.of_state-numbers.result.now) c.state_at-state.ensures
    (λ number has. (c.of_state-numbers.ensures number).0 has))
    _ c.in_err-enter_all.ensures.refused)

pub returns-in_err-letter-clause-refused : goal.returns-in_err-letter-clause-refused
returns-in_err-letter-clause-refused c =
    let a = c.args.search.now.automaton.now in
    passed_on c.from_residual-in_err-letter.result _ _ c.from_residual-in_err-letter.ensures.1
    (unasked_refused a c.args.search.now.controlled.now (state_at c.args.met.now.states.keys c.args.at) c.of_state-numbers.result.now
    (met_reached a c.args.met.now.states.keys c.args.met.now.entries.items c.requires.met c.args.at c.requires.at)
    (subst (λ (s : ℕ). AllLeave a s c.of_state-numbers.result.now) c.state_at-state.ensures (λ number has. (c.of_state-numbers.ensures number).0 has))
    _ c.in_err-letter.ensures.refused)

pub returns-clause-next : goal.returns-clause-next
returns-clause-next c =
    let a = c.args.search.now.automaton.now in
    λ number next step.
    c.in_ok-enter_all.ensures.entered number next
    ((c.of_state-numbers.ensures number).1
    (step_leaves a c.state_at-state.result number next (subst (λ (s : ℕ). IsStep a s number next) (sym c.state_at-state.ensures) step)))
    step

pub returns-clause-letter : goal.returns-clause-letter
returns-clause-letter c =
    let a = c.args.search.now.automaton.now in
    let controlled : List ℕ = c.args.search.now.controlled.now in
    let numbers : List ℕ = c.of_state-numbers.result.now in
    subst (λ (s : ℕ). IsVisited a controlled s c.in_ok-letter.letter) c.state_at-state.ensures
    (visited a c.requires.search.automaton c.requires.search.plain controlled c.state_at-state.result numbers c.of_state-numbers.ensures c.in_ok-letter.letter c.in_ok-letter.ensures.few
    (λ letter is. subst (λ (found : Option (List ℕ)). IfSome found (λ letter. NoneAnswers a controlled numbers letter)) is c.in_ok-letter.ensures.unanswered)
    (λ letter is. subst (λ (found : Option (List ℕ)). IfSome found (AreInputs a controlled)) is c.in_ok-letter.ensures.inputs)
    (λ is. subst (λ (found : Option (List ℕ)). IfNone found ((given : ℕ → Bool) → SomeAnswers a controlled numbers given)) is c.in_ok-letter.ensures.answered))
