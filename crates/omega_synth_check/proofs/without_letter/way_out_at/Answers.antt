-- what the edges of the state enter, and its ways out
use Rattle.std.proofs.Common.{◌≡◌, ℕ, Bool, List, length, get_or, filter, Contains, Option, sym, ap, subst, ◌∙◌, arith}
use Rattle.std.specs.Prelude.{IfNone, IfSome}
use Rattle.std.proofs.lemmas.List.Elements.{Contains-get_or}
use Rattle.omega_hoa_edges.proofs.Refusals.{passed_on}
use Rattle.omega_lang_runs.specs.Lasso.{IsStep}
use Rattle.omega_lang_word_laws.proofs.meeting.Lists.{filter_contains}
use Rattle.omega_synth_game.specs.Making.{AllLeave}
use Rattle.omega_synth_check.specs.private.Meeting.{state_at}
use Rattle.omega_synth_check.specs.private.Searching.{SomeAnswers}
use Rattle.omega_synth_check.specs.private.Blocked.{IsSpared, IsVisitedFor}
use Rattle.omega_synth_check.specs.WaysOut.{flag}
use Rattle.omega_synth_check.proofs.Leavers.{has_place}
use Rattle.omega_synth_check.proofs.Reached.{met_reached}
use Rattle.omega_synth_check.proofs.WayRefusals.{hard_way_refused, unasked_way_refused}
use Rattle.omega_synth_check.proofs.Steps.{step_leaves}
use Rattle.omega_synth_check.proofs.WaysOut.{flagged_leave, visited_for}
use Rattle.omega_synth_check.proofs.without_letter.way_out_at.Goals as goal

pub enter_all-requires-clause-leave : goal.enter_all-requires-clause-leave
enter_all-requires-clause-leave c =
    let a = c.args.search.now.automaton.now in
    subst (λ (s : ℕ). AllLeave a s c.of_state-numbers.result.now) c.state_at-state.ensures
    (λ number has. (c.of_state-numbers.ensures number).0 has)

pub blocking_edge-requires-clause-out : goal.blocking_edge-requires-clause-out
blocking_edge-requires-clause-out c =
    let b = c.args.asked.now.automaton.now in
    λ k d below.
    (let number : ℕ = get_or c.as_slice.result.now k d in
    let has : Contains c.as_slice.result.now number = Contains-get_or c.as_slice.result.now k d below in
    omega (
      arith,
      has_place b c.args.asked.now.leaving.now c.requires.asked.leaving c.state_at-state.result number
          ((c.of_state-others.ensures number).0
          (filter_contains (flag c.args.ways_out.now) c.of_state-others.result.now number
          (subst (λ (list : List ℕ). Contains list number) (c.as_slice.ensures.value ∙ c.in_ok-out.ensures.numbers) has)).0),
      ap length c.as_slice-places.ensures.value,
    ))

pub returns-in_err-enter_all-clause-refused : goal.returns-in_err-enter_all-clause-refused
returns-in_err-enter_all-clause-refused c =
    passed_on c.from_residual.result _ _ c.from_residual.ensures.1
    (hard_way_refused c.args.search.now.automaton.now c.args.asked.now.automaton.now c.args.asked.now.controlled.now
    (state_at c.args.met.now.states.keys c.args.at) c.of_state-numbers.result.now
    (met_reached c.args.search.now.automaton.now c.args.met.now.states.keys c.args.met.now.entries.items c.requires.met c.args.at c.requires.at)
    (subst (λ (s : ℕ). AllLeave c.args.search.now.automaton.now s c.of_state-numbers.result.now) c.state_at-state.ensures
    (λ number has. (c.of_state-numbers.ensures number).0 has))
    _ c.in_err-enter_all.ensures.refused)

pub returns-in_err-number-clause-refused : goal.returns-in_err-number-clause-refused
returns-in_err-number-clause-refused c =
    let a = c.args.search.now.automaton.now in
    let b = c.args.asked.now.automaton.now in
    passed_on c.from_residual-in_err-number.result _ _ c.from_residual-in_err-number.ensures.1
    (unasked_way_refused a b c.args.asked.now.controlled.now (state_at c.args.met.now.states.keys c.args.at) c.as_slice.result.now
    (met_reached a c.args.met.now.states.keys c.args.met.now.entries.items c.requires.met c.args.at c.requires.at)
    (subst (λ (s : ℕ). AllLeave b s c.as_slice.result.now) c.state_at-state.ensures
    (subst (AllLeave b c.state_at-state.result) (sym (c.as_slice.ensures.value ∙ c.in_ok-out.ensures.numbers))
    (flagged_leave b c.args.asked.now.controlled.now (flag c.args.ways_out.now) c.state_at-state.result c.of_state-others.result.now c.of_state-others.ensures)))
    _ c.in_err-number.ensures.refused)

pub returns-clause-next : goal.returns-clause-next
returns-clause-next c =
    let a = c.args.search.now.automaton.now in
    λ number next step.
    c.in_ok-enter_all.ensures.entered number next
    ((c.of_state-numbers.ensures number).1
    (step_leaves a c.state_at-state.result number next (subst (λ (s : ℕ). IsStep a s number next) (sym c.state_at-state.ensures) step)))
    step

pub returns-clause-way : goal.returns-clause-way
returns-clause-way c =
    let b = c.args.asked.now.automaton.now in
    let controlled : List ℕ = c.args.asked.now.controlled.now in
    let out : ℕ → Bool = flag c.args.ways_out.now in
    let others : List ℕ = c.of_state-others.result.now in
    let ways : List ℕ = filter out others in
    let same : c.as_slice.result.now ≡ ways = c.as_slice.ensures.value ∙ c.in_ok-out.ensures.numbers in
    subst (λ (s : ℕ). IsVisitedFor b controlled out s c.in_ok-number.number) c.state_at-state.ensures
    (visited_for b controlled out c.state_at-state.result others c.of_state-others.ensures c.in_ok-number.number
    (λ is. subst (IsSpared b controlled) same (subst (λ (found : Option ℕ). IfNone found (IsSpared b controlled c.as_slice.result.now)) is c.in_ok-number.ensures.spared))
    (λ number is. subst (λ (list : List ℕ). Contains list number) same
    (subst (λ (found : Option ℕ). IfSome found (Contains c.as_slice.result.now)) is c.in_ok-number.ensures.first))
    (λ number is given. subst (λ (list : List ℕ). SomeAnswers b controlled list given) same
    (subst (λ (found : Option ℕ). IfSome found (λ number. (given : ℕ → Bool) → SomeAnswers b controlled c.as_slice.result.now given)) is c.in_ok-number.ensures.each given)))
