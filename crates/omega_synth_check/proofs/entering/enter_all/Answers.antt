-- one edge more
use Rattle.std.proofs.Common.{◌<◌, ℕ, List, length, get_or, sym, subst, arith}
use Rattle.std.proofs.lemmas.List.{take_all}
use Rattle.std.proofs.lemmas.List.Elements.{Contains-get_or}
use Rattle.omega_hoa_edges.proofs.Refusals.{passed_on}
use Rattle.omega_lang_runs.specs.Lasso.{IsStep}
use Rattle.omega_synth_game.specs.Making.{IsLeaving}
use Rattle.omega_synth_check.specs.private.Meeting.{HasEntered, state_at}
use Rattle.omega_synth_check.proofs.MetStates.{entered_more, extends_not, extends_on, longer, state_kept}
use Rattle.omega_synth_check.proofs.Refusals.{hard_among}
use Rattle.omega_synth_check.proofs.entering.enter_all.Goals as goal

pub loop-number-init : goal.loop-number-init
loop-number-init c = (c.requires.met, extends_not c.args.met.now.states.keys, λ number next has step. absurd (omega (arith, has.1)))

pub enter-requires-clause-at : goal.enter-requires-clause-at
enter-requires-clause-at c =
    omega (arith, c.requires.at, longer c.args.met.now.states.keys c.loop-number.met.states.keys c.loop-number.invariant.1)

pub enter-requires-clause-leaves : goal.enter-requires-clause-leaves
enter-requires-clause-leaves c =
    let numbers : List ℕ = c.args.numbers.now in
    let index : ℕ = c.loop-number.number-index in
    let below : index < length numbers = omega (arith, c.loop-number-test.true) in
    subst (λ (s : ℕ). IsLeaving c.args.search.now.automaton.now s (get_or numbers index 0))
    (sym (state_kept c.args.met.now.states.keys c.loop-number.met.states.keys c.args.at c.loop-number.invariant.1 c.requires.at))
    (c.requires.leave (get_or numbers index 0) (Contains-get_or numbers index 0 below))

pub loop-number-preserved : goal.loop-number-preserved
loop-number-preserved c =
    let a = c.args.search.now.automaton.now in
    let first : List ℕ = c.args.met.now.states.keys in
    let states : List ℕ = c.loop-number.met.states.keys in
    let more : List ℕ = c.enter.new.met.states.keys in
    let numbers : List ℕ = c.args.numbers.now in
    let index : ℕ = c.loop-number.number-index in
    let below : index < length numbers = omega (arith, c.loop-number-test.true) in
    let same = state_kept first states c.args.at c.loop-number.invariant.1 c.requires.at in (
      c.in_ok-enter.ensures.met,
      extends_on first states more c.loop-number.invariant.1 c.in_ok-enter.ensures.extends,
      entered_more a states more (state_at first c.args.at) numbers index c.in_ok-enter.ensures.extends below c.loop-number.invariant.2
          (λ next step. c.in_ok-enter.ensures.entered next (subst (λ (s : ℕ). IsStep a s (get_or numbers index 0) next) (sym same) step)),
    )

pub returns-clause-entered : goal.returns-clause-entered
returns-clause-entered c =
    subst (λ (list : List ℕ). HasEntered c.args.search.now.automaton.now (state_at c.args.met.now.states.keys c.args.at) list c.loop-number.met.states.keys)
    (take_all c.loop-number.number-index c.args.numbers.now (omega (arith, c.loop-number-test.false))) c.loop-number.invariant.2

pub returns-in_err-enter-clause-refused : goal.returns-in_err-enter-clause-refused
returns-in_err-enter-clause-refused c =
    let numbers : List ℕ = c.args.numbers.now in
    let index : ℕ = c.loop-number.number-index in
    let below : index < length numbers = omega (arith, c.loop-number-test.true) in
    passed_on c.from_residual.result _ _ c.from_residual.ensures.1
    (hard_among c.args.search.now.automaton.now numbers (get_or numbers index 0) (Contains-get_or numbers index 0 below) _ c.in_err-enter.ensures.refused)
