-- `emptiness_observed`: the reports are of the run in the emptiness game, and after it only memory can refuse.
use Rattle.std.proofs.Common.{◌≡◌, None, Some}
use Rattle.std.proofs.lemmas.Result.{IfErr-weaker}
use Rattle.omega_empty.proofs.walking.Refused.{on_ok, passed_on, ungiven_refused, unsolved_refused}
use Rattle.omega_empty.specs.Refusing.{IsGameRefusal}
use Rattle.omega_text.specs.declared.refusal.Refusal.TheVariants.{Memory}
use Rattle.omega_empty.specs.Observing.{LiftsAutomaton}
use Rattle.omega_empty.specs.private.layout.Solving.{LiftsGame}
use Rattle.omega_empty.proofs.walking.Observing.{automaton_lifted, automaton_refused}
use Rattle.omega_solve.proofs.within_budget.Observed.{none_observed, spares, observed_alike, observed_as, observed_after}
use Rattle.omega_empty.proofs.deciding.emptiness_observed.Goals as goal

pub returns-clause-given : goal.returns-clause-given
returns-clause-given g c = on_ok c.verdict_of.result _ c.in_ok-game.ensures.given

pub returns-clause-budget : goal.returns-clause-budget
returns-clause-budget g c =
    on_ok c.verdict_of.result _
    (record { game = c.in_ok-game.game; game_is = c.in_ok-game.ensures.game; solved = c.in_ok-found.ensures.solved })

pub returns-clause-refused : goal.returns-clause-refused
returns-clause-refused g c = IfErr-weaker c.verdict_of.result _ _ (λ refusal e. rw e tt) c.verdict_of.ensures.memory

pub returns-in_err-game-clause-refused : goal.returns-in_err-game-clause-refused
returns-in_err-game-clause-refused g c =
    passed_on c.from_residual.result _ _ c.from_residual.ensures.1 (ungiven_refused c.args.automaton.now c.args.budget _ c.in_err-game.ensures.refused)

pub returns-in_err-found-clause-refused : goal.returns-in_err-found-clause-refused
returns-in_err-found-clause-refused g c =
    passed_on c.from_residual-in_err-found.result _ _ c.from_residual-in_err-found.ensures.1
    (unsolved_refused c.args.automaton.now c.args.budget c.in_ok-game.game _ c.in_ok-game.ensures.given c.in_ok-game.ensures.game
    c.in_err-found.ensures.refused)

pub returns-in_err-game-clause-reported : goal.returns-in_err-game-clause-reported
returns-in_err-game-clause-reported g c =
    observed_alike _ _ _ _ c.from_residual.result _ c.in_err-game.field-0.0 _ _ c.from_residual.ensures.1 (λ e same. same)
    (none_observed _ _ _ _ _ _ (spares (IsGameRefusal c.args.automaton.now) _ c.in_err-game.ensures.refused (λ no. no)))

pub returns-in_err-found-clause-reported : goal.returns-in_err-found-clause-reported
returns-in_err-found-clause-reported g c =
    observed_alike _ _ _ _ c.from_residual-in_err-found.result _ c.in_err-found.field-0.0 _ _ c.from_residual-in_err-found.ensures.1 (λ e same. same)
    (observed_as (LiftsGame c.in_ok-game.game) (LiftsAutomaton c.args.automaton.now) _ _ _ _ _ _
    (automaton_lifted c.args.automaton.now c.in_ok-game.game (Some c.in_err-found.field-0.0) c.in_ok-game.ensures.game)
    (rw c.in_err-found.was at c.found_in.ensures.reported))

pub returns-clause-reported : goal.returns-clause-reported
returns-clause-reported g c =
    observed_after _ _ _ _ c.verdict_of.result (λ refusal. refusal ≡ Memory) _ _ c.verdict_of.ensures.memory (λ e. cc)
    (λ refusal other. automaton_refused c.args.automaton.now refusal other)
    (observed_as (LiftsGame c.in_ok-game.game) (LiftsAutomaton c.args.automaton.now) _ _ _ _ _ _
    (automaton_lifted c.args.automaton.now c.in_ok-game.game None c.in_ok-game.ensures.game)
    (rw c.in_ok-found.was at c.found_in.ensures.reported))
