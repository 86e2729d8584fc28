-- `answer_in`: what was found for the player is a right answer, which counts the lifts of the run that was reported,
-- and a refusal is a fault of the game.
use Rattle.std.proofs.Common.{◌≡◌, None, Some, Ok, Err, List, Bool, refl, rules, subst, true}
use Rattle.std.specs.List.{slice_get}
use Rattle.std.proofs.lemmas.Result.{IfOk-weaker}
use Rattle.omega_answers_game.specs.declared.solve.asked.Asked.TheVariants as way
use Rattle.omega_answers_game.specs.solve.Refusing.{IsSolveGameRefusal}
use Rattle.omega_answers_game.proofs.Solving.{found_for, narrow_for, refused-solving, right_answer, solving_for, reported_for, won_within}
use Rattle.omega_answers_game.proofs.Observing.{game_refused}
use Rattle.omega_text.specs.declared.refusal.Refusal.TheVariants.{Memory}
use Rattle.omega_solve.proofs.within_budget.Observed.{one_made, one_solved, observed_alike, observed_after}
use Rattle.omega_answers_game.proofs.solve.one.answer_in.Goals as goal

pub write_answer-requires-clause-places : goal.write_answer-requires-clause-places
write_answer-requires-clause-places g c = λ v at.
    let found = found_for _ _ c.requires.given c.args.player c.args.budget c.in_ok-found.found c.in_ok-found.ensures.found in
    won_within c.args.game.now c.args.player c.args.budget c.in_ok-found.found found v
    (subst (λ (won : List Bool). slice_get won v ≡ Some true) c.as_slice.ensures.value at)

pub returns-clause-answer : goal.returns-clause-answer
returns-clause-answer g c =
    let same = c.requires.given in
    IfOk-weaker c.write_answer.result _ _
    (λ output written. (
      c.in_ok-found.found.lifts,
      right_answer c.args.game.now c.args.player c.args.budget c.in_ok-found.found output.items
          (narrow_for _ _ same c.args.player (c.in_ok-found.ensures.fits (refl {a = true})))
          (found_for _ _ same c.args.player c.args.budget c.in_ok-found.found c.in_ok-found.ensures.found)
          (rw (← c.as_slice.ensures.value, ← c.as_slice-2.ensures.value) written),
      reported_for _ _ same c.args.player _ _ _ (Ok c.in_ok-found.found) _ _ (rw c.in_ok-found.was at c.solve.ensures.reported),
    ))
    c.write_answer.ensures.text

pub returns-in_err-found-clause-refused : goal.returns-in_err-found-clause-refused
returns-in_err-found-clause-refused g c =
    let refused : IsSolveGameRefusal c.args.game.now (way.Player c.args.player) None c.args.budget c.in_err-found.field-0.0 =
    refused-solving c.args.game.now (way.Player c.args.player) c.args.player c.args.budget _ (λ narrow other is. rw is narrow) refl
    (solving_for _ _ c.requires.given c.args.player c.args.budget _ c.in_err-found.ensures.refused) in
    search rules

pub returns-in_err-found-clause-reported : goal.returns-in_err-found-clause-reported
returns-in_err-found-clause-reported g c =
    observed_alike _ _ _ _ c.from_residual.result _ c.in_err-found.field-0.0 _ _ c.from_residual.ensures.1 (λ e same. same)
    (one_solved _ _ _ c.args.game.now c.args.player c.args.budget (Err c.in_err-found.field-0.0) _ _ (refl, one_made c.args.player _)
    (reported_for _ _ c.requires.given c.args.player _ _ _ (Err c.in_err-found.field-0.0) _ _ (rw c.in_err-found.was at c.solve.ensures.reported)))

pub returns-clause-reported : goal.returns-clause-reported
returns-clause-reported g c =
    observed_after _ _ _ _ c.write_answer.result (λ refusal. refusal ≡ Memory) _ _ c.write_answer.ensures.memory (λ e. cc)
    (λ refusal other. game_refused c.args.game.now (way.Player c.args.player) refusal other)
    (one_solved _ _ _ c.args.game.now c.args.player c.args.budget (Ok c.in_ok-found.found) _ _ (refl, one_made c.args.player None)
    (reported_for _ _ c.requires.given c.args.player _ _ _ (Ok c.in_ok-found.found) _ _ (rw c.in_ok-found.was at c.solve.ensures.reported)))
