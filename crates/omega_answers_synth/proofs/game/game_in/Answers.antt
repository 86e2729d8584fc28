-- the game is that of the automaton that was read, and so is what refuses it
use Rattle.std.proofs.Common.{Result, Ok, Err}
use Rattle.std.specs.Prelude.{IfOk, OnOk}
use Rattle.std.proofs.lemmas.Result.{IfErr-weaker, err_from_is_err_and}
use Rattle.omega_text.specs.declared.refusal.Refusal.{Refusal}
use Rattle.omega_answers_synth.proofs.Stated.{stated_as}
use Rattle.omega_answers_synth.proofs.Refused.{question_ungamed, unasked_ungamed}
use Rattle.omega_answers_synth.proofs.game.game_in.Goals as goal

-- what holds of each value, and what holds if there is one
made_small : {X : Type 0} (r : Result X Refusal) (S : Type 0) (P Q : X → Type 0) → ((x : X) → S → P x → Q x) → OnOk r S → IfOk r P → IfOk r Q
made_small (Ok x) S P Q make small p = make x small p
made_small (Err e) S P Q make small p = tt

pub returns-clause-game : goal.returns-clause-game
returns-clause-game c =
    let asked = c.in_ok-question.ensures.question in
    let stated = stated_as _ _ _ asked c.as_slice.ensures in
    made_small c.realizability_game.result _ _ _
    (λ game small is. record {
      automaton = c.in_ok-question.question.automaton;
      read = asked.read;
      holds = record { controlled = c.as_slice.result.now; stated = stated; small = small; game = is };
    })
    c.realizability_game.ensures.small c.realizability_game.ensures.game

pub returns-in_err-question-clause-refused : goal.returns-in_err-question-clause-refused
returns-in_err-question-clause-refused c =
    let p = err_from_is_err_and c.from_residual.result c.from_residual.ensures.1 in
    rw (p.1, p.2) (unasked_ungamed c.args.text.now _ c.in_err-question.ensures.refused)

pub returns-clause-refused : goal.returns-clause-refused
returns-clause-refused c =
    let asked = c.in_ok-question.ensures.question in
    let stated = stated_as _ _ _ asked c.as_slice.ensures in
    IfErr-weaker c.realizability_game.result _ _
    (λ refusal refused. question_ungamed c.args.text.now _ _ refusal asked.read stated refused)
    c.realizability_game.ensures.refused
