-- what is written is the game of the automaton that was read
use Rattle.std.proofs.Common.{ap, ◌∙◌}
use Rattle.std.proofs.lemmas.Result.{IfErr-weaker, IfOk-weaker}
use Rattle.omega_pg.specs.game.Canonical.{canonical_game}
use Rattle.omega_answers_synth.proofs.game.write_realizability_game.Goals as goal

pub returns-clause-answer : goal.returns-clause-answer
returns-clause-answer c =
    let of_text = c.in_ok-game.ensures.game in
    IfOk-weaker c.write_game.result _ _
    (λ output written. record {
      automaton = of_text.automaton;
      read = of_text.read;
      holds = record { nodes = c.in_ok-game.game; game = of_text.holds; written = written ∙ ap canonical_game c.forward_game.ensures };
    })
    c.write_game.ensures.text

pub returns-clause-refused : goal.returns-clause-refused
returns-clause-refused c = IfErr-weaker c.write_game.result _ _ (λ refusal e. rw e tt) c.write_game.ensures.memory
