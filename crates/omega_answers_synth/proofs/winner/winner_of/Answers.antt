-- the winner of what was decided
use Rattle.std.proofs.Common.{ℕ, List, subst, sym}
use Rattle.std.proofs.lemmas.Result.{IfOk-weaker}
use Rattle.omega_synth_realize.specs.Realizing.{IsRealizability}
use Rattle.omega_answers_synth.specs.Winner.{IsWinner}
use Rattle.omega_answers_synth.proofs.winner.winner_of.Goals as goal

pub winner_text-requires-clause-right : goal.winner_text-requires-clause-right
winner_text-requires-clause-right c =
    subst (λ (numbers : List ℕ). IsRealizability c.args.decided.now.question.automaton numbers c.args.decided.now.realizability) (sym c.as_slice.ensures)
    c.requires.realizability

pub returns-clause-winning : goal.returns-clause-winning
returns-clause-winning c =
    IfOk-weaker c.winner_text.result _ _
    (λ made winner. record {
      controlled = c.args.decided.now.question.controlled;
      stated = c.requires.stated;
      judgeable = c.requires.judgeable;
      small = c.requires.small;
      winner = subst (λ (numbers : List ℕ). IsWinner c.args.decided.now.question.automaton numbers made.0 made.1.items) c.as_slice.ensures winner;
    })
    c.winner_text.ensures.winner
