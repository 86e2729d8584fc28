-- What is explained with names by a lasso against a player's choices.
use Rattle.std.proofs.Common.{ℕ, ◌<◌, true, List, sym, subst, arith}
use Rattle.omega_game.specs.declared.lasso.Lasso.{Lasso}
use Rattle.omega_answers_game.specs.Verify.{LosesGiven}
use Rattle.omega_game_values.specs.Game.{Node}
use Rattle.omega_game_values.specs.Player.{player_number}
use Rattle.omega_game_values.specs.Solution.{WinsGiven}
use Rattle.omega_game_values.specs.declared.player.Player.{Player}
use Rattle.omega_game_values.specs.declared.player.Player.TheVariants.{One, Zero}
use Rattle.omega_game_values.specs.declared.solution.Solution.{Solution}
use Rattle.omega_io.specs.Answer.{IsReply}
use Rattle.omega_io.specs.declared.answer.Answer.TheVariants.{No}
use Rattle.omega_io.specs.declared.exit.Exit.{Exit}
use Rattle.omega_answers_walk.specs.Verify.{IsNamedVerdict}
use Rattle.omega_answers_walk.specs.Written.{walk_text}

-- if player 0's choices do not win, that is explained
pub zero-explained : (nodes : List Node) (solution : Solution) (lasso : Lasso) (exit : Exit) (output : List ℕ)
    → LosesGiven nodes solution Zero lasso → IsReply (No (walk_text true nodes Zero lasso.stem lasso.cycle)) exit output
    → IsNamedVerdict nodes solution exit output
zero-explained nodes solution lasso exit output loses reply =
    subst (λ (exit : Exit). IsNamedVerdict nodes solution exit output) (sym reply.0) (record {
      player = Zero;
      least = λ other below. absurd (omega arith);
      lasso = lasso;
      loses = loses;
      written = reply.1;
    })

-- if they do and player 1's do not, that is
pub one-explained : (nodes : List Node) (solution : Solution) (lasso : Lasso) (exit : Exit) (output : List ℕ)
    → WinsGiven nodes solution Zero → LosesGiven nodes solution One lasso
    → IsReply (No (walk_text true nodes One lasso.stem lasso.cycle)) exit output → IsNamedVerdict nodes solution exit output
one-explained nodes solution lasso exit output wins loses reply =
    subst (λ (exit : Exit). IsNamedVerdict nodes solution exit output) (sym reply.0) (record {
      player = One;
      least = least;
      lasso = lasso;
      loses = loses;
      written = reply.1;
    })
  where
    least : (other : Player) → player_number other < 1 → WinsGiven nodes solution other
    least Zero below = wins
    least One below = absurd (omega arith)
