-- The verdict on a solution, as the choices of both players win.
use Rattle.std.proofs.Common.{◌≡◌, ◌↔◌, ℕ, Bool, true, false, IsTrue, List, refl}
use Rattle.omega_game_values.specs.declared.player.Player.TheVariants.{One, Zero}
use Rattle.omega_game_values.specs.declared.solution.Solution.{Solution}
use Rattle.omega_game_values.specs.Game.{Node}
use Rattle.omega_game_values.specs.Solution.{WinsAsGiven, WinsGiven}
use Rattle.omega_io.specs.Answer.{IsReply, answer_text, exit_of}
use Rattle.omega_io.specs.declared.exit.Exit.{Exit}
use Rattle.omega_answers_game.specs.Verify.{IsSolutionVerdict}
use Rattle.omega_answers_game.specs.private.steps.Verdict.{verdict_answer}

-- both players' choices win as given
pub both-win : (nodes : List Node) (solution : Solution) → WinsGiven nodes solution Zero → WinsGiven nodes solution One
    → WinsAsGiven nodes solution
both-win nodes solution zero one Zero = zero
both-win nodes solution zero one One = one

-- ---- the verdict

-- if player 0's choices don't win, the solution is not right
pub zero-decides : (nodes : List Node) (solution : Solution) (zero : Bool) → zero ≡ false → IsTrue zero ↔ WinsGiven nodes solution Zero
    → IsTrue false ↔ WinsAsGiven nodes solution
zero-decides nodes solution zero e wins = (λ t. cc, λ all. let t : zero ≡ true = wins.1 (all Zero) in cc)

-- and if they do, player 1's choices decide
pub one-decides : (nodes : List Node) (solution : Solution) (zero one : Bool) → zero ≡ true → IsTrue zero ↔ WinsGiven nodes solution Zero
    → IsTrue one ↔ WinsGiven nodes solution One → IsTrue one ↔ WinsAsGiven nodes solution
one-decides nodes solution zero one e wins wins' =
    (λ t. both-win nodes solution (wins.0 e) (wins'.0 t), λ all. wins'.1 (all One))

-- the verdict is as the choices win
verdict_by : (nodes : List Node) (solution : Solution) (is_right : Bool) → IsTrue is_right ↔ WinsAsGiven nodes solution
    → IsSolutionVerdict nodes solution false (exit_of (verdict_answer is_right)) (answer_text (verdict_answer is_right))
verdict_by nodes solution true wins = (wins.0 refl, refl)
verdict_by nodes solution false wins = (λ all. let t : false ≡ true = wins.1 all in cc, refl)

pub verdict-made : (nodes : List Node) (solution : Solution) (is_right : Bool) (exit : Exit) (output : List ℕ)
    → IsTrue is_right ↔ WinsAsGiven nodes solution → IsReply (verdict_answer is_right) exit output
    → IsSolutionVerdict nodes solution false exit output
verdict-made nodes solution is_right exit output wins reply = rw (reply.0, reply.1) (verdict_by nodes solution is_right wins)
