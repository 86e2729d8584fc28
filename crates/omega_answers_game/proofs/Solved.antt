-- What `solve` writes of both players is the text of an exact solution of the game that `verify` judges.
use Rattle.std.proofs.Common.{◌≡◌, ℕ, List, Option, Some, None}
use Rattle.omega_game_values.specs.declared.player.Player.{Player}
use Rattle.omega_game_values.specs.declared.player.Player.TheVariants.{One, Zero}
use Rattle.omega_game_values.specs.Game.{Node}
use Rattle.omega_answers_game.specs.Laws.{IsSolved}
use Rattle.omega_answers_game.specs.Verify.{IsJudgedGame}
use Rattle.omega_answers_game.specs.declared.solve.asked.Asked.{Asked}
use Rattle.omega_answers_game.specs.declared.solve.asked.Asked.TheVariants as way
use Rattle.omega_answers_game.specs.solve.Refusing.{IsSolvedFor}
use Rattle.omega_answers_game.specs.solve.Solution.{IsExactSolutionOf}
use Rattle.omega_answers_game.specs.solve.Solving.{IsSolveAnswer, SolvesWhole}

-- no player is both
not_both : (player : Player) → Zero ≡ player → One ≡ player → ⊥
not_both player zero one = cc

-- a right answer for both players is the text of an exact solution
exact-both : (nodes : List Node) (asked : Asked) (budget : ℕ) (output : List ℕ) → ((player : Player) → IsSolvedFor asked player)
    → SolvesWhole nodes asked budget output → IsExactSolutionOf nodes output
exact-both nodes way.Both budget output both answer =
    record { solution = answer.solution; exact = answer.right.exact; written = answer.written }
exact-both nodes way.Search budget output both answer = answer
exact-both nodes (way.Player player) budget output both answer =
    absurd (not_both player (both Zero) (both One))

exact-answer : (text : List ℕ) (asked : Asked) (from : Option ℕ) (budget : ℕ) (output : List ℕ)
    → ((player : Player) → IsSolvedFor asked player) → IsSolveAnswer text asked from budget output
    → (nodes : List Node) × IsJudgedGame text from nodes × IsExactSolutionOf nodes output
exact-answer text asked None budget output both answer =
    (answer.game, answer.read, exact-both answer.game asked budget output both answer.solved)
exact-answer text asked (Some identifier) budget output both answer =
    let part = answer.solved in (
      part.part,
      record {
        game = answer.game;
        read = answer.read;
        part_of = record { place = part.place; identified = part.identified; reached = (part.kept, part.reached) };
      },
      exact-both part.part asked budget output both part.answer,
    )

pub solved-judged : (text : List ℕ) (from : Option ℕ) (output : List ℕ) → IsSolved text from output
    → (nodes : List Node) × IsJudgedGame text from nodes × IsExactSolutionOf nodes output
solved-judged text from output solved = exact-answer text solved.asked from solved.budget output solved.both solved.answer
