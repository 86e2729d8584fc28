-- Winners that are judged by an exact solution of the game.
use Rattle.std.proofs.Common.{◌≡◌, ℕ, Option, None, ◌<◌, List, Bool, true, false, length, refl, ap, sym, subst, ◌∙◌, arith}
use Rattle.std.proofs.lemmas.List.{length-map}
use Rattle.omega_text.specs.Cases.{never, or_task}
use Rattle.omega_text.specs.declared.refusal.Refusal.{Refusal}
use Rattle.omega_text.specs.declared.refusal.Refusal.TheVariants.{Automaton, Circuit, Game, Io, Memory, Task, Text}
use Rattle.omega_io.specs.Answer.{IsReply}
use Rattle.omega_io.specs.Refused.{IsRefusedOf, about}
use Rattle.omega_io.specs.declared.answer.Answer.TheVariants.{No}
use Rattle.omega_io.specs.declared.exit.Exit.{Exit}
use Rattle.omega_io.specs.declared.refused.Which.TheVariants.{File}
use Rattle.omega_solve.specs.Limits.{most_lifts}
use Rattle.omega_game_values.specs.declared.player.Player.{Player}
use Rattle.omega_game_values.specs.declared.solution.Solution.{Solution}
use Rattle.omega_game_values.specs.Game.{Node}
use Rattle.omega_game_values.specs.Solution.{IsExactSolution, winner_at}
use Rattle.omega_pg.specs.solution.Grammar.{SolutionLine}
use Rattle.omega_pg.specs.solution.Winners.{IsWinnersText}
use Rattle.omega_answers_game.specs.Verify.{IsJudgedGame}
use Rattle.omega_answers_game.specs.Winners.{AreWinners, ExplainsWinners, IsFirstWrong, IsUnsolved, IsWinnersVerdict, given_at}
use Rattle.omega_answers_game.specs.declared.solve.asked.Asked.TheVariants.{Search}
use Rattle.omega_answers_game.specs.solve.Refusing.{IsSolveGameRefusal}
use Rattle.omega_answers_game.specs.private.steps.Winners.{GiveTheSame, IsFirstDifference, IsUnsolvedRefusal, explanation_text, refutation_lines}

-- as many winners are given as there are nodes
pub winners-counted : (nodes : List Node) (source : List ℕ) (winners : List Player) → IsWinnersText nodes source winners → length winners ≡ length nodes
winners-counted nodes source winners text =
    ap length text.given
    ∙ length-map text.raw.lines (λ (line : SolutionLine). line.winner)
    ∙ sym (length-map text.raw.lines (λ (line : SolutionLine). line.identifier))
    ∙ ap length text.names.named
    ∙ length-map nodes (λ (node : Node). node.identifier)

module _ (nodes : List Node) (solution : Solution) (winners : List Player) (exact : IsExactSolution nodes solution) where
  -- winners that are those of an exact solution win
  pub winners-right : GiveTheSame solution.winners winners → AreWinners nodes winners
  winners-right same v node =
      let here : given_at winners v ≡ winner_at solution v = same v (omega (arith, node, exact.fits.winners)) in
      (exact.regions (given_at winners v) v node).0 (sym here)

  -- the first that differs is wrong
  pub first-wrong : (place : ℕ) → IsFirstDifference solution.winners winners place → IsFirstWrong nodes winners place (winner_at solution place)
  first-wrong place difference =
      let node : place < length nodes = omega (arith, difference.inside, exact.fits.winners) in
      record {
        node = node;
        wins = (exact.regions (winner_at solution place) place node).0 refl;
        wrong = λ wins. difference.differs (sym ((exact.regions (given_at winners place) place node).1 wins));
        before = λ v below. (exact.regions (given_at winners v) v (omega (arith, below, node))).0 (sym (difference.before v below));
      }

  explained : (explain : Bool) → ExplainsWinners explain nodes (explanation_text explain nodes solution)
  explained false = refl
  explained true = record { solution = solution; exact = exact; written = refl }

  -- so `no` with these lines refutes them
  pub winners-refuted : (explain : Bool) (place : ℕ) (exit : Exit) (output : List ℕ) → IsFirstDifference solution.winners winners place
      → IsReply (No (refutation_lines explain nodes solution place)) exit output → IsWinnersVerdict nodes winners explain exit output
  winners-refuted explain place exit output difference reply =
      subst (λ (exit : Exit). IsWinnersVerdict nodes winners explain exit output) (sym reply.0) (record {
        place = place;
        player = winner_at solution place;
        first = first-wrong place difference;
        explanation = explanation_text explain nodes solution;
        explains = explained explain;
        written = reply.1;
      })

-- a game that is not solved is that of its text
pub unsolved-text : (game_text : List ℕ) (from : Option ℕ) (text : List ℕ) (game : List Node) (refusal : Refusal) → IsJudgedGame game_text from game
    → IsUnsolvedRefusal game text refusal → or_task (IsUnsolved game_text from text) never refusal
unsolved-text game_text from text game (Task fault) judged unsolved =
    record { game = game; judged = judged; winners = unsolved.winners; read = unsolved.read; fault_there = unsolved.fault_there }
unsolved-text game_text from text game (Text fault) judged unsolved = absurd unsolved
unsolved-text game_text from text game (Game fault) judged unsolved = absurd unsolved
unsolved-text game_text from text game (Automaton fault) judged unsolved = absurd unsolved
unsolved-text game_text from text game (Circuit fault) judged unsolved = absurd unsolved
unsolved-text game_text from text game Memory judged unsolved = absurd unsolved
unsolved-text game_text from text game Io judged unsolved = absurd unsolved

-- a game that is not solved is refused so
pub unsolved-about : (game : List Node) (text : List ℕ) (winners : List Player) → IsWinnersText game text winners → (refusal : Refusal)
    → IsSolveGameRefusal game Search None most_lifts refusal → (input : Refusal → Type 0)
    → IsRefusedOf (IsUnsolvedRefusal game text) input (about File refusal)
unsolved-about game text winners read (Task fault) refused input = record { winners = winners; read = read; fault_there = refused }
unsolved-about game text winners read (Text fault) refused input = absurd refused
unsolved-about game text winners read (Game fault) refused input = absurd refused
unsolved-about game text winners read (Automaton fault) refused input = absurd refused
unsolved-about game text winners read (Circuit fault) refused input = absurd refused
unsolved-about game text winners read Memory refused input = refl
unsolved-about game text winners read Io refused input = absurd refused
