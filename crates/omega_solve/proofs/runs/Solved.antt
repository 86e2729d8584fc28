-- The headline, from the laws of lifting.
use Rattle.std.proofs.Common.{◌≡◌, true, List, [], refl, subst, arith}
use Rattle.std.proofs.lemmas.Bool.{false≢true}
use Rattle.omega_game_values.specs.declared.player.Player.{Player}
use Rattle.omega_game_values.specs.Game.{Node, priorities}
use Rattle.omega_lift_laws.specs.Laws.{ChoicesAreAStrategy, ChoicesWin, RegionsStayBelowTop, RunsAreBounded, RunsKeepTables, ZeroTablesAreTables}
use Rattle.omega_lift_laws.specs.Run.{IsLiftingRun, IsStable, zero_table}
use Rattle.omega_solve.specs.Solver.{IsReached, start_of}
use Rattle.omega_solve.specs.Headline.{Headline}
use Rattle.omega_solve.proofs.runs.Dealing.{deals_finish, deals_keep_nodes, deals_keep_player, deals_reach, deals_suffice}
use Rattle.omega_solve.proofs.answers.Exactness.{answer_exact}

-- a new solver is reached
start_reached : (nodes : List Node) (player : Player) → IsReached (start_of nodes player)
start_reached nodes player = record { places = []; lifted = refl; counted = refl }

-- what is promised of the runs of a solver
pub solved : ZeroTablesAreTables → RunsKeepTables → RunsAreBounded → ChoicesAreAStrategy → ChoicesWin → RegionsStayBelowTop → Headline
solved zero keep bounded strategy win stay nodes player budgets solver game dealt =
    let start = start_of nodes player in
    let same_nodes = deals_keep_nodes start solver budgets dealt in
    let same_player = deals_keep_player start solver budgets dealt in
    let reached = deals_reach start solver budgets (start_reached nodes player) dealt in
    let lifted : IsLiftingRun nodes player (zero_table player (priorities nodes)) reached.places solver.table.measures =
    subst (λ (n : List Node). IsLiftingRun n player (zero_table player (priorities n)) reached.places solver.table.measures) same_nodes
    (subst (λ (p : Player). IsLiftingRun solver.nodes p (zero_table p (priorities solver.nodes)) reached.places solver.table.measures) same_player
    reached.lifted) in
    let is_table = keep nodes player _ solver.table.measures reached.places (zero player (priorities nodes)) lifted in
    record {
      same_nodes = same_nodes;
      same_player = same_player;
      bounded = omega (arith, bounded nodes player reached.places solver.table.measures lifted, reached.counted);
      reached = reached;
      enough = deals_suffice nodes player budgets solver bounded game dealt reached;
      exact = λ done choices chosen.
          let finished = deals_finish start solver budgets (λ (still : start.done ≡ true). absurd (false≢true still)) dealt done in
          let stable : IsStable nodes player solver.table.measures =
          subst (λ (n : List Node). IsStable n player solver.table.measures) same_nodes
          (subst (λ (p : Player). IsStable solver.nodes p solver.table.measures) same_player finished) in
          answer_exact nodes player reached.places solver.table.measures choices strategy win stay game is_table lifted stable chosen;
    }
