-- Verdicts: the lasso of a loop is right, and so is `Empty` if no start is won.
use Rattle.std.proofs.Common.{◌≡◌, ℕ, Bool, List, Some, Ok, Err, Result, IfOk, drop, slice_get, sym, subst, take, true}
use Rattle.omega_text.specs.declared.refusal.Refusal.{Refusal}
use Rattle.omega_hoa_automaton.specs.Automaton.{Description, IsAutomaton}
use Rattle.omega_game_values.specs.Game.{Node}
use Rattle.omega_game_values.specs.declared.player.Player.TheVariants.{Zero}
use Rattle.omega_solve.specs.Headline.{IsExact}
use Rattle.omega_solve.specs.declared.budget.found.Found.{Found}
use Rattle.omega_empty.specs.EmptinessGame.{IsEmptinessGame}
use Rattle.omega_empty.specs.GameLaws.{UnwonIsEmpty}
use Rattle.omega_lang_runs.specs.Lasso.{IsAcceptingLasso}
use Rattle.omega_lang_runs.specs.Verdict.{IsVerdict}
use Rattle.omega_lang_runs.specs.declared.verdict.Verdict.{Verdict}
use Rattle.omega_lang_runs.specs.declared.verdict.Verdict.TheVariants.{Lasso}
use Rattle.omega_empty.specs.private.layout.Following.{HasNoWonStart, IsLooped}

-- the edges before the loop and those from there on are a right verdict
pub loop_state_is_right : (a : Description) (edges list : List ℕ) (loop_state : ℕ) (answer : Result Verdict Refusal) → IsLooped a edges loop_state → list ≡ edges
    → IfOk answer (λ verdict. verdict ≡ Lasso (take loop_state list) (drop loop_state list)) → IfOk answer (IsVerdict a)
loop_state_is_right a edges list loop_state (Err refusal) looped same is = tt
loop_state_is_right a edges list loop_state (Ok verdict) looped same is =
    let accepting : IsAcceptingLasso a (take loop_state list) (drop loop_state list) =
    subst (λ (l : List ℕ). IsAcceptingLasso a (take loop_state l) (drop loop_state l)) (sym same) looped.accepting in
    subst (λ (v : Verdict). IsVerdict a v) (sym is) accepting

-- if what is won is exact and no start is won, no lasso accepts
pub none_accepts : UnwonIsEmpty → (a : Description) (game : List Node) (found : Found) (won : List Bool)
    → IsAutomaton a → IsEmptinessGame a game → IsExact game Zero found.won.items found.choice.items
    → won ≡ found.won.items → HasNoWonStart a game won → (stem cycle : List ℕ) → IsAcceptingLasso a stem cycle → ⊥
none_accepts law a game found won automaton is exact won_is lost =
    (law a game automaton is).0
    (λ start v begins below named region. lost start v begins (record {
      node = below;
      named = named;
      is_won = subst (λ (w : List Bool). slice_get w v ≡ Some true) (sym won_is) ((exact.exactly v).1 region);
    }))
