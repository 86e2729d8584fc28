-- What was found for both players in turns is a right solution.
use Rattle.std.proofs.Common.{◌≡◌, ℕ, ◌+◌, ◌≤◌, None, List, refl, sym, subst, ◌∙◌, arith}
use Rattle.std.proofs.lemmas.Bool.{false≢true}
use Rattle.omega_text.specs.declared.refusal.Refusal.{Refusal}
use Rattle.omega_text.specs.declared.refusal.Refusal.TheVariants.{Automaton, Circuit, Game, Io, Memory, Task, Text}
use Rattle.omega_text.specs.declared.refusal.task.TaskFault.TheVariants.{TooWide}
use Rattle.omega_game_values.specs.declared.player.Player.TheVariants.{One, Zero}
use Rattle.omega_game_values.specs.declared.solution.Solution.{Solution}
use Rattle.omega_game_values.specs.Bound.{bound_of}
use Rattle.omega_game_values.specs.Game.{IsGame, Node, priorities}
use Rattle.omega_game_values.specs.Solution.{IsExactSolution}
use Rattle.omega_game_region_laws.specs.Laws.{RegionsAreApart, RegionsCover}
use Rattle.omega_solve.specs.declared.turns.TurnsAnswers.{TurnsAnswers}
use Rattle.omega_solve.specs.Turns.{IsNarrow, IsTurnsRefusal}
use Rattle.omega_solve.specs.budget.Within.{IsFoundUncounted}
use Rattle.omega_solve.proofs.within_budget.Turning.{found_at}
use Rattle.omega_answers_game.specs.declared.solve.asked.Asked.TheVariants as way
use Rattle.omega_answers_game.specs.solve.Refusing.{IsSolveGameRefusal, IsTooWide, IsWideRefusal}
use Rattle.omega_answers_game.specs.solve.Winners.{winners_of}
use Rattle.omega_answers_game.specs.private.steps.Bounds.{AreBoundsWithin, IsRightByBounds}
use Rattle.omega_answers_game.proofs.Solutions.{right_solution}

-- a right solution
pub right_turned : (nodes given : List Node) (both : TurnsAnswers) (solution : Solution) → given ≡ nodes → IsGame nodes → IsNarrow nodes
    → IsFoundUncounted given Zero both.zero → IsFoundUncounted given One both.one
    → solution.winners ≡ winners_of both.zero.won.items → solution.zero.choice ≡ both.zero.choice.items → solution.one.choice ≡ both.one.choice.items
    → RegionsAreApart → RegionsCover → IsRightByBounds nodes solution
right_turned nodes given both solution same game narrow for_zero for_one ew ez eo apart cover budget bounds =
    let zeros = subst (λ (n : List Node). IsFoundUncounted n Zero both.zero) same for_zero in
    let ones = subst (λ (n : List Node). IsFoundUncounted n One both.one) same for_one in
    right_solution nodes budget _ _ solution game (narrow Zero) (narrow One)
    (found_at nodes Zero (bound_of Zero (priorities nodes)) budget _ (bounds Zero) zeros.1)
    (found_at nodes One (bound_of One (priorities nodes)) budget _ (bounds One) ones.1) ew ez eo apart cover

-- a game that is too wide for neither player is refused for memory alone
pub memory_alone : (nodes : List Node) (refusal : Refusal) → IsNarrow nodes → IsTurnsRefusal (priorities nodes) refusal → refusal ≡ Memory
memory_alone nodes (Task fault) narrow refused = absurd (false≢true (sym (narrow refused.0) ∙ refused.1.1))
memory_alone nodes Memory narrow refused = refl
memory_alone nodes (Text fault) narrow refused = absurd (refused.1)
memory_alone nodes (Game fault) narrow refused = absurd (refused.1)
memory_alone nodes (Automaton fault) narrow refused = absurd (refused.1)
memory_alone nodes (Circuit fault) narrow refused = absurd (refused.1)
memory_alone nodes Io narrow refused = absurd (refused.1)

-- for either player
pub by_bounds : (nodes : List Node) (budget : ℕ) → bound_of Zero (priorities nodes) ≤ budget → bound_of One (priorities nodes) ≤ budget
    → AreBoundsWithin nodes budget
by_bounds nodes budget zero one Zero = zero
by_bounds nodes budget zero one One = one

-- a solution that is right for each budget that the bounds are within is exact
pub exact_by_bounds : (nodes : List Node) (solution : Solution) → IsRightByBounds nodes solution → IsExactSolution nodes solution
exact_by_bounds nodes solution right =
    let zero = bound_of Zero (priorities nodes) in
    let one = bound_of One (priorities nodes) in
    (right (zero + one) (by_bounds nodes (zero + one) (omega arith) (omega arith))).exact

-- a game that is too wide
pub wide_refused : (nodes : List Node) (refusal : Refusal) → (refusal ≡ Task TooWide) × IsTooWide nodes way.Both → IsWideRefusal nodes way.Both refusal
wide_refused nodes refusal (e, wide) = rw e (refl, wide)

-- such a refusal refuses the search
pub search_refused : (nodes : List Node) (budget : ℕ) (refusal : Refusal) → IsWideRefusal nodes way.Both refusal
    → IsSolveGameRefusal nodes way.Search None budget refusal
search_refused nodes budget (Task fault) (e, wide) = rw e (record { player = wide.player; solved_for = tt; wide = wide.wide })
search_refused nodes budget Memory h = tt
search_refused nodes budget (Text fault) h = h
search_refused nodes budget (Game fault) h = h
search_refused nodes budget (Automaton fault) h = h
search_refused nodes budget (Circuit fault) h = h
search_refused nodes budget Io h = h
