-- Solutions as arrays: for each place its winner, and the winner's choice there, or the mark for none.
use Rattle.std.specs.Prelude.{ℕ, ◌==◌, if◌then◌else◌, List, Option, Some, None, length, map, slice_index}
use Rattle.std.specs.List.{range_with_len}
use Rattle.std.specs.Option.{option_or}
use Rattle.omega_game_values.specs.declared.player.Player.{Player}
use Rattle.omega_game_values.specs.declared.player.Player.TheVariants.{One, Zero}
use Rattle.omega_game_values.specs.declared.solution.Solution.{Solution}
use Rattle.omega_arrays.specs.declared.fault.WrongEntry.{WrongEntry}
use Rattle.omega_arrays.specs.Arrays.{GameArrays, node_count, player_of}
use Rattle.omega_arrays.specs.Shape.{first_above, miscounted, wrong_entry}

-- the entry of a place without a choice
abbrev pub no_choice : ℕ
no_choice = 4294967295

-- the choice that an entry encodes
abbrev pub choice_of : ℕ → Option ℕ
choice_of entry = if entry == no_choice then None else Some entry

-- the player's choice at a place with this winner and this entry: only the winner has one
abbrev pub choice_for : (player winner : Player) → ℕ → Option ℕ
choice_for Zero Zero entry = choice_of entry
choice_for One One entry = choice_of entry
choice_for Zero One entry = None
choice_for One Zero entry = None

-- the player's choices by place
abbrev pub choices_for : Player → (winners choices : List ℕ) → List (Option ℕ)
choices_for player winners choices =
    map (λ v. choice_for player (player_of (slice_index winners v)) (slice_index choices v))
    (range_with_len 0 (length winners))

-- the solution that the arrays hold
abbrev pub solution_in : (winners choices : List ℕ) → Solution
solution_in winners choices = record {
  winners = map player_of winners;
  zero = record { choice = choices_for Zero winners choices };
  one = record { choice = choices_for One winners choices };
}

-- the first entry that is wrong by the lengths of the arrays for an answer, or else of the game
abbrev pub wrong_room : GameArrays → (winners choices : ℕ) → Option WrongEntry
wrong_room a winners choices = option_or (wrong_entry a)
    (option_or (miscounted 4 winners (node_count a)) (miscounted 5 choices (node_count a)))

-- the first entry that is wrong of arrays that are to hold a solution: the same, or else a winner that is no player
abbrev pub wrong_answer : GameArrays → (winners choices : List ℕ) → Option WrongEntry
wrong_answer a winners choices =
    option_or (wrong_room a (length winners) (length choices)) (first_above 4 1 winners)
