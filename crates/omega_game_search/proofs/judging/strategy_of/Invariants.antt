-- The choices made so far are exactly at the places that the player owns and is given.
use Rattle.std.proofs.Common.{◌≡◌, ◌<◌, ◌↔◌, ℕ, IsSome, slice_index_or, vec_len}
use Rattle.omega_game_values.specs.declared.player.Player.TheVariants.{Zero}
use Rattle.omega_game_values.specs.Game.{owner_at}
use Rattle.omega_game_values.specs.Winning.{choice_at}
use Rattle.omega_game_search.proofs.judging.strategy_of.Given as goal

abbrev pub invariant-loop-place : goal.invariant-loop-place
invariant-loop-place l =
    (vec_len l.choice ≡ l.place)
    × ((v : ℕ) → v < l.place → IsSome (choice_at l.choice.items v) ↔ ((owner_at l.game v ≡ l.player) × (slice_index_or l.winners v Zero ≡ l.player)))
