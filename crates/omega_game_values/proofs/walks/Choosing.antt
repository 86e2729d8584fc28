-- What a strategy chooses at a place is its choice there.
use Rattle.std.proofs.Common.{◌≡◌, ℕ, zero, suc, List, [], ◌∷◌, Option, Some, None, ap}
use Rattle.std.proofs.lemmas.Option.{get_or_from_slice_get}
use Rattle.omega_game_values.specs.Winning.{Chooses, choice_at}

-- what is chosen is the choice
pub choice_chosen : (choices : List (Option ℕ)) (v w : ℕ) → Chooses choices v w → choice_at choices v ≡ Some w
choice_chosen choices v w chose = get_or_from_slice_get choices v (Some w) None chose

-- and the choice is chosen
pub chosen_choice : (choices : List (Option ℕ)) (v w : ℕ) → choice_at choices v ≡ Some w → Chooses choices v w
chosen_choice [] v w is = absurd (cc)
chosen_choice (entry ∷ rest) zero w is = ap {B = Option (Option ℕ)} Some is
chosen_choice (entry ∷ rest) (suc v) w is = chosen_choice rest v w is
