-- Which refusal a game text meets, and their order: 4, then 1 or 2 at the least place, then 3,
-- then the least of 10 to 14.
use Rattle.std.specs.Prelude.{◌≡◌, ℕ, ◌≤◌, Bool, false, ◌⊎◌, Option, Some, None, List, length, nat_lt}
use Rattle.std.specs.List.{list_any}
use Rattle.omega_text.specs.Cases.{never, or_game, or_text}
use Rattle.omega_text.specs.Limits.{most_text}
use Rattle.omega_text.specs.declared.refusal.Refusal.{Refusal}
use Rattle.omega_text.specs.declared.refusal.Refusal.TheVariants.{Memory}
use Rattle.omega_text.specs.declared.refusal.game.GameFault.{GameFault}
use Rattle.omega_game_values.specs.Building.{fault_with}
use Rattle.omega_game_values.specs.declared.node_spec.NodeSpec.{NodeSpec}
use Rattle.omega_text.specs.Syntax.{IsTextFault, IsTextOf}
use Rattle.omega_pg.specs.game.Grammar.{RawGame, game_syntax}

-- the number of a header is below some identifier
abbrev pub is_header_small : Option ℕ → List NodeSpec → Bool
is_header_small None specs = false
is_header_small (Some number) specs = list_any (λ spec. nat_lt number spec.id) specs

-- the fault of what is written, or none
abbrev pub fault_in : RawGame → Option GameFault
fault_in raw = fault_with (is_header_small raw.header raw.specs) raw.specs

-- the bytes are a text of the grammar, and what is written makes no game
pub record IsGameFault (source : List ℕ) (fault : GameFault) : Type 0 where
  pub short : length source ≤ most_text
  pub raw : RawGame
  pub writes : IsTextOf game_syntax source raw
  pub fault_there : fault_in raw ≡ Some fault

-- the refusal of a game text
abbrev pub IsRefusal : List ℕ → Refusal → Type 0
IsRefusal source = or_text (IsTextFault game_syntax source) (or_game (IsGameFault source) never)

-- what a call that reads may answer in place of a game: memory, or the refusal of the text
abbrev pub IsReadRefusal : List ℕ → Refusal → Type 0
IsReadRefusal source refusal = (refusal ≡ Memory) ⊎ IsRefusal source refusal
