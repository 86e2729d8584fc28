-- Which refusal a lenient text meets, and their order: 4, then 1 or 2 at the least place, then 3,
-- then the least of 10, 11, 13 and 14. Places are those of the text as it is written.
use Rattle.std.specs.Prelude.{◌≡◌, ℕ, ◌≤◌, ◌⊎◌, Some, List, length}
use Rattle.omega_text.specs.Cases.{never, or_game, or_text}
use Rattle.omega_text.specs.Limits.{most_text}
use Rattle.omega_text.specs.Syntax.{IsTextFault, IsTextOf}
use Rattle.omega_text.specs.declared.refusal.Refusal.{Refusal}
use Rattle.omega_text.specs.declared.refusal.Refusal.TheVariants.{Memory}
use Rattle.omega_text.specs.declared.refusal.game.GameFault.{GameFault}
use Rattle.omega_game_values.specs.Building.{game_fault_of}
use Rattle.omega_game_values.specs.declared.node_spec.NodeSpec.{NodeSpec}
use Rattle.omega_pg_lenient.specs.Grammar.{lenient_syntax}
use Rattle.omega_pg_lenient.specs.Plain.{plain_text}

-- the text is one of the grammar, and its specifications make no game
pub record IsLenientGameFault (source : List ℕ) (fault : GameFault) : Type 0 where
  pub short : length source ≤ most_text
  pub specs : List NodeSpec
  pub spells : IsTextOf lenient_syntax (plain_text source) specs
  pub fault_there : game_fault_of specs ≡ Some fault

-- the refusal of a lenient text
abbrev pub RefusesLenient : List ℕ → Refusal → Type 0
RefusesLenient source = or_text (IsTextFault lenient_syntax (plain_text source))
    (or_game (IsLenientGameFault source) never)

-- what a call that reads may answer in place of a game: memory, or the refusal of the text
abbrev pub IsLenientReadRefusal : List ℕ → Refusal → Type 0
IsLenientReadRefusal source refusal = (refusal ≡ Memory) ⊎ RefusesLenient source refusal
