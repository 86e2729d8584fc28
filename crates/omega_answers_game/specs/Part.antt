-- The part of a game that the node with an identifier reaches, the texts of such parts, and its refusals.
use Rattle.std.specs.Prelude.{◌≡◌, ◌<◌, List, ℕ, length}
use Rattle.omega_text.specs.Cases.{or_task}
use Rattle.omega_text.specs.declared.refusal.Refusal.{Refusal}
use Rattle.omega_text.specs.declared.refusal.task.TaskFault.TheVariants.{UnknownNode}
use Rattle.omega_game_values.specs.Game.{Node, node_at}
use Rattle.omega_game_reaching.specs.Part.{IsPart}
use Rattle.omega_pg.specs.game.Refusing.{IsRefusal}
use Rattle.omega_pg.specs.game.Text.{IsGameText}

-- the node at a place has the identifier
pub record HasIdentifier (nodes : List Node) (identifier place : ℕ) : Type 0 where
  pub node : place < length nodes
  pub identified : (node_at nodes place).identifier ≡ identifier

-- no node has the identifier
abbrev pub IsUnknownIdentifier : List Node → ℕ → Type 0
IsUnknownIdentifier nodes identifier = (place : ℕ) → ¬ HasIdentifier nodes identifier place

-- this is the part of the game that the node with the identifier reaches
pub record IsPartFrom (game : List Node) (identifier : ℕ) (part : List Node) : Type 0 where
  pub place : ℕ
  pub identified : HasIdentifier game identifier place
  pub reached : IsPart game place part

-- the text is that of a game, and this is the part of it that the node with the identifier reaches
pub record IsPartText (text : List ℕ) (identifier : ℕ) (part : List Node) : Type 0 where
  pub game : List Node
  pub read : IsGameText text game
  pub part_of : IsPartFrom game identifier part

-- the text is that of a game, and no node of the game has the identifier
pub record IsTextWithout (text : List ℕ) (identifier : ℕ) : Type 0 where
  pub game : List Node
  pub read : IsGameText text game
  pub unknown : IsUnknownIdentifier game identifier

-- the refusal of a text's part: that of the text, or else that no node of its game has the identifier
abbrev pub IsPartTextRefusal : List ℕ → ℕ → Refusal → Type 0
IsPartTextRefusal text identifier =
    or_task (λ fault. (fault ≡ UnknownNode) × IsTextWithout text identifier) (IsRefusal text)
