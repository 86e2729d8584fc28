-- What a walk's text says of a game: a lasso of its nodes, or a refusal.
use Rattle.std.specs.Prelude.{◌≡◌, ℕ, ◌<◌, All, List, [], ◌∷◌, ◌++◌, length, map}
use Rattle.omega_game.specs.declared.lasso.Lasso.{Lasso}
use Rattle.omega_lang_lasso_text.specs.declared.lasso.LassoText.{LassoText}
use Rattle.omega_game_values.specs.Game.{Node, identifier_at}
use Rattle.omega_game_values.specs.Paths.{IsPath}
use Rattle.omega_text.specs.Cases.{or_task}
use Rattle.omega_text.specs.declared.refusal.Refusal.{Refusal}
use Rattle.omega_text.specs.declared.refusal.task.TaskFault.TheVariants.{BadSolution}
use Rattle.omega_answers_walk.specs.Text.{IsWalkText, IsWalkTextRefusal}

-- listed edges join the places, each to the next one
abbrev pub AreJoined : List Node → List ℕ → Type 0
AreJoined nodes [] = Unit {0}
AreJoined nodes (v ∷ ws) = IsPath nodes v ws

-- a lasso of a game: listed edges join the places along the stem, round the cycle, and back to the cycle's first
abbrev pub IsLassoIn : List Node → (stem cycle : List ℕ) → Type 0
IsLassoIn nodes stem [] = ⊥
IsLassoIn nodes stem (first ∷ onward) = AreJoined nodes (stem ++ (first ∷ (onward ++ first ∷ [])))

-- the places are those of nodes with these identifiers
pub record AreNamed (nodes : List Node) (identifiers places : List ℕ) : Type 0 where
  pub inside : All (λ place. place < length nodes) places
  pub named : map (identifier_at nodes) places ≡ identifiers

-- the identifiers are those of a lasso of the game
pub record Names (nodes : List Node) (said : LassoText) (lasso : Lasso) : Type 0 where
  pub stem : AreNamed nodes said.stem lasso.stem
  pub cycle : AreNamed nodes said.cycle lasso.cycle
  pub joined : IsLassoIn nodes lasso.stem lasso.cycle

-- the text is that of a walk of the game, which is this lasso
pub record IsWalkOf (nodes : List Node) (text : List ℕ) (lasso : Lasso) : Type 0 where
  pub said : LassoText
  pub read : IsWalkText text said
  pub named : Names nodes said lasso

-- the text says identifiers, which are those of no lasso of the game
pub record IsNoWalkOf (nodes : List Node) (text : List ℕ) : Type 0 where
  pub said : LassoText
  pub read : IsWalkText text said
  pub none : (lasso : Lasso) → ¬ Names nodes said lasso

-- the refusal of the text as a walk of the game: that of the text, or else that it is none
abbrev pub IsWalkRefusal : List Node → List ℕ → Refusal → Type 0
IsWalkRefusal nodes text =
    or_task (λ fault. (fault ≡ BadSolution) × IsNoWalkOf nodes text) (IsWalkTextRefusal text)
