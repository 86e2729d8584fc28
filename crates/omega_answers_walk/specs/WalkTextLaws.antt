-- Laws of the texts of walks, whatever reads or writes them.
use Rattle.std.specs.Prelude.{◌≡◌, ℕ, ◌<◌, ◌≤◌, Bool, if◌then◌else◌, All, List, [], ◌++◌, codes, length, map}
use Rattle.omega_text.specs.Limits.{most_text}
use Rattle.omega_game_values.specs.Game.{IsWithinLimits, Node, identifier_at}
use Rattle.omega_game_values.specs.declared.player.Player.{Player}
use Rattle.omega_answers_walk.specs.Covered.{lasso_in}
use Rattle.omega_answers_walk.specs.Text.{IsWalkText}
use Rattle.omega_answers_walk.specs.Written.{walk_text}

-- the identifiers of the nodes at the places
abbrev pub identifiers_of : List Node → List ℕ → List ℕ
identifiers_of nodes places = map (identifier_at nodes) places

-- the lasso text in a walk's text is as long as that
abbrev pub LassosStandAtTheirPlaces : Type 0
LassosStandAtTheirPlaces = (source : List ℕ) → length (lasso_in source) ≡ length source

-- the places are those of nodes
abbrev pub AreInside : List Node → List ℕ → Type 0
AreInside nodes places = All (λ place. place < length nodes) places

-- the line `no`, if there is one
abbrev pub no_line : (refuted : Bool) → List ℕ
no_line refuted = if refuted then codes "no\n" else []

-- the written form of a walk of a game, with names or without, after `no` or without it, says the lasso of its
-- identifiers if it keeps the limit of texts
abbrev pub WrittenWalksAreRead : Type 0
WrittenWalksAreRead =
    (refuted names : Bool) (nodes : List Node) (player : Player) (stem cycle : List ℕ)
    → IsWithinLimits nodes → AreInside nodes stem → AreInside nodes cycle → 0 < length cycle
    → length (no_line refuted ++ walk_text names nodes player stem cycle) ≤ most_text
    → IsWalkText (no_line refuted ++ walk_text names nodes player stem cycle)
    (record { stem = identifiers_of nodes stem; cycle = identifiers_of nodes cycle })
