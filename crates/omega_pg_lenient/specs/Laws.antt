-- Laws of lenient texts, whatever reads them.
use Rattle.std.specs.Prelude.{◌≡◌, ℕ, ◌⊎◌, List, length}
use Rattle.omega_text.specs.declared.refusal.Refusal.{Refusal}
use Rattle.omega_game_values.specs.Game.{Node}
use Rattle.omega_pg.specs.game.Text.{IsGameText}
use Rattle.omega_pg_lenient.specs.Plain.{plain_text}
use Rattle.omega_pg_lenient.specs.Refusing.{RefusesLenient}
use Rattle.omega_pg_lenient.specs.Text.{IsLenientGameText}

-- a plain text has a byte for each of the text
abbrev pub PlainTextsKeepPlaces : Type 0
PlainTextsKeepPlaces = (source : List ℕ) → length (plain_text source) ≡ length source

-- a text describes at most one game
abbrev pub LenientGamesAreOne : Type 0
LenientGamesAreOne =
    (source : List ℕ) (one other : List Node)
    → IsLenientGameText source one → IsLenientGameText source other → one ≡ other

-- a text has at most one refusal
abbrev pub LenientRefusalsAreOne : Type 0
LenientRefusalsAreOne =
    (source : List ℕ) (one other : Refusal)
    → RefusesLenient source one → RefusesLenient source other → one ≡ other

-- a text that describes a game has no refusal
abbrev pub LenientGamesAreNotRefused : Type 0
LenientGamesAreNotRefused =
    (source : List ℕ) (game : List Node) (refusal : Refusal)
    → IsLenientGameText source game → RefusesLenient source refusal → ⊥

-- a text describes a game or has a refusal
abbrev pub LenientTextsAreReadOrRefused : Type 0
LenientTextsAreReadOrRefused =
    (source : List ℕ) → ((game : List Node) × IsLenientGameText source game)
    ⊎ ((refusal : Refusal) × RefusesLenient source refusal)

-- a game text describes the same game as a lenient text
abbrev pub StrictTextsAreLenient : Type 0
StrictTextsAreLenient =
    (source : List ℕ) (game : List Node) → IsGameText source game → IsLenientGameText source game
