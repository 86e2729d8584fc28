-- The games that `solve` lifts in, the players that it lifts for, and that its answer counts the lifts reported.
use Rattle.std.specs.Prelude.{◌≡◌, ◌⊎◌, ℕ, List, [], ◌∷◌, Option, None}
use Rattle.omega_text.specs.declared.refusal.Refusal.{Refusal}
use Rattle.omega_game_values.specs.declared.player.Player.{Player}
use Rattle.omega_game_values.specs.declared.player.Player.TheVariants.{One, Zero}
use Rattle.omega_game_values.specs.Game.{Node}
use Rattle.omega_answers_game.specs.Part.{IsPartFrom}
use Rattle.omega_answers_game.specs.Verify.{IsJudgedGame}
use Rattle.omega_answers_game.specs.declared.solve.asked.Asked.{Asked}
use Rattle.omega_answers_game.specs.declared.solve.asked.Asked.TheVariants as way
use Rattle.omega_answers_game.specs.solve.AnswerText.{IsAnswerOf}
use Rattle.omega_solve.specs.budget.Observing.{AreMade, IsSpent, ReportsRun}
use Rattle.omega_solve.specs.declared.budget.observing.Progress.{Progress}

-- the players that a game is lifted for, until the run for one is refused; a search that answers makes no run
abbrev pub AreRuns : Asked → Option Refusal → List Player → Type 0
AreRuns way.Both refusal players = AreMade (Zero ∷ One ∷ []) refusal players
AreRuns way.Search refusal players =
    ((players ≡ []) × (IsSpent refusal → ⊥)) ⊎ AreMade (Zero ∷ One ∷ []) refusal players
AreRuns (way.Player player) refusal players = AreMade (player ∷ []) refusal players

-- `solve` lifts the game of the text, or the part of it that a node reaches
abbrev pub LiftsText : List ℕ → Asked → Option ℕ → Option Refusal → List Node → List Player → Type 0
LiftsText text asked from refusal nodes players =
    IsJudgedGame text from nodes × AreRuns asked refusal players

-- the answer for one player counts as many lifts as the run whose reports the observer got; for both players no lifts
-- are counted
abbrev pub CountsReported : {L : Type 0} → (Progress → L → L → Type 0) → (every : ℕ) → List Node
    → Asked → (budget : ℕ) → (output : List ℕ) → L → L → Type 0
CountsReported tells every nodes way.Both budget output before after = Unit {0}
CountsReported tells every nodes way.Search budget output before after = Unit {0}
CountsReported tells every nodes (way.Player player) budget output before after =
    (lifts : ℕ) × IsAnswerOf nodes player budget lifts output
    × ReportsRun tells every nodes player budget lifts None before after

-- so does the answer for the part of a game that the node with the identifier reaches
abbrev pub CountsReportedOfPart : {L : Type 0} → (Progress → L → L → Type 0) → (every : ℕ)
    → List Node → Asked → (identifier budget : ℕ) → (output : List ℕ) → L → L → Type 0
CountsReportedOfPart tells every game asked identifier budget output before after =
    (nodes : List Node) × IsPartFrom game identifier nodes
    × CountsReported tells every nodes asked budget output before after

-- so does the answer of `solve` for the game of the text, or for the part of it that a node reaches
abbrev pub CountsReportedOfText : {L : Type 0} → (Progress → L → L → Type 0) → (every : ℕ) → List ℕ
    → Asked → Option ℕ → (budget : ℕ) → (output : List ℕ) → L → L → Type 0
CountsReportedOfText tells every text asked from budget output before after =
    (nodes : List Node) × IsJudgedGame text from nodes
    × CountsReported tells every nodes asked budget output before after
