-- What `canon --min` writes is read as the turned game.
use Rattle.std.proofs.Common.{◌≡◌, ℕ, ◌≤◌, List, Option, length, ap, sym, ◌∙◌, subst}
use Rattle.omega_text.specs.Limits.{most_text}
use Rattle.omega_game_reaching.specs.Laws.{PartsAreGames, PartsKeepNodes}
use Rattle.omega_game_values.specs.Game.{Node}
use Rattle.omega_pg.specs.game.Canonical.{canonical_game}
use Rattle.omega_pg.specs.game.Laws.{CanonicalGamesAreRead, GamesOfTextsAreOne}
use Rattle.omega_pg.specs.game.Text.{IsGameText}
use Rattle.omega_answers_game.specs.Least.{IsCanonLeastAnswer}
use Rattle.omega_answers_game.specs.LeastPriorityLaws.{TurnedGamesAreGames, TurnedGamesKeepLimits}
use Rattle.omega_answers_game.specs.Turning.{turned_game}
use Rattle.omega_answers_game.specs.Verify.{IsJudgedGame}
use Rattle.omega_answers_game.proofs.Accepting.{judged-game, judged-unique}

pub turned-read : (text : List ℕ) (from : Option ℕ) (game : List Node) (output : List ℕ) → GamesOfTextsAreOne → PartsAreGames
    → PartsKeepNodes → CanonicalGamesAreRead → TurnedGamesAreGames → TurnedGamesKeepLimits → IsJudgedGame text from game
    → IsCanonLeastAnswer text from output → length output ≤ most_text → IsGameText output (turned_game game)
turned-read text from game output ones parts keeps read games limits judged answer short =
    let same : answer.game ≡ game = judged-unique text from answer.game game ones answer.judged judged in
    let written : output ≡ canonical_game (turned_game game) = answer.written ∙ ap (λ (nodes : List Node). canonical_game (turned_game nodes)) same in
    let is_game = judged-game text from game parts keeps judged in
    let few : length (canonical_game (turned_game game)) ≤ most_text = subst (λ (bytes : List ℕ). length bytes ≤ most_text) written short in
    subst (λ (bytes : List ℕ). IsGameText bytes (turned_game game)) (sym written)
    (read (turned_game game) (games game is_game.0) (limits game is_game.1) few)
