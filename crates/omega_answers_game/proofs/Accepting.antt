-- What is written of an exact solution is judged to be right.
use Rattle.std.proofs.Common.{◌≡◌, ℕ, zero, suc, ◌≤◌, ◌++◌, inl, inr, Bool, true, false, IsTrue, List, [], ◌∷◌, Option, Some, None, length, refl, sym, subst, arith}
use Rattle.std.specs.Prelude.{codes}
use Rattle.std.specs.List.{Contains}
use Rattle.omega_text.specs.Limits.{most_text}
use Rattle.omega_text.specs.declared.refusal.Refusal.{Refusal}
use Rattle.omega_text.specs.declared.refusal.Refusal.TheVariants.{Automaton, Circuit, Game, Io, Memory, Task, Text}
use Rattle.omega_game.specs.declared.lasso.Lasso.{Lasso}
use Rattle.omega_game_values.specs.declared.player.Player.{Player}
use Rattle.omega_game.specs.Counterexample.{IsCounterexample}
use Rattle.omega_game_values.specs.Game.{IsGame, IsWithinLimits, Node}
use Rattle.omega_game_reaching.specs.Laws.{PartsAreGames, PartsKeepNodes}
use Rattle.omega_game_values.specs.Player.{loses}
use Rattle.omega_game_values.specs.Winning.{IsClosedWalk, Wins, end_of, greatest_on}
use Rattle.omega_io.specs.declared.exit.Exit.{Exit}
use Rattle.omega_io.specs.declared.exit.Exit.TheVariants.{Done, No}
use Rattle.omega_pg.specs.game.Laws.{GamesAreNotRefused, GamesOfTextsAreOne}
use Rattle.omega_pg.specs.solution.Canonical.{solution_text}
use Rattle.omega_pg.specs.solution.Laws.{SolutionsAreNotRefused, SolutionsOfTextsAreOne, WrittenSolutionsAreRead}
use Rattle.omega_game_values.specs.Solution.{WinsAsGiven, choices_of}
use Rattle.omega_pg.specs.solution.Text.{IsSolutionText}
use Rattle.omega_game_values.specs.declared.solution.Solution.{Solution}
use Rattle.omega_answers_game.specs.Verify.{IsJudgedGame, IsJudgedGameRefusal, IsSolutionVerdict, IsVerifyAnswer, IsVerifyRefusal, LosesGiven}
use Rattle.omega_answers_game.specs.solve.Solution.{IsExactSolutionOf}
use Rattle.omega_answers_game.proofs.Parts.{part-limits, part_from-unique}

-- ---- a choice that wins has no counterexample

-- a stem and the first place of a cycle end there
end_of-stem : (stem : List ℕ) (first start : ℕ) (there : List ℕ) → stem ++ first ∷ [] ≡ start ∷ there → end_of start there ≡ first
end_of-stem [] first start [] e = cc
end_of-stem [] first start (w ∷ ws) e = cc
end_of-stem (s ∷ []) first start there e =
    let rest : first ∷ [] ≡ there = cc in rw (← rest) refl
end_of-stem (s ∷ t ∷ ts) first start there e =
    let rest : t ∷ (ts ++ first ∷ []) ≡ there = cc in rw (← rest) (end_of-stem (t ∷ ts) first t (ts ++ first ∷ []) refl)

only-member : (x u : ℕ) → Contains (x ∷ []) u → u ≡ x
only-member x u (zero, h, e) = sym e
only-member x u (suc j, h, e) = absurd (omega arith)

-- a lasso against choices that win from its first place
lost_won : (nodes : List Node) (player : Player) (choices : List (Option ℕ)) (start : ℕ) (lasso : Lasso)
    → IsCounterexample nodes player choices (start ∷ []) lasso → Wins nodes player choices start → ⊥
lost_won nodes player choices start lasso lost wins =
    let only : lost.start ≡ start = only-member start lost.start lost.listed in
    let ends : end_of lost.start lost.there ≡ lost.first = end_of-stem lasso.stem lost.first lost.start lost.there lost.stem in
    let closed : IsClosedWalk nodes player choices (end_of lost.start lost.there) (lost.onward ++ lost.first ∷ []) =
    subst (λ (v : ℕ). IsClosedWalk nodes player choices v (lost.onward ++ lost.first ∷ [])) (sym ends) lost.closed in
    let loses_there : IsTrue (loses player (greatest_on nodes (end_of lost.start lost.there) (lost.onward ++ lost.first ∷ []))) =
    subst (λ (v : ℕ). IsTrue (loses player (greatest_on nodes v (lost.onward ++ lost.first ∷ [])))) (sym ends) lost.lost in
    let wins' : Wins nodes player choices lost.start = subst (Wins nodes player choices) (sym only) wins in
    wins' lost.there (lost.onward ++ lost.first ∷ []) lost.walk closed loses_there

-- no lasso is against choices that win as given
loses_not : (nodes : List Node) (solution : Solution) (player : Player) (lasso : Lasso) → WinsAsGiven nodes solution
    → LosesGiven nodes solution player lasso → ⊥
loses_not nodes solution player lasso wins loses_given =
    lost_won nodes player (choices_of solution player) loses_given.start lasso loses_given.lost
    (wins player loses_given.start loses_given.node loses_given.given)

-- the verdict on a solution that wins as given is `yes`
verdict-yes : (nodes : List Node) (solution : Solution) (explain : Bool) (exit : Exit) (output : List ℕ) → WinsAsGiven nodes solution
    → IsSolutionVerdict nodes solution explain exit output → (exit ≡ Done) × (output ≡ codes "yes\n")
verdict-yes nodes solution explain Done output wins verdict = (refl, verdict.1)
verdict-yes nodes solution false No output wins verdict = absurd (verdict.0 wins)
verdict-yes nodes solution true No output wins verdict = absurd (loses_not nodes solution verdict.player verdict.lasso wins verdict.loses)

-- ---- the game that is judged

-- a text has one game that is judged
pub judged-unique : (text : List ℕ) (from : Option ℕ) (one other : List Node) → GamesOfTextsAreOne → IsJudgedGame text from one
    → IsJudgedGame text from other → one ≡ other
judged-unique text None one other games first second = games text one other first second
judged-unique text (Some identifier) one other games first second =
    let same = games text first.game second.game first.read second.read in
    part_from-unique second.game identifier one other second.read.rearranged.game (rw same at first.part_of) second.part_of

-- it is a game within the limits
pub judged-game : (text : List ℕ) (from : Option ℕ) (nodes : List Node) → PartsAreGames → PartsKeepNodes → IsJudgedGame text from nodes
    → IsGame nodes × IsWithinLimits nodes
judged-game text None nodes games keeps judged = (judged.rearranged.game, judged.limits)
judged-game text (Some identifier) nodes games keeps judged =
    let game = judged.read.rearranged.game in
    let part = judged.part_of in (
      games judged.game nodes part.place game part.identified.node part.reached,
      part-limits judged.game part.place part.reached.0 nodes keeps game judged.read.limits part.reached.1,
    )

-- a text that has a game to be judged is not refused
judged-not_refused : (text : List ℕ) (from : Option ℕ) (nodes : List Node) (refusal : Refusal) → GamesOfTextsAreOne → GamesAreNotRefused
    → IsJudgedGame text from nodes → IsJudgedGameRefusal text from refusal → ⊥
judged-not_refused text None nodes refusal games refused judged h = refused text nodes refusal judged h
judged-not_refused text (Some identifier) nodes (Task fault) games refused judged h =
    let same = games text judged.game h.1.game judged.read h.1.read in
    h.1.unknown judged.part_of.place (rw same at judged.part_of.identified)
judged-not_refused text (Some identifier) nodes (Text fault) games refused judged h = refused text judged.game (Text fault) judged.read h
judged-not_refused text (Some identifier) nodes (Game fault) games refused judged h = refused text judged.game (Game fault) judged.read h
judged-not_refused text (Some identifier) nodes (Automaton fault) games refused judged h = refused text judged.game (Automaton fault) judged.read h
judged-not_refused text (Some identifier) nodes (Circuit fault) games refused judged h = refused text judged.game (Circuit fault) judged.read h
judged-not_refused text (Some identifier) nodes Memory games refused judged h = refused text judged.game Memory judged.read h
judged-not_refused text (Some identifier) nodes Io games refused judged h = refused text judged.game Io judged.read h

-- ---- what is written of an exact solution

-- the text of an exact solution is that of the solution
exact-read : (nodes : List Node) (output : List ℕ) → WrittenSolutionsAreRead → IsGame nodes → IsWithinLimits nodes
    → (exact : IsExactSolutionOf nodes output) → length output ≤ most_text → IsSolutionText nodes output exact.solution
exact-read nodes output written game limits exact short =
    let short' : length (solution_text nodes exact.solution) ≤ most_text = rw exact.written at short in
    rw exact.written (written nodes exact.solution game limits exact.exact.fits short')

-- and is judged to be right
pub exact-verified : (text : List ℕ) (from : Option ℕ) (nodes : List Node) (solved : List ℕ) (explain : Bool) (exit : Exit) (output : List ℕ)
    → GamesOfTextsAreOne → PartsAreGames → PartsKeepNodes → WrittenSolutionsAreRead → SolutionsOfTextsAreOne
    → IsJudgedGame text from nodes → IsExactSolutionOf nodes solved → length solved ≤ most_text
    → IsVerifyAnswer text from solved explain exit output → (exit ≡ Done) × (output ≡ codes "yes\n")
exact-verified text from nodes solved explain exit output games parts keeps written ones judged exact short answer =
    let is_game = judged-game text from nodes parts keeps judged in
    let same_game = judged-unique text from answer.game nodes games answer.judged judged in
    let read = exact-read nodes solved written is_game.0 is_game.1 exact short in
    let read' : IsSolutionText nodes solved answer.solution = rw same_game at answer.read in
    let same : answer.solution ≡ exact.solution = ones nodes solved answer.solution exact.solution is_game.0 read' read in
    let verdict : IsSolutionVerdict nodes exact.solution explain exit output = rw (same_game, same) at answer.verdict in
    verdict-yes nodes exact.solution explain exit output exact.exact.wins verdict

-- and is not refused
pub exact-not_refused : (text : List ℕ) (from : Option ℕ) (nodes : List Node) (solved : List ℕ) (refusal : Refusal)
    → GamesOfTextsAreOne → GamesAreNotRefused → PartsAreGames → PartsKeepNodes → WrittenSolutionsAreRead → SolutionsAreNotRefused
    → IsJudgedGame text from nodes → IsExactSolutionOf nodes solved → length solved ≤ most_text
    → IsVerifyRefusal text from solved refusal → ⊥
exact-not_refused text from nodes solved refusal games refused parts keeps written solutions judged exact short h =
    let is_game = judged-game text from nodes parts keeps judged in
    let read = exact-read nodes solved written is_game.0 is_game.1 exact short in
    elim h [
      | inl game ↦ judged-not_refused text from nodes refusal games refused judged game
      | inr other ↦
          let same = judged-unique text from other.game nodes games other.judged judged in
          solutions nodes solved exact.solution refusal read (rw same at other.refused)
    ]
