-- The winners that solution texts give: one list or one refusal, and never both.
use Rattle.std.proofs.Common.{◌≡◌, ℕ, ◌≤◌, ◌⊎◌, inl, inr, List, [], ◌∷◌, length, refl, ap, sym, ◌∙◌, subst}
use Rattle.std.specs.List.{range_with_len}
use Rattle.std.proofs.lemmas.Bool.{cases_eq}
use Rattle.std.proofs.lemmas.List.FromFn.{fill_by_all}
use Rattle.std.proofs.lemmas.Simd.{map-map}
use Rattle.omega_text.specs.Cut.{CutsAreOne}
use Rattle.omega_text.specs.Limits.{most_text}
use Rattle.omega_text.specs.Syntax.{IsDecidable as IsDecidedSyntax, IsTextOf, TextFaultsAreOne, TextsAreReadOrFaulty, TextsHaveNoFault}
use Rattle.omega_text.specs.pg.Format.{pg_format}
use Rattle.omega_text.specs.declared.refusal.Refusal.{Refusal}
use Rattle.omega_text.specs.declared.refusal.Refusal.TheVariants.{Automaton, Circuit, Game, Io, Memory, Task, Text}
use Rattle.omega_text.specs.declared.refusal.task.TaskFault.TheVariants.{BadSolution}
use Rattle.omega_game_values.specs.Game.{Node, greatest_identifier, identifiers}
use Rattle.omega_game_values.specs.Solution.{winner_at}
use Rattle.omega_game_values.specs.declared.player.Player.{Player}
use Rattle.omega_game_values.specs.declared.player.Player.TheVariants.{Zero}
use Rattle.omega_pg.specs.solution.Grammar.{RawSolution, SolutionLine, solution_syntax}
use Rattle.omega_pg.specs.solution.Text.{line_at, raw_solution}
use Rattle.omega_pg.specs.solution.WinnerLaws.{SolutionsGiveTheirWinners, WinnerRefusalsAreOne, WinnerTextsAreReadOrRefused, WinnersAreNotRefused, WinnersOfTextsAreOne}
use Rattle.omega_pg.specs.solution.Winners.{IsBadWinners, IsWinnersRefusal, IsWinnersText, NamesNodes, NamesOthers, identifiers_of, winners_of}
use Rattle.omega_pg.proofs.reader.Deciding.{decided_from_run, texts_one}
use Rattle.omega_pg.proofs.solutions.Apart.{refusals_one_by, written_identifiers}
use Rattle.omega_pg.proofs.solutions.Grammar.{decides_solutions}

-- a text gives at most one list of winners
pub winners_one : CutsAreOne pg_format → WinnersOfTextsAreOne
winners_one cuts nodes source one other a b =
    a.given
    ∙ ap (λ (raw : RawSolution). winners_of raw.lines) (texts_one decides_solutions cuts source a.raw b.raw a.writes b.writes)
    ∙ sym b.given

-- and at most one refusal
pub winner_refusals_one : TextFaultsAreOne solution_syntax → TextsHaveNoFault solution_syntax → WinnerRefusalsAreOne
winner_refusals_one same none nodes source one other x y =
    refusals_one_by source (IsBadWinners nodes source) same (λ fault bad faulty. none source bad.raw fault bad.short bad.writes faulty) one other x y

-- what names the nodes does not name others
names_apart : (nodes : List Node) (raw : RawSolution) → NamesNodes nodes raw → NamesOthers nodes raw → ⊥
names_apart nodes raw names (inl other) = other names.number
names_apart nodes raw names (inr other) = other names.named

pub winners_apart : CutsAreOne pg_format → TextsHaveNoFault solution_syntax → WinnersAreNotRefused
winners_apart cuts none nodes source winners (Text fault) text refused = none source text.raw fault text.short text.writes refused
winners_apart cuts none nodes source winners (Game fault) text refused = refused
winners_apart cuts none nodes source winners (Automaton fault) text refused = refused
winners_apart cuts none nodes source winners (Circuit fault) text refused = refused
winners_apart cuts none nodes source winners (Task fault) text refused =
    let bad = refused.1 in
    let same : bad.raw ≡ text.raw = texts_one decides_solutions cuts source bad.raw text.raw bad.writes text.writes in
    names_apart nodes text.raw text.names (subst (NamesOthers nodes) same bad.wrong)
winners_apart cuts none nodes source winners Memory text refused = refused
winners_apart cuts none nodes source winners Io text refused = refused

-- ---- each text gives winners or is refused

-- two lists of numbers are one or not
cases_numbers : (xs ys : List ℕ) → (xs ≡ ys) ⊎ (xs ≡ ys → ⊥)
cases_numbers [] [] = inl refl
cases_numbers [] (y ∷ ys) = inr (λ e. cc)
cases_numbers (x ∷ xs) [] = inr (λ e. cc)
cases_numbers (x ∷ xs) (y ∷ ys) =
    elim (cases_eq x y) as (λ _. (x ∷ xs ≡ y ∷ ys) ⊎ (x ∷ xs ≡ y ∷ ys → ⊥)) [
      | inr other ↦ inr (λ e. other cc)
      | inl same ↦ elim (cases_numbers xs ys) as (λ _. (x ∷ xs ≡ y ∷ ys) ⊎ (x ∷ xs ≡ y ∷ ys → ⊥)) [
        | inl rest ↦ inl cc
        | inr other ↦ inr (λ e. other cc)
      ]
    ]

-- what is written names the nodes of the game or does not
names_or_not : (nodes : List Node) (raw : RawSolution) → NamesNodes nodes raw ⊎ NamesOthers nodes raw
names_or_not nodes raw =
    elim (cases_eq raw.greatest (greatest_identifier nodes)) as (λ _. NamesNodes nodes raw ⊎ NamesOthers nodes raw) [
      | inr other ↦ inr (inl other)
      | inl number ↦ elim (cases_numbers (identifiers_of raw.lines) (identifiers nodes)) as (λ _. NamesNodes nodes raw ⊎ NamesOthers nodes raw) [
        | inr other ↦ inr (inr other)
        | inl named ↦ inl (record { number = number; named = named })
      ]
    ]

written_decided : (nodes : List Node) (source : List ℕ) (raw : RawSolution) → length source ≤ most_text → IsTextOf solution_syntax source raw
    → ((winners : List Player) × IsWinnersText nodes source winners) ⊎ ((refusal : Refusal) × IsWinnersRefusal nodes source refusal)
written_decided nodes source raw short writes =
    elim (names_or_not nodes raw)
    as (λ _. ((winners : List Player) × IsWinnersText nodes source winners) ⊎ ((refusal : Refusal) × IsWinnersRefusal nodes source refusal)) [
      | inl names ↦ inl (winners_of raw.lines, record { short = short; raw = raw; writes = writes; names = names; given = refl })
      | inr wrong ↦ inr (Task BadSolution, (refl, record { short = short; raw = raw; writes = writes; wrong = wrong }))
    ]

pub winner_texts_decided : (IsDecidedSyntax solution_syntax → TextsAreReadOrFaulty solution_syntax) → WinnerTextsAreReadOrRefused
winner_texts_decided read_or nodes source =
    elim (read_or (decided_from_run decides_solutions) source)
    as (λ _. ((winners : List Player) × IsWinnersText nodes source winners) ⊎ ((refusal : Refusal) × IsWinnersRefusal nodes source refusal)) [
      | inl text ↦ written_decided nodes source text.1.0 text.0 text.1.1
      | inr faulty ↦ inr (Text faulty.0, faulty.1)
    ]

-- ---- a solution's winners

pub solutions_winners : SolutionsGiveTheirWinners
solutions_winners nodes source solution text = record {
  short = text.short;
  raw = raw_solution nodes solution;
  writes = text.writes;
  names = record { number = refl; named = written_identifiers nodes solution };
  given = fill_by_all (winner_at solution) solution.winners (length nodes) Zero text.fits.winners (λ v h. refl)
      ∙ sym (map-map (λ (line : SolutionLine). line.winner) (line_at nodes solution) (range_with_len 0 (length nodes)));
}
