-- Each text describes a solution of the game or has a refusal, and the reasons of `BadSolution` are exact.
use Rattle.std.proofs.Common.{◌≡◌, ◌≢◌, ℕ, ◌<◌, ◌⊎◌, inl, inr, Bool, true, false, Option, Some, None, List, [], ◌∷◌, ◌++◌, ◌≤◌, length, refl, sym, subst, append_assoc, append-nil, arith, All, length-append}
use Rattle.std.proofs.Math.Seq.{get_or-append_seam}
use Rattle.std.specs.Prelude.{Contains}
use Rattle.std.proofs.lemmas.Bool.{cases_eq, cases_lt}
use Rattle.std.proofs.lemmas.List.Elements.{All-nil, All-push, Contains-append_left, Contains-push}
use Rattle.omega_text.specs.Limits.{most_text}
use Rattle.omega_text.specs.declared.refusal.Refusal.{Refusal}
use Rattle.omega_text.specs.declared.refusal.Refusal.TheVariants.{Task, Text}
use Rattle.omega_text.specs.declared.refusal.task.TaskFault.TheVariants.{BadSolution}
use Rattle.omega_game_values.specs.Game.{Node, owner_at, successors_at, greatest_identifier, identifier_at}
use Rattle.omega_game_values.specs.declared.player.Player.{Player}
use Rattle.omega_game_values.specs.declared.player.Player.TheVariants.{One, Zero}
use Rattle.omega_pg.specs.solution.BadSolution.{IsNoSolution, IsWrongSuccessor}
use Rattle.omega_pg.specs.solution.Grammar.{SolutionLine, RawSolution, no_line, solution_syntax}
use Rattle.omega_game_values.specs.Solution.{IsSolution}
use Rattle.omega_pg.specs.solution.Text.{raw_solution, IsSolutionText}
use Rattle.omega_pg.specs.solution.Laws.{SolutionTextsAreReadOrRefused}
use Rattle.omega_pg.specs.private.solution.reader.Lines.{AreJudged, IsWrongLine, Says}
use Rattle.omega_pg.specs.solution.Refusing.{IsSolutionRefusal}
use Rattle.omega_text.specs.Syntax.{IsDecidable as IsDecidedSyntax, IsTextOf, TextsAreReadOrFaulty}
use Rattle.omega_game_values.specs.declared.solution.Solution.{Solution}
use Rattle.omega_pg.proofs.reader.Deciding.{decided_from_run}
use Rattle.omega_pg.proofs.solutions.Judging.{judged_kept, judged_wrong}
use Rattle.omega_pg.proofs.solutions.Outcomes.{other_count, other_number, outcome_kept, solution_of, wrong_line}
use Rattle.omega_pg.proofs.solutions.Grammar.{decides_solutions}

-- two players are one or not
cases_player : (one other : Player) → (one ≡ other) ⊎ (one ≡ other → ⊥)
cases_player Zero Zero = inl refl
cases_player Zero One = inr (λ e. cc)
cases_player One Zero = inr (λ e. cc)
cases_player One One = inl refl

-- a place among some with this identifier, or none of them has it
pub listed_or_not : (nodes : List Node) (places done : List ℕ) (id : ℕ) → All (λ w. identifier_at nodes w ≢ id) done
    → ((w : ℕ) × Contains (done ++ places) w × (identifier_at nodes w ≡ id)) ⊎ All (λ w. identifier_at nodes w ≢ id) (done ++ places)
listed_or_not nodes [] done id others = inr (subst (All (λ w. identifier_at nodes w ≢ id)) (sym (append-nil done)) others)
listed_or_not nodes (w ∷ places) done id others =
    elim (cases_eq (identifier_at nodes w) id)
    as (λ _. ((u : ℕ) × Contains (done ++ w ∷ places) u × (identifier_at nodes u ≡ id)) ⊎ All (λ u. identifier_at nodes u ≢ id) (done ++ w ∷ places)) [
      | inl same ↦ inl (
        w,
        subst (λ list. Contains list w) (append_assoc done (w ∷ []) places)
            (Contains-append_left (done ++ w ∷ []) places w (Contains-push done w)),
        same,
      )
      | inr other ↦ subst (λ list. ((u : ℕ) × Contains list u × (identifier_at nodes u ≡ id)) ⊎ All (λ u. identifier_at nodes u ≢ id) list)
          (append_assoc done (w ∷ []) places)
          (listed_or_not nodes places (done ++ w ∷ []) id (All-push (λ u. identifier_at nodes u ≢ id) done w others other))
    ]

-- a line with a successor says a choice, or is wrong
successor_judged : (nodes : List Node) (v : ℕ) (id : ℕ) (winner : Player) (successor : Option ℕ) → v < length nodes → id ≡ identifier_at nodes v
    → ((choice : Option ℕ) × Says nodes v (record { identifier = id; winner = winner; successor = successor }) choice)
    ⊎ IsWrongSuccessor nodes v winner successor
successor_judged nodes v id winner None inside same =
    elim (cases_player (owner_at nodes v) winner)
    as (λ _. ((choice : Option ℕ) × Says nodes v (record { identifier = id; winner = winner; successor = None }) choice) ⊎ IsWrongSuccessor nodes v winner None) [
      | inl own ↦ inr own
      | inr other ↦ inl (
        None,
        record {
          inside = inside;
          identifier = same;
          successor = refl;
          chosen = ((λ some. absurd (let clash : false ≡ true = some in cc)), (λ own. absurd (other own)));
          listed = tt;
        },
      )
    ]
successor_judged nodes v id winner (Some chosen) inside same =
    elim (cases_player (owner_at nodes v) winner)
    as (λ _. ((choice : Option ℕ) × Says nodes v (record { identifier = id; winner = winner; successor = Some chosen }) choice) ⊎ IsWrongSuccessor nodes v winner (Some chosen)) [
      | inr other ↦ inr (inl other)
      | inl own ↦ elim (listed_or_not nodes (successors_at nodes v) [] chosen (All-nil (λ w. identifier_at nodes w ≢ chosen)))
          as (λ _. ((choice : Option ℕ) × Says nodes v (record { identifier = id; winner = winner; successor = Some chosen }) choice) ⊎ IsWrongSuccessor nodes v winner (Some chosen)) [
            | inl found ↦ inl (
              Some found.0,
              record {
                inside = inside;
                identifier = same;
                successor = (let there : chosen ≡ identifier_at nodes found.0 = sym found.2 in cc);
                chosen = ((λ some. own), (λ same. refl));
                listed = found.1;
              },
            )
            | inr others ↦ inr (inr others)
          ]
    ]

-- a line says a choice, or is wrong
line_judged : (nodes : List Node) (v : ℕ) (line : SolutionLine) → ((choice : Option ℕ) × Says nodes v line choice) ⊎ IsWrongLine nodes v line
line_judged nodes v line =
    elim (cases_lt v (length nodes)) as (λ _. ((choice : Option ℕ) × Says nodes v line choice) ⊎ IsWrongLine nodes v line) [
      | inr past ↦ inr (inl past)
      | inl inside ↦ elim (cases_eq line.identifier (identifier_at nodes v)) as (λ _. ((choice : Option ℕ) × Says nodes v line choice) ⊎ IsWrongLine nodes v line) [
        | inr other ↦ inr (inr (inl other))
        | inl same ↦ elim (successor_judged nodes v line.identifier line.winner line.successor inside same)
            as (λ _. ((choice : Option ℕ) × Says nodes v line choice) ⊎ IsWrongLine nodes v line)
            [ inl said ↦ inl said | inr wrong ↦ inr (inr (inr wrong)) ]
      ]
    ]

-- lines as they are judged
record Judged (nodes : List Node) (lines : List SolutionLine) : Type 0 where
  pub good : Bool
  pub winners : List Player
  pub zeros : List (Option ℕ)
  pub ones : List (Option ℕ)
  pub judged : AreJudged nodes lines good winners zeros ones

-- one line more is judged
judged_more : (nodes : List Node) (lines : List SolutionLine) (line : SolutionLine) (good : Bool) (winners : List Player) (zeros ones : List (Option ℕ))
    → AreJudged nodes lines good winners zeros ones → Judged nodes (lines ++ line ∷ [])
judged_more nodes lines line false winners zeros ones judged =
    record { good = false; winners = winners; zeros = zeros; ones = ones; judged = judged_wrong nodes lines (line ∷ []) false winners zeros ones refl judged }
judged_more nodes lines line true winners zeros ones judged =
    elim (line_judged nodes (length winners) line) as (λ _. Judged nodes (lines ++ line ∷ [])) [
      | inl said ↦ record {
        good = true;
        winners = _;
        zeros = _;
        ones = _;
        judged = judged_kept nodes lines line said.0 true true winners _ zeros _ ones _ (length winners) (owner_at nodes (length winners))
            refl refl refl refl said.1 refl refl refl judged;
      }
      | inr wrong ↦ record {
        good = false;
        winners = winners;
        zeros = zeros;
        ones = ones;
        judged = record {
          place = length lines;
          inside = omega (arith, length-append lines (line ∷ []));
          wrong = subst (IsWrongLine nodes (length lines)) (sym (get_or-append_seam lines line [] no_line))
              (subst (λ v. IsWrongLine nodes v line) judged.winners_count wrong);
        };
      }
    ]

-- lines after judged ones are judged
lines_judged : (nodes : List Node) (front rest : List SolutionLine) → Judged nodes front → Judged nodes (front ++ rest)
lines_judged nodes front [] judged = subst (Judged nodes) (sym (append-nil front)) judged
lines_judged nodes front (line ∷ rest) judged =
    subst (Judged nodes) (append_assoc front (line ∷ []) rest)
    (lines_judged nodes (front ++ line ∷ []) rest
    (judged_more nodes front line judged.good judged.winners judged.zeros judged.ones judged.judged))

-- no line is judged yet
none_judged : (nodes : List Node) → Judged nodes []
none_judged nodes = record {
  good = true;
  winners = [];
  zeros = [];
  ones = [];
  judged = record { winners_count = refl; zero_count = refl; one_count = refl; said = λ v h. absurd (omega (arith, h)) };
}

-- what is written is a solution of the game, or has a reason to be refused
abbrev IsDecided : List Node → RawSolution → Type 0
IsDecided nodes raw = ((solution : Solution) × IsSolution nodes solution × (raw ≡ raw_solution nodes solution)) ⊎ IsNoSolution nodes raw

judged_decided : (nodes : List Node) (greatest : ℕ) (lines : List SolutionLine) (good : Bool) (winners : List Player) (zeros ones : List (Option ℕ))
    → AreJudged nodes lines good winners zeros ones → IsDecided nodes (record { greatest = greatest; lines = lines })
judged_decided nodes greatest lines false winners zeros ones judged = inr (wrong_line nodes greatest lines false winners zeros ones refl judged)
judged_decided nodes greatest lines true winners zeros ones judged =
    elim (cases_eq (length winners) (length nodes)) as (λ _. IsDecided nodes (record { greatest = greatest; lines = lines })) [
      | inr other ↦ inr (other_count nodes greatest lines true winners zeros ones refl other judged)
      | inl count ↦ elim (cases_eq greatest (greatest_identifier nodes)) as (λ _. IsDecided nodes (record { greatest = greatest; lines = lines })) [
        | inr other ↦ inr (other_number nodes greatest lines (λ e. other (sym e)))
        | inl top ↦
            let kept = outcome_kept nodes greatest lines true winners winners zeros zeros ones ones refl count top refl refl refl judged in
            inl (solution_of winners zeros ones, kept.0, kept.1)
      ]
    ]

pub raw_decided : (nodes : List Node) (raw : RawSolution) → IsDecided nodes raw
raw_decided nodes raw =
    let all = lines_judged nodes [] raw.lines (none_judged nodes) in
    judged_decided nodes raw.greatest raw.lines all.good all.winners all.zeros all.ones all.judged

-- a text that writes a solution describes it, and another is refused with `BadSolution`
written_decided : (nodes : List Node) (source : List ℕ) (raw : RawSolution) → length source ≤ most_text → IsTextOf solution_syntax source raw
    → ((solution : Solution) × IsSolutionText nodes source solution) ⊎ ((refusal : Refusal) × IsSolutionRefusal nodes source refusal)
written_decided nodes source raw short writes =
    elim (raw_decided nodes raw)
    as (λ _. ((solution : Solution) × IsSolutionText nodes source solution) ⊎ ((refusal : Refusal) × IsSolutionRefusal nodes source refusal)) [
      | inl found ↦ inl (found.0, record { short = short; writes = subst (IsTextOf solution_syntax source) found.2 writes; fits = found.1 })
      | inr wrong ↦ inr (Task BadSolution, (refl, record { short = short; raw = raw; writes = writes; wrong = wrong }))
    ]

-- each text is read or refused
pub solution_texts_decided : (IsDecidedSyntax solution_syntax → TextsAreReadOrFaulty solution_syntax) → SolutionTextsAreReadOrRefused
solution_texts_decided read_or nodes source =
    elim (read_or (decided_from_run decides_solutions) source)
    as (λ _. ((solution : Solution) × IsSolutionText nodes source solution) ⊎ ((refusal : Refusal) × IsSolutionRefusal nodes source refusal)) [
      | inl text ↦ written_decided nodes source text.1.0 text.0 text.1.1
      | inr faulty ↦ inr (Text faulty.0, faulty.1)
    ]
