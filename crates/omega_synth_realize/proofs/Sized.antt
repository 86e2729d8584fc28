-- The sizes of the game of the rounds of an automaton are those by the classes of letters in its states.
use Rattle.std.proofs.Common.{◌≡◌, ℕ, ◌+◌, ◌-◌, ◌<◌, inl, inr, List, [], ◌∷◌, ◌++◌, length, Result, Ok, Err, ap, refl, ◌∙◌, arith}
use Rattle.std.specs.Prelude.{OnOk, sum_by}
use Rattle.std.specs.List.{flat_map}
use Rattle.std.proofs.lemmas.List.Concat.{length-flat_map}
use Rattle.std.proofs.lemmas.List.Sums.{sum_by-append, sum_by-cons}
use Rattle.omega_text.specs.declared.refusal.Refusal.{Refusal}
use Rattle.omega_text.specs.declared.refusal.game.GameFault.{GameFault}
use Rattle.omega_text.specs.declared.refusal.game.GameFault.TheVariants.{DuplicateNode, HeaderTooSmall, TooManyEdges, TooManyNodes, UndefinedSuccessor}
use Rattle.omega_hoa_automaton.specs.Automaton.{Description}
use Rattle.omega_game_values.specs.Building.{listed_successors}
use Rattle.omega_synth_rounds.specs.RoundsGame.{FitsAGame, IsRoundsFault, answer_count, node_count, table}
use Rattle.omega_synth_rounds.specs.declared.rounds.QuestionRange.{QuestionRange}
use Rattle.omega_synth_rounds.specs.declared.rounds.Rounds.{Rounds}
use Rattle.omega_synth_rounds.proofs.Successors.{listed_by_parts, range_count}
use Rattle.omega_synth_game.specs.Laws.{IsParted}
use Rattle.omega_synth_game.specs.Making.{HasManyQuestions, class_count, ranges_from}
use Rattle.omega_synth_game.specs.SizeLaws.{LargeGamesAreNotSmall, SizeFaultsAreOne}
use Rattle.omega_synth_game.specs.Sizes.{HasManyNodes, IsGameSmall, edge_total, node_total}
use Rattle.omega_synth_realize.specs.Laws.{LargeGamesAreNotDecided}
use Rattle.omega_synth_realize.specs.Refusing.{HasNoLargeGame, IsJudgeable, IsLargeFault, IsPosed}

-- the ranges of classes have as many questions as there are classes
ranges_sum : (first : ℕ) (classes : List (List (List ℕ))) → sum_by range_count (ranges_from first classes) ≡ class_count classes
ranges_sum first [] = refl
ranges_sum first (here ∷ rest) =
    let range : QuestionRange = record { first = first; end = first + length here } in
    let own : range_count range ≡ length here = omega arith in
    omega (
      arith,
      own,
      ranges_sum (first + length here) rest,
      sum_by-cons range_count range (ranges_from (first + length here) rest),
      sum_by-cons (λ (those : List (List ℕ)). length those) here rest,
    )

-- the answers of all classes are those of the classes of each state
answers_sum : (classes : List (List (List ℕ)))
    → sum_by answer_count (flat_map (λ (those : List (List ℕ)). those) classes) ≡ sum_by (λ (those : List (List ℕ)). sum_by answer_count those) classes
answers_sum [] = refl
answers_sum (here ∷ rest) =
    omega (
      arith,
      answers_sum rest,
      sum_by-append answer_count here (flat_map (λ (those : List (List ℕ)). those) rest),
      sum_by-cons (λ (those : List (List ℕ)). sum_by answer_count those) here rest,
    )

-- too many questions are too many nodes
pub many_nodes : (a : Description) (controlled : List ℕ) → HasManyQuestions a controlled → HasManyNodes a controlled
many_nodes a controlled many = inl many

-- what follows where there is an answer
pub on_ok_weaker : {X : Type 0} (r : Result X Refusal) (P Q : Type 0) → (P → Q) → OnOk r P → OnOk r Q
on_ok_weaker (Ok x) P Q weaker p = weaker p
on_ok_weaker (Err e) P Q weaker p = tt

module _ (a : Description) (controlled : List ℕ) (rounds : Rounds) (letters : List (List ℕ)) (start : ℕ)
    (parted : IsParted a controlled rounds letters start) where
  abbrev classes : List (List (List ℕ))
  classes = parted.by_state.classes

  questions_count : length rounds.questions ≡ class_count classes
  questions_count = ap length parted.by_state.questions ∙ length-flat_map (λ (those : List (List ℕ)). those) classes

  nodes_are : node_count rounds ≡ node_total a classes
  nodes_are = omega (arith, questions_count, parted.rounds_are.states, parted.rounds_are.edges)

  edges_are : listed_successors (table rounds) ≡ edge_total a classes
  edges_are =
      omega (
        arith,
        listed_by_parts rounds,
        ap (sum_by range_count) parted.by_state.ranges,
        ranges_sum 0 classes,
        parted.rounds_are.edges,
        ap (sum_by answer_count) parted.by_state.questions,
        answers_sum classes,
      )

  pub posed : IsJudgeable a → IsPosed a
  posed judgeable = record { judgeable = judgeable; begins = (start, parted.begins) }

  -- a game of rounds that is too large is too large by these sizes
  pub large : IsJudgeable a → (fault : GameFault) → IsRoundsFault rounds fault → IsLargeFault a controlled fault
  large judgeable TooManyNodes many = (
    posed judgeable,
    inr (record {
      classes = classes;
      all = parted.by_state.all;
      each = parted.by_state.each;
      many = omega (arith, many, nodes_are);
    }),
  )
  large judgeable TooManyEdges many = (
    posed judgeable,
    record {
      classes = classes;
      all = parted.by_state.all;
      each = parted.by_state.each;
      few = omega (arith, many.0, nodes_are);
      many = omega (arith, many.1, edges_are);
    },
  )
  large judgeable DuplicateNode is = absurd is
  large judgeable UndefinedSuccessor is = absurd is
  large judgeable HeaderTooSmall is = absurd is

  -- and one that fits is not
  pub small : FitsAGame rounds → IsGameSmall a controlled
  small fits = record {
    classes = classes;
    all = parted.by_state.all;
    each = parted.by_state.each;
    nodes = omega (arith, fits.nodes, nodes_are);
    edges = omega (arith, fits.successors, edges_are);
  }

-- so a game that is too large is neither answered nor lifted
pub large_alone : LargeGamesAreNotSmall → SizeFaultsAreOne → LargeGamesAreNotDecided
large_alone not_small one a controlled fault large = record {
  unanswered = λ answered. elim answered [
    | inl none ↦ (let begins = large.0.begins.1 in omega (arith, begins.1, ap length none))
    | inr is_small ↦ not_small a controlled fault large.1 is_small
  ];
  unlifted = λ budget lifting is. not_small a controlled fault large.1 (small a controlled is.rounds is.letters is.start is.parted is.is.fits);
  only = λ other is. one a controlled fault other large.1 is.1;
}
