-- The sizes of the game of an automaton are the same, however the classes of its states are listed.
use Rattle.std.proofs.Common.{◌≡◌, inl, inr, ℕ, suc, ◌<◌, ◌≤◌, List, [], ◌∷◌, length, get_or, refl, subst, arith}
use Rattle.std.specs.Prelude.{sum_by}
use Rattle.std.proofs.lemmas.Bool.{cases_lt}
use Rattle.std.proofs.lemmas.List.Sums.{sum_by-cons}
use Rattle.omega_text.specs.declared.refusal.game.GameFault.{GameFault}
use Rattle.omega_text.specs.declared.refusal.game.GameFault.TheVariants.{DuplicateNode, HeaderTooSmall, TooManyEdges, TooManyNodes, UndefinedSuccessor}
use Rattle.omega_text.specs.declared.refusal.task.TaskFault.{TaskFault}
use Rattle.omega_hoa_automaton.specs.Automaton.{Description}
use Rattle.omega_game_values.specs.Limits.{most_nodes}
use Rattle.omega_synth_rounds.specs.RoundsGame.{answer_count}
use Rattle.omega_synth_game.specs.Classes.{AreEdgesFrom}
use Rattle.omega_synth_game.specs.Making.{AreClassesOf, HaveFewInputs, IsMakingFault, class_count}
use Rattle.omega_synth_game.specs.SizeLaws.{GameSizesAreOne, LargeGamesAreNotSmall, LargeGamesMentionFew, SizeFaultsAreOne}
use Rattle.omega_synth_game.specs.Sizes.{HasManyNodes, IsSizeFault, edge_total, node_total}
use Rattle.omega_synth_game.proofs.SameClasses.{edges_one, same_in}

-- a sum over a list is at most that over a list that goes as far and has as much at each place
sum_at : (f : List (List ℕ) → ℕ) (xs ys : List (List (List ℕ))) → length xs ≤ length ys
    → ((i : ℕ) → i < length xs → f (get_or xs i []) ≤ f (get_or ys i [])) → sum_by f xs ≤ sum_by f ys
sum_at f [] ys far each = omega arith
sum_at f (x ∷ xs) [] far each = absurd (omega arith)
sum_at f (x ∷ xs) (y ∷ ys) far each =
    omega (arith, each 0 (omega arith), sum_at f xs ys (omega arith) (λ i below. each (suc i) (omega arith)), sum_by-cons f x xs, sum_by-cons f y ys)

module _ (a : Description) (controlled : List ℕ) where
  -- of the first states, as far as one list goes
  module _ (one other : List (List (List ℕ))) (are : AreClassesOf a controlled one) (also : AreClassesOf a controlled other) where
    counted_within : length one ≤ length other → class_count one ≤ class_count other
    counted_within far = sum_at (λ here. length here) one other far (λ i below.
        (let both = same_in a controlled answer_count i (get_or one i []) (get_or other i []) (are i below) (also i (omega (arith, below, far))) in
        omega (arith, both.0)))

    answered_within : length one ≤ length other → sum_by (λ here. sum_by answer_count here) one ≤ sum_by (λ here. sum_by answer_count here) other
    answered_within far = sum_at (λ here. sum_by answer_count here) one other far (λ i below.
        (let both = same_in a controlled answer_count i (get_or one i []) (get_or other i []) (are i below) (also i (omega (arith, below, far))) in
        omega (arith, both.1)))

  sizes_one : (one other : List (List (List ℕ))) → length one ≡ a.states → AreClassesOf a controlled one → length other ≡ a.states
      → AreClassesOf a controlled other → (node_total a one ≡ node_total a other) × (edge_total a one ≡ edge_total a other)
  sizes_one one other all are whole also =
      let up = counted_within one other are also (omega (arith, all, whole)) in
      let down = counted_within other one also are (omega (arith, all, whole)) in
      let more = answered_within one other are also (omega (arith, all, whole)) in
      let less = answered_within other one also are (omega (arith, all, whole)) in
      (omega (arith, up, down), omega (arith, up, down, more, less))

  -- classes of all states that are not too many nodes
  many_excluded : HasManyNodes a controlled → (classes : List (List (List ℕ))) → length classes ≡ a.states → AreClassesOf a controlled classes
      → node_total a classes ≤ most_nodes → ⊥
  many_excluded (inl first) classes all are few = omega (arith, counted_within first.classes classes first.each are (omega (arith, first.few, all)), first.many, few)
  many_excluded (inr long) classes all are few = omega (arith, (sizes_one long.classes classes long.all long.each all are).0, long.many, few)

  -- a state among these has few inputs
  mentions_few : (classes : List (List (List ℕ))) (state : ℕ) (numbers : List ℕ) → AreClassesOf a controlled classes → state < length classes
      → AreEdgesFrom a state numbers → HaveFewInputs a controlled numbers
  mentions_few classes state numbers are below leave =
      let here = are state below in
      subst (HaveFewInputs a controlled) (edges_one a state here.numbers numbers here.leave leave) here.are.few

  -- the first states have too many classes only with a state past those that do not
  further : (classes before : List (List (List ℕ))) → AreClassesOf a controlled classes → AreClassesOf a controlled before
      → most_nodes < class_count classes → class_count before ≤ most_nodes → length before < length classes
  further classes before are also many few = elim (cases_lt (length before) (length classes)) [
    | inl below ↦ below
    | inr not ↦ absurd (omega (arith, counted_within classes before are also (omega (arith, not)), many, few))
  ]

  no_inputs_left : (size : GameFault) (fault : TaskFault) → IsSizeFault a controlled size → (making : IsMakingFault a controlled fault)
      → HaveFewInputs a controlled making.numbers
  no_inputs_left TooManyNodes fault (inl first) making =
      mentions_few first.classes (length making.before) making.numbers first.each
      (further first.classes making.before first.each making.each first.many making.fit) making.leave
  no_inputs_left TooManyNodes fault (inr long) making =
      mentions_few long.classes (length making.before) making.numbers long.each (omega (arith, making.below, long.all)) making.leave
  no_inputs_left TooManyEdges fault many making =
      mentions_few many.classes (length making.before) making.numbers many.each (omega (arith, making.below, many.all)) making.leave
  no_inputs_left DuplicateNode fault is making = absurd is
  no_inputs_left UndefinedSuccessor fault is making = absurd is
  no_inputs_left HeaderTooSmall fault is making = absurd is

pub large_games_mention_few : LargeGamesMentionFew
large_games_mention_few a controlled size fault large making = elim making.asking [
  | inl many ↦ absurd (omega (arith, many.1, no_inputs_left a controlled size fault large making))
  | inr some ↦ some.1
]

pub game_sizes_are_one : GameSizesAreOne
game_sizes_are_one a controlled one other all are whole also = sizes_one a controlled one other all are whole also

pub large_games_are_not_small : LargeGamesAreNotSmall
large_games_are_not_small a controlled TooManyNodes many small = many_excluded a controlled many small.classes small.all small.each small.nodes
large_games_are_not_small a controlled TooManyEdges many small =
    omega (arith, (sizes_one a controlled many.classes small.classes many.all many.each small.all small.each).1, many.many, small.edges)
large_games_are_not_small a controlled DuplicateNode is small = is
large_games_are_not_small a controlled UndefinedSuccessor is small = is
large_games_are_not_small a controlled HeaderTooSmall is small = is

pub size_faults_are_one : SizeFaultsAreOne
size_faults_are_one a controlled TooManyNodes TooManyNodes one other = refl
size_faults_are_one a controlled TooManyNodes TooManyEdges one other = absurd (many_excluded a controlled one other.classes other.all other.each other.few)
size_faults_are_one a controlled TooManyEdges TooManyNodes one other = absurd (many_excluded a controlled other one.classes one.all one.each one.few)
size_faults_are_one a controlled TooManyEdges TooManyEdges one other = refl
size_faults_are_one a controlled one DuplicateNode is other = absurd other
size_faults_are_one a controlled one UndefinedSuccessor is other = absurd other
size_faults_are_one a controlled one HeaderTooSmall is other = absurd other
size_faults_are_one a controlled DuplicateNode other is also = absurd is
size_faults_are_one a controlled UndefinedSuccessor other is also = absurd is
size_faults_are_one a controlled HeaderTooSmall other is also = absurd is
