-- How many successors the nodes of the game of rounds list: those of the states, the edges, the sink and the questions.
use Rattle.std.proofs.Common.{◌≡◌, ℕ, zero, suc, ◌+◌, ◌-◌, ◌<◌, List, [], ◌∷◌, length, map, get_or, sym, ap, refl, ◌∙◌, arith}
use Rattle.std.specs.Prelude.{sum_by}
use Rattle.std.specs.List.{range_with_len}
use Rattle.std.proofs.lemmas.List.{length-map}
use Rattle.std.proofs.lemmas.List.FromFn.{length-range_with_len}
use Rattle.std.proofs.lemmas.List.Sums.{sum_by-cons}
use Rattle.omega_game_values.specs.Building.{listed_successors}
use Rattle.omega_game_values.specs.declared.node_spec.NodeSpec.{NodeSpec}
use Rattle.omega_synth_rounds.specs.Rounds.{answers_of, no_edge, no_range, questions_of, range_at}
use Rattle.omega_synth_rounds.specs.RoundsGame.{answer_count, edge_place, node_count, node_for, or_sink, question_place, sink_place, table}
use Rattle.omega_synth_rounds.specs.declared.rounds.QuestionRange.{QuestionRange}
use Rattle.omega_synth_rounds.specs.declared.rounds.RoundEdge.{RoundEdge}
use Rattle.omega_synth_rounds.specs.declared.rounds.Rounds.{Rounds}
use Rattle.omega_synth_rounds.proofs.Placing.{at_edge, at_question, at_sink, at_state}

-- the sum over a range in two parts
sum_split : (size : ℕ → ℕ) (first m n total next : ℕ) → total ≡ m + n → next ≡ first + m
    → sum_by size (range_with_len first total) ≡ sum_by size (range_with_len first m) + sum_by size (range_with_len next n)
sum_split size first zero n total next whole after =
    let all : total ≡ n = omega (arith, whole) in
    let same : next ≡ first = omega (arith, after) in
    omega (
      arith,
      ap (λ k. sum_by size (range_with_len first k)) all,
      ap (λ k. sum_by size (range_with_len k n)) same,
    )
sum_split size first (suc m) n total next whole after =
    let more : total ≡ suc (m + n) = omega (arith, whole) in
    omega (
      arith,
      ap (λ k. sum_by size (range_with_len first k)) more,
      sum_by-cons size first (range_with_len (first + 1) (m + n)),
      sum_split size (first + 1) m n (m + n) next refl (omega (arith, after)),
      sum_by-cons size first (range_with_len (first + 1) m),
    )

-- the sum over a range of places that items have
sum_items : {X : Type 0} (size : ℕ → ℕ) (count : X → ℕ) (xs : List X) (d : X) (first : ℕ)
    → ((k : ℕ) → k < length xs → size (first + k) ≡ count (get_or xs k d)) → sum_by size (range_with_len first (length xs)) ≡ sum_by count xs
sum_items size count [] d first same = refl
sum_items size count (x ∷ xs) d first same =
    let at_first : first ≡ first + 0 = omega arith in
    let here : size first ≡ count x = ap size at_first ∙ same 0 (omega arith) in
    let rest : sum_by size (range_with_len (first + 1) (length xs)) ≡ sum_by count xs =
    sum_items size count xs d (first + 1) (λ k below.
    let later : first + 1 + k ≡ first + suc k = omega arith in
    ap size later ∙ same (suc k) (omega (arith, below))) in
    omega (arith, here, rest, sum_by-cons size first (range_with_len (first + 1) (length xs)), sum_by-cons count x xs)

-- the sum over what a function makes of a list
sum_made : {X Y : Type 0} (count : Y → ℕ) (f : X → Y) (xs : List X) → sum_by count (map f xs) ≡ sum_by (λ x. count (f x)) xs
sum_made count f [] = refl
sum_made {X} count f (x ∷ xs) =
    omega (arith, sum_made count f xs, sum_by-cons count (f x) (map f xs), sum_by-cons (λ (y : X). count (f y)) x xs)

-- one for each item
sum_ones : {X : Type 0} (xs : List X) → sum_by (λ (x : X). 1) xs ≡ length xs
sum_ones [] = refl
sum_ones {X} (x ∷ xs) = omega (arith, sum_ones xs, sum_by-cons (λ (y : X). 1) x xs)

or_sink_length : (sink : ℕ) (f : ℕ → ℕ) (list : List ℕ) → length (or_sink sink (map f list)) ≡ answer_count list
or_sink_length sink f [] = refl
or_sink_length sink f (x ∷ xs) = omega (arith, length-map xs f)

-- the questions of a range
abbrev pub range_count : QuestionRange → ℕ
range_count range = range.end - range.first

module _ (rounds : Rounds) where
  -- how many successors the node at a place lists
  abbrev size : ℕ → ℕ
  size place = length (node_for rounds place).successors

  abbrev listed : NodeSpec → ℕ
  listed spec = length spec.successors

  states_list : sum_by size (range_with_len 0 (length rounds.states)) ≡ sum_by range_count rounds.states
  states_list = sum_items size range_count rounds.states no_range 0 (λ k below.
      let place : 0 + k ≡ k = omega arith in
      ap size place ∙ ap listed (at_state rounds k below) ∙ length-map (questions_of rounds k) (question_place rounds)
      ∙ length-range_with_len (range_at rounds k).first ((range_at rounds k).end - (range_at rounds k).first))

  edges_list : sum_by size (range_with_len (length rounds.states) (length rounds.edges)) ≡ length rounds.edges
  edges_list =
      sum_items size (λ (edge : RoundEdge). 1) rounds.edges no_edge (length rounds.states) (λ k below. ap listed (at_edge rounds k below))
      ∙ sum_ones rounds.edges

  sink_lists : sum_by size (range_with_len (sink_place rounds) 1) ≡ 1
  sink_lists =
      let one : size (sink_place rounds) ≡ 1 = ap listed (at_sink rounds) in
      omega (arith, one, sum_by-cons size (sink_place rounds) [])

  questions_list : sum_by size (range_with_len (sink_place rounds + 1) (length rounds.questions)) ≡ sum_by answer_count rounds.questions
  questions_list = sum_items size answer_count rounds.questions [] (sink_place rounds + 1) (λ k below.
      ap listed (at_question rounds k) ∙ or_sink_length (sink_place rounds) (edge_place rounds) (answers_of rounds k))

  pub listed_by_parts : listed_successors (table rounds)
      ≡ sum_by range_count rounds.states + length rounds.edges + 1 + sum_by answer_count rounds.questions
  listed_by_parts =
      let states : ℕ = length rounds.states in
      let edges : ℕ = length rounds.edges in
      let questions : ℕ = length rounds.questions in
      omega (
        arith,
        sum_made listed (node_for rounds) (range_with_len 0 (node_count rounds)),
        sum_split size 0 states (edges + (1 + questions)) (node_count rounds) states (omega arith) (omega arith),
        sum_split size states edges (1 + questions) (edges + (1 + questions)) (sink_place rounds) refl refl,
        sum_split size (sink_place rounds) 1 questions (1 + questions) (sink_place rounds + 1) refl refl,
        states_list,
        edges_list,
        sink_lists,
        questions_list,
      )
