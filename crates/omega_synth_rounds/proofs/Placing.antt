-- The nodes of the game of rounds by place, and that they alone are its game.
use Rattle.std.proofs.Common.{◌≡◌, ℕ, zero, suc, ◌+◌, ◌-◌, ◌<◌, ◌≤◌, ◌⊎◌, inl, inr, List, [], ◌∷◌, length, map, get_or, Contains, sym, ap, refl, ◌∙◌, subst, arith}
use Rattle.std.specs.List.{range_with_len}
use Rattle.std.specs.List.Sorted.{IsPermutation, IsStrictlyIncreasing}
use Rattle.std.proofs.lemmas.Bool.{cases_lt, cases_order, eq-eqb, ne_eqb, lt-ltb, le-ltb}
use Rattle.std.proofs.lemmas.List.{length-map}
use Rattle.std.proofs.lemmas.List.FromFn.{get_or-map-range_with_len, get_or-range_with_len, length-map-range_with_len, length-range_with_len}
use Rattle.std.proofs.lemmas.List.Sorted.{IsPermutation-refl}
use Rattle.omega_game_values.proofs.elements.Membership.{Contains-cases, Contains-nothing, map-Contains, map-map, map_same}
use Rattle.omega_game_values.specs.Building.{specified}
use Rattle.omega_game_values.specs.Game.{HasEdge, IsGame, Node, identifiers, identifier_at, no_node, node_at}
use Rattle.omega_game_values.specs.Laws.{SpecificationsHaveOneGame}
use Rattle.omega_game_values.specs.declared.node_spec.NodeSpec.{NodeSpec}
use Rattle.omega_synth_rounds.specs.Rounds.{IsAskedIn, IsRounds, answers_of, edge_at, questions_of, range_at}
use Rattle.omega_synth_rounds.specs.RoundsGame.{IsRoundsGame, edge_node, edge_place, node_count, node_for, or_sink, question_node, question_place, sink_node, sink_place, state_node, table}
use Rattle.omega_synth_rounds.specs.declared.rounds.Rounds.{Rounds}

-- a specification whose successors are places, as a node
abbrev pub as_node : NodeSpec → Node
as_node spec = record {
  identifier = spec.id;
  priority = spec.priority;
  owner = spec.owner;
  successors = spec.successors;
  name = spec.name;
}

-- the numbers of a range are those from its first up to its end
pub in_range : (first n x : ℕ) → Contains (range_with_len first n) x → (first ≤ x) × (x < first + n)
in_range first n x has =
    let at : get_or (range_with_len first n) has.0 x ≡ first + has.0 =
    get_or-range_with_len first n has.0 x (omega (arith, has.1, length-range_with_len first n)) in
    (omega (arith, at, has.2), omega (arith, at, has.2, has.1, length-range_with_len first n))

pub range_has : (first n x : ℕ) → first ≤ x → x < first + n → Contains (range_with_len first n) x
range_has first n x low high =
    let place : x - first < n = omega arith in
    let at : get_or (range_with_len first n) (x - first) x ≡ first + (x - first) = get_or-range_with_len first n (x - first) x place in
    (x - first, omega (arith, length-range_with_len first n), omega (arith, at))

pub range_rises : (first n : ℕ) → IsStrictlyIncreasing (range_with_len first n)
range_rises first n k within =
    omega (
      arith,
      get_or-range_with_len first n k 0 (omega (arith, length-range_with_len first n)),
      get_or-range_with_len first n (k + 1) 0 (omega (arith, length-range_with_len first n)),
    )

-- functions that agree within a range
map_agrees : {X : Type 0} (f g : ℕ → X) (first n : ℕ) → ((x : ℕ) → first ≤ x → x < first + n → f x ≡ g x)
    → map f (range_with_len first n) ≡ map g (range_with_len first n)
map_agrees f g first zero same = refl
map_agrees f g first (suc n) same =
    ap (λ x. x ∷ map f (range_with_len (first + 1) n)) (same first (omega arith) (omega arith))
    ∙ ap (λ xs. g first ∷ xs) (map_agrees f g (first + 1) n (λ x low high. same x (omega arith) (omega arith)))

module _ (rounds : Rounds) where
  -- the nodes by place
  abbrev pub nodes_of : List Node
  nodes_of = map (λ v. as_node (node_for rounds v)) (range_with_len 0 (node_count rounds))

  pub nodes_count : length nodes_of ≡ node_count rounds
  nodes_count = length-map-range_with_len (λ v. as_node (node_for rounds v)) 0 (node_count rounds)

  pub node_is : (v : ℕ) → v < node_count rounds → node_at nodes_of v ≡ as_node (node_for rounds v)
  node_is v below = get_or-map-range_with_len (λ v. as_node (node_for rounds v)) 0 (node_count rounds) v v no_node below (omega arith)

  -- which node each place has
  pub at_state : (state : ℕ) → state < length rounds.states → node_for rounds state ≡ state_node rounds state
  at_state state below = rw (lt-ltb state (length rounds.states) below) refl

  pub at_edge : (number : ℕ) → number < length rounds.edges → node_for rounds (edge_place rounds number) ≡ edge_node rounds number
  at_edge number below =
      let back : length rounds.states + number - length rounds.states ≡ number = omega arith in
      rw (le-ltb (length rounds.states + number) (length rounds.states) (omega arith), lt-ltb (length rounds.states + number) (sink_place rounds) (omega arith), back) refl

  pub at_sink : node_for rounds (sink_place rounds) ≡ sink_node rounds
  at_sink =
      rw (le-ltb (sink_place rounds) (length rounds.states) (omega arith), le-ltb (sink_place rounds) (sink_place rounds) (omega arith), eq-eqb (sink_place rounds) (sink_place rounds) refl) refl

  pub at_question : (question : ℕ) → node_for rounds (question_place rounds question) ≡ question_node rounds question
  at_question question =
      let back : sink_place rounds + 1 + question - (sink_place rounds + 1) ≡ question = omega arith in
      rw (
        le-ltb (sink_place rounds + 1 + question) (length rounds.states) (omega arith),
        le-ltb (sink_place rounds + 1 + question) (sink_place rounds) (omega arith),
        ne_eqb (sink_place rounds + 1 + question) (sink_place rounds) (λ same. omega arith),
        back,
      ) refl

  -- each place is that of a state, of an edge, of the sink or of a question
  pub data IsPlace (v : ℕ) : Type 0 where
    of_state : v < length rounds.states → IsPlace v
    of_edge : (number : ℕ) → number < length rounds.edges → v ≡ edge_place rounds number → IsPlace v
    of_sink : v ≡ sink_place rounds → IsPlace v
    of_question : (question : ℕ) → question < length rounds.questions → v ≡ question_place rounds question → IsPlace v

  pub place_of : (v : ℕ) → v < node_count rounds → IsPlace v
  place_of v below = elim (cases_lt v (length rounds.states)) [
    | inl state ↦ of_state state
    | inr past ↦ elim (cases_order v (sink_place rounds)) [
      | inl sink ↦ of_sink sink
      | inr (inl edge) ↦ of_edge (v - length rounds.states) (omega arith) (omega arith)
      | inr (inr question) ↦ of_question (v - (sink_place rounds + 1)) (omega arith) (omega arith)
    ]
  ]

  id_at : (v : ℕ) → IsPlace v → (node_for rounds v).id ≡ v
  id_at v (of_state below) = ap (λ (spec : NodeSpec). spec.id) (at_state v below)
  id_at v (of_edge number below is) =
      ap (λ w. (node_for rounds w).id) is ∙ ap (λ (spec : NodeSpec). spec.id) (at_edge number below) ∙ sym is
  id_at v (of_sink is) = ap (λ w. (node_for rounds w).id) is ∙ ap (λ (spec : NodeSpec). spec.id) at_sink ∙ sym is
  id_at v (of_question question below is) =
      ap (λ w. (node_for rounds w).id) is ∙ ap (λ (spec : NodeSpec). spec.id) (at_question question) ∙ sym is

  pub id_is : (v : ℕ) → v < node_count rounds → (node_for rounds v).id ≡ v
  id_is v below = id_at v (place_of v below)

  abbrev AreBelowCount : List ℕ → Type 0
  AreBelowCount successors = (0 < length successors) × ((w : ℕ) → Contains successors w → w < node_count rounds)

  sink_alone : AreBelowCount (sink_place rounds ∷ [])
  sink_alone = (omega arith, λ w has. elim (Contains-cases (sink_place rounds) w [] has) [ inl here ↦ omega arith | inr later ↦ absurd (Contains-nothing w later) ])

  or_sink_below : (list : List ℕ) → ((w : ℕ) → Contains list w → w < node_count rounds) → AreBelowCount (or_sink (sink_place rounds) list)
  or_sink_below [] below = sink_alone
  or_sink_below (x ∷ xs) below = (omega arith, below)

  module _ (is_rounds : IsRounds rounds) where
    -- the questions of a state
    pub asked_in_range : (state question : ℕ) → state < length rounds.states → Contains (questions_of rounds state) question → IsAskedIn rounds state question
    asked_in_range state question below has =
        let found = in_range (range_at rounds state).first ((range_at rounds state).end - (range_at rounds state).first) question has in
        record { below = below; from = found.0; until = omega (arith, found.0, found.1, is_rounds.some state below) }

    pub asked_has : (state question : ℕ) → IsAskedIn rounds state question → Contains (questions_of rounds state) question
    asked_has state question asked =
        range_has (range_at rounds state).first ((range_at rounds state).end - (range_at rounds state).first) question asked.from
        (omega (arith, asked.from, asked.until))

    pub asked_below : (state question : ℕ) → IsAskedIn rounds state question → question < length rounds.questions
    asked_below state question asked = omega (arith, asked.until, is_rounds.within state asked.below)

    successors_low : (v : ℕ) → IsPlace v → AreBelowCount (node_for rounds v).successors
    successors_low v (of_state below) =
        subst AreBelowCount (sym (ap (λ (spec : NodeSpec). spec.successors) (at_state v below))) (
          omega (arith, length-map (questions_of rounds v) (question_place rounds), length-range_with_len (range_at rounds v).first ((range_at rounds v).end - (range_at rounds v).first), is_rounds.some v below),
          λ w has.
              let from = map-Contains (question_place rounds) (questions_of rounds v) w has in
              omega (arith, from.2, asked_below v from.0 (asked_in_range v from.0 below from.1)),
        )
    successors_low v (of_edge number below is) =
        subst AreBelowCount (sym (ap (λ w. (node_for rounds w).successors) is ∙ ap (λ (spec : NodeSpec). spec.successors) (at_edge number below))) (
          omega arith,
          λ w has. elim (Contains-cases (edge_at rounds number).target w [] has) [
            | inl here ↦ omega (arith, here, is_rounds.targets number below)
            | inr later ↦ absurd (Contains-nothing w later)
          ],
        )
    successors_low v (of_sink is) =
        subst AreBelowCount (sym (ap (λ w. (node_for rounds w).successors) is ∙ ap (λ (spec : NodeSpec). spec.successors) at_sink)) sink_alone
    successors_low v (of_question question below is) =
        subst AreBelowCount (sym (ap (λ w. (node_for rounds w).successors) is ∙ ap (λ (spec : NodeSpec). spec.successors) (at_question question)))
        (or_sink_below (map (edge_place rounds) (answers_of rounds question)) (λ w has.
        let from = map-Contains (edge_place rounds) (answers_of rounds question) w has in
        let owner = is_rounds.owned question below in
        omega (arith, from.2, (is_rounds.answers owner.0 question from.0 owner.1 from.1).0)))

    pub low_at : (v : ℕ) → v < node_count rounds → AreBelowCount (node_for rounds v).successors
    low_at v below = successors_low v (place_of v below)

    identifiers_are : identifiers nodes_of ≡ range_with_len 0 (node_count rounds)
    identifiers_are =
        map-map (λ (node : Node). node.identifier) (λ v. as_node (node_for rounds v)) (range_with_len 0 (node_count rounds))
        ∙ map_same (λ v. (node_for rounds v).id) (range_with_len 0 (node_count rounds))
        (λ v has. id_is v (omega (arith, (in_range 0 (node_count rounds) v has).1)))

    identifier_is : (v : ℕ) → v < node_count rounds → identifier_at nodes_of v ≡ v
    identifier_is v below = ap (λ (node : Node). node.identifier) (node_is v below) ∙ id_is v below

    nodes_game : IsGame nodes_of
    nodes_game = record {
      inhabited = omega (arith, nodes_count);
      rising = subst IsStrictlyIncreasing (sym identifiers_are) (range_rises 0 (node_count rounds));
      continued = λ v below.
          let here : v < node_count rounds = omega (arith, nodes_count) in
          subst (λ (list : List ℕ). 0 < length list) (sym (ap (λ (node : Node). node.successors) (node_is v here))) (low_at v here).0;
      closed = λ v w edge. go v w edge (cases_lt v (node_count rounds));
    }
      where
        past : (xs : List Node) (v : ℕ) → length xs ≤ v → get_or xs v no_node ≡ no_node
        past [] v le = refl
        past (x ∷ xs) zero le = absurd (omega arith)
        past (x ∷ xs) (suc v) le = past xs v (omega arith)

        go : (v w : ℕ) → HasEdge nodes_of v w → (v < node_count rounds) ⊎ (node_count rounds ≤ v) → w < length nodes_of
        go v w edge (inl below) =
            let listed : Contains (node_for rounds v).successors w =
            subst (λ (list : List ℕ). Contains list w) (ap (λ (node : Node). node.successors) (node_is v below)) edge in
            omega (arith, nodes_count, (low_at v below).1 w listed)
        go v w edge (inr beyond) =
            let none : Contains [] w =
            subst (λ (list : List ℕ). Contains list w) (ap (λ (node : Node). node.successors) (past nodes_of v (omega (arith, nodes_count)))) edge in
            absurd (Contains-nothing w none)

    specified_is : (v : ℕ) → v < node_count rounds → specified nodes_of (as_node (node_for rounds v)) ≡ node_for rounds v
    specified_is v below =
        let successors : map (λ w. (node_at nodes_of w).identifier) (node_for rounds v).successors ≡ (node_for rounds v).successors =
        map_same (λ w. (node_at nodes_of w).identifier) (node_for rounds v).successors (λ w has. identifier_is w ((low_at v below).1 w has)) in
        ap (λ (list : List ℕ). record (node_for rounds v) { successors = list }) successors

    table_is : map (specified nodes_of) nodes_of ≡ table rounds
    table_is =
        map-map (specified nodes_of) (λ v. as_node (node_for rounds v)) (range_with_len 0 (node_count rounds))
        ∙ map_agrees (λ v. specified nodes_of (as_node (node_for rounds v))) (node_for rounds) 0 (node_count rounds)
        (λ v low high. specified_is v (omega arith))

    pub nodes_made : IsRoundsGame rounds nodes_of
    nodes_made = record {
      game = nodes_game;
      rearranged = subst (IsPermutation (table rounds)) (sym table_is) (IsPermutation-refl (table rounds));
    }

    -- the game has no other nodes
    pub game_is : SpecificationsHaveOneGame → (game : List Node) → IsRoundsGame rounds game → game ≡ nodes_of
    game_is one game made = one (table rounds) game nodes_of made nodes_made
