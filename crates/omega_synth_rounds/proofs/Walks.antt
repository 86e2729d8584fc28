-- Edges of the game of rounds, and kept edges that lead on as walks of the game.
use Rattle.std.proofs.Common.{◌≡◌, ℕ, ◌<◌, ◌⊎◌, inl, inr, List, [], ◌∷◌, length, map, All, Contains, Option, Some, sym, ap, refl, ◌∙◌, subst, arith}
use Rattle.std.proofs.lemmas.List.Elements.{All-head, All-tail}
use Rattle.omega_game_values.proofs.elements.Membership.{Contains-cases, Contains-nothing, Contains-under, map-Contains}
use Rattle.omega_game_values.specs.Game.{HasEdge, Node, node_at, owner_at, priority_at}
use Rattle.omega_game_values.specs.Winning.{Chooses, IsWalk, Leaves, Wins, end_of, greatest_on}
use Rattle.omega_game_values.specs.declared.node_spec.NodeSpec.{NodeSpec}
use Rattle.omega_game_values.specs.declared.player.Player.{Player}
use Rattle.omega_game_values.specs.declared.player.Player.TheVariants.{One, Zero}
use Rattle.omega_synth_rounds.specs.Rounds.{IsAskedIn, IsRoundStep, IsRounds, LeadOn, answers_of, edge_at, greatest_priority, questions_of}
use Rattle.omega_synth_rounds.specs.RoundsGame.{edge_node, edge_place, node_count, node_for, or_sink, question_node, question_place, sink_node, sink_place, state_node}
use Rattle.omega_synth_rounds.specs.declared.rounds.Rounds.{Rounds}
use Rattle.omega_synth_rounds.proofs.Placing.{as_node, asked_has, asked_in_range, at_edge, at_question, at_sink, at_state, node_is, nodes_count, nodes_of}

-- the two players differ
pub one_not_zero : One ≡ Zero → ⊥
one_not_zero e = cc

-- a place has one choice
pub one_choice : (choices : List (Option ℕ)) (v w c : ℕ) → Chooses choices v w → Chooses choices v c → w ≡ c
one_choice choices v w c first second = some_same (sym first ∙ second)
  where
    some_same : Some (Some w) ≡ Some (Some c) → w ≡ c
    some_same e = cc

-- a list with a sink in place of nothing
pub or_sink_has : (sink x : ℕ) (xs : List ℕ) → Contains xs x → Contains (or_sink sink xs) x
or_sink_has sink x [] has = absurd (Contains-nothing x has)
or_sink_has sink x (y ∷ ys) has = has

pub or_sink_cases : (sink x : ℕ) (xs : List ℕ) → Contains (or_sink sink xs) x → (x ≡ sink) ⊎ Contains xs x
or_sink_cases sink x [] has = elim (Contains-cases sink x [] has) [ inl here ↦ inl (sym here) | inr later ↦ inr later ]
or_sink_cases sink x (y ∷ ys) has = inr has

-- a walk that a strategy wins is won at its end
pub wins_along : (nodes : List Node) (player : Player) (choices : List (Option ℕ)) (v : ℕ) (ws : List ℕ)
    → IsWalk nodes player choices v ws → Wins nodes player choices v → Wins nodes player choices (end_of v ws)
wins_along nodes player choices v [] walk wins = wins
wins_along nodes player choices v (w ∷ ws) walk wins =
    wins_along nodes player choices w ws walk.1 (λ there around on closed. wins (w ∷ there) around (walk.0, on) closed)

module _ (rounds : Rounds) (is_rounds : IsRounds rounds) where
  reads : (v : ℕ) (spec : NodeSpec) → v < node_count rounds → node_for rounds v ≡ spec → node_at (nodes_of rounds) v ≡ as_node spec
  reads v spec below is = node_is rounds v below ∙ ap as_node is

  state_reads : (state : ℕ) → state < length rounds.states → node_at (nodes_of rounds) state ≡ as_node (state_node rounds state)
  state_reads state below = reads state (state_node rounds state) (omega arith) (at_state rounds state below)

  edge_reads : (number : ℕ) → number < length rounds.edges → node_at (nodes_of rounds) (edge_place rounds number) ≡ as_node (edge_node rounds number)
  edge_reads number below = reads (edge_place rounds number) (edge_node rounds number) (omega arith) (at_edge rounds number below)

  sink_reads : node_at (nodes_of rounds) (sink_place rounds) ≡ as_node (sink_node rounds)
  sink_reads = reads (sink_place rounds) (sink_node rounds) (omega arith) (at_sink rounds)

  question_reads : (question : ℕ) → question < length rounds.questions
      → node_at (nodes_of rounds) (question_place rounds question) ≡ as_node (question_node rounds question)
  question_reads question below =
      reads (question_place rounds question) (question_node rounds question) (omega arith) (at_question rounds question)

  -- owners and priorities
  pub state_owner : (state : ℕ) → state < length rounds.states → owner_at (nodes_of rounds) state ≡ One
  state_owner state below = ap (λ (node : Node). node.owner) (state_reads state below)

  pub state_priority : (state : ℕ) → state < length rounds.states → priority_at (nodes_of rounds) state ≡ 0
  state_priority state below = ap (λ (node : Node). node.priority) (state_reads state below)

  pub edge_owner : (number : ℕ) → number < length rounds.edges → owner_at (nodes_of rounds) (edge_place rounds number) ≡ Zero
  edge_owner number below = ap (λ (node : Node). node.owner) (edge_reads number below)

  pub edge_priority : (number : ℕ) → number < length rounds.edges
      → priority_at (nodes_of rounds) (edge_place rounds number) ≡ (edge_at rounds number).priority
  edge_priority number below = ap (λ (node : Node). node.priority) (edge_reads number below)

  pub question_owner : (question : ℕ) → question < length rounds.questions
      → owner_at (nodes_of rounds) (question_place rounds question) ≡ Zero
  question_owner question below = ap (λ (node : Node). node.owner) (question_reads question below)

  pub question_priority : (question : ℕ) → question < length rounds.questions
      → priority_at (nodes_of rounds) (question_place rounds question) ≡ 0
  question_priority question below = ap (λ (node : Node). node.priority) (question_reads question below)

  pub sink_priority : priority_at (nodes_of rounds) (sink_place rounds) ≡ 1
  sink_priority = ap (λ (node : Node). node.priority) sink_reads

  -- where nodes lead
  pub state_to : (state question : ℕ) → IsAskedIn rounds state question → HasEdge (nodes_of rounds) state (question_place rounds question)
  state_to state question asked =
      subst (λ (list : List ℕ). Contains list (question_place rounds question))
      (sym (ap (λ (node : Node). node.successors) (state_reads state asked.below)))
      (Contains-under (question_place rounds) (questions_of rounds state) question (asked_has rounds is_rounds state question asked))

  pub state_from : (state w : ℕ) → state < length rounds.states → HasEdge (nodes_of rounds) state w
      → (question : ℕ) × IsAskedIn rounds state question × (w ≡ question_place rounds question)
  state_from state w below edge =
      let listed : Contains (map (question_place rounds) (questions_of rounds state)) w =
      subst (λ (list : List ℕ). Contains list w) (ap (λ (node : Node). node.successors) (state_reads state below)) edge in
      let from = map-Contains (question_place rounds) (questions_of rounds state) w listed in
      (from.0, asked_in_range rounds is_rounds state from.0 below from.1, from.2)

  pub question_to : (question number : ℕ) → question < length rounds.questions → Contains (answers_of rounds question) number
      → HasEdge (nodes_of rounds) (question_place rounds question) (edge_place rounds number)
  question_to question number below has =
      subst (λ (list : List ℕ). Contains list (edge_place rounds number))
      (sym (ap (λ (node : Node). node.successors) (question_reads question below)))
      (or_sink_has (sink_place rounds) (edge_place rounds number) (map (edge_place rounds) (answers_of rounds question))
      (Contains-under (edge_place rounds) (answers_of rounds question) number has))

  pub question_from : (question w : ℕ) → question < length rounds.questions → HasEdge (nodes_of rounds) (question_place rounds question) w
      → (w ≡ sink_place rounds) ⊎ ((number : ℕ) × Contains (answers_of rounds question) number × (w ≡ edge_place rounds number))
  question_from question w below edge =
      let listed : Contains (or_sink (sink_place rounds) (map (edge_place rounds) (answers_of rounds question))) w =
      subst (λ (list : List ℕ). Contains list w) (ap (λ (node : Node). node.successors) (question_reads question below)) edge in
      elim (or_sink_cases (sink_place rounds) w (map (edge_place rounds) (answers_of rounds question)) listed) [
        | inl sink ↦ inl sink
        | inr answer ↦ inr (map-Contains (edge_place rounds) (answers_of rounds question) w answer)
      ]

  pub question_answer : (question number : ℕ) → question < length rounds.questions → number < length rounds.edges
      → HasEdge (nodes_of rounds) (question_place rounds question) (edge_place rounds number) → Contains (answers_of rounds question) number
  question_answer question number asked below edge = elim (question_from question (edge_place rounds number) asked edge) [
    | inl sink ↦ absurd (omega (arith, sink))
    | inr answer ↦
        let same : answer.0 ≡ number = omega (arith, answer.2) in
        subst (λ (n : ℕ). Contains (answers_of rounds question) n) same answer.1
  ]

  pub edge_to : (number : ℕ) → number < length rounds.edges → HasEdge (nodes_of rounds) (edge_place rounds number) (edge_at rounds number).target
  edge_to number below =
      subst (λ (list : List ℕ). Contains list (edge_at rounds number).target)
      (sym (ap (λ (node : Node). node.successors) (edge_reads number below))) (0, omega arith, refl)

  pub edge_from : (number w : ℕ) → number < length rounds.edges → HasEdge (nodes_of rounds) (edge_place rounds number) w
      → (edge_at rounds number).target ≡ w
  edge_from number w below edge =
      let listed : Contains ((edge_at rounds number).target ∷ []) w =
      subst (λ (list : List ℕ). Contains list w) (ap (λ (node : Node). node.successors) (edge_reads number below)) edge in
      elim (Contains-cases (edge_at rounds number).target w [] listed) [ inl here ↦ here | inr later ↦ absurd (Contains-nothing w later) ]

  pub sink_to : HasEdge (nodes_of rounds) (sink_place rounds) (sink_place rounds)
  sink_to =
      subst (λ (list : List ℕ). Contains list (sink_place rounds))
      (sym (ap (λ (node : Node). node.successors) sink_reads)) (0, omega arith, refl)

  pub sink_from : (w : ℕ) → HasEdge (nodes_of rounds) (sink_place rounds) w → sink_place rounds ≡ w
  sink_from w edge =
      let listed : Contains (sink_place rounds ∷ []) w =
      subst (λ (list : List ℕ). Contains list w) (ap (λ (node : Node). node.successors) sink_reads) edge in
      elim (Contains-cases (sink_place rounds) w [] listed) [ inl here ↦ here | inr later ↦ absurd (Contains-nothing w later) ]

  -- the question that an answer's state asks is the state's that the answer leaves
  pub asked_here : (state question number from to : ℕ) → IsAskedIn rounds state question → Contains (answers_of rounds question) number
      → IsRoundStep rounds from number to → state ≡ from
  asked_here state question number from to asked has step =
      sym (is_rounds.answers state question number asked has).1 ∙ step.leaves

  -- edges lead to states
  pub leads_below : (from : ℕ) (numbers : List ℕ) (to : ℕ) → from < length rounds.states → LeadOn rounds from numbers to → to < length rounds.states
  leads_below from [] to below leads = omega (arith, leads)
  leads_below from (number ∷ numbers) to below leads =
      leads_below leads.0 numbers to (omega (arith, is_rounds.targets number leads.1.below, leads.1.enters)) leads.2

  -- a step of kept edges passes three edges of the game that a strategy leaves possible
  pub record Follows (player : Player) (choices : List (Option ℕ)) (from number to : ℕ) : Type 0 where
    pub question : ℕ
    pub asked : question < length rounds.questions
    pub first : Leaves (nodes_of rounds) player choices from (question_place rounds question)
    pub second : Leaves (nodes_of rounds) player choices (question_place rounds question) (edge_place rounds number)
    pub third : Leaves (nodes_of rounds) player choices (edge_place rounds number) to

  module _ (player : Player) (choices : List (Option ℕ)) (kept : List ℕ)
      (follows : (from number to : ℕ) → from < length rounds.states → IsRoundStep rounds from number to → Contains kept number
      → Follows player choices from number to) where
    -- kept edges that lead on, as a walk
    pub record Walks (from : ℕ) (numbers : List ℕ) (to : ℕ) : Type 0 where
      pub places : List ℕ
      pub walk : IsWalk (nodes_of rounds) player choices from places
      pub ends : end_of from places ≡ to
      pub greatest : greatest_on (nodes_of rounds) from places ≡ greatest_priority rounds numbers
      pub longer : 0 < length numbers → 0 < length places

    pub walks : (from : ℕ) (numbers : List ℕ) (to : ℕ) → from < length rounds.states → All (Contains kept) numbers
        → LeadOn rounds from numbers to → Walks from numbers to
    walks from [] to below all_kept leads = record {
      places = [];
      walk = omega (arith, nodes_count rounds);
      ends = leads;
      greatest = state_priority from below;
      longer = λ some. some;
    }
    walks from (number ∷ numbers) to below all_kept leads =
        let next : ℕ = leads.0 in
        let next_below : next < length rounds.states = omega (arith, is_rounds.targets number leads.1.below, leads.1.enters) in
        let step : Follows player choices from number next = follows from number next below leads.1 (All-head (Contains kept) number numbers all_kept) in
        let rest : Walks next numbers to = walks next numbers to next_below (All-tail (Contains kept) number numbers all_kept) leads.2 in
        record {
          places = question_place rounds step.question ∷ edge_place rounds number ∷ next ∷ rest.places;
          walk = (step.first, (step.second, (step.third, rest.walk)));
          ends = rest.ends;
          greatest = omega (arith, state_priority from below, question_priority step.question step.asked, edge_priority number leads.1.below, rest.greatest);
          longer = λ some. omega arith;
        }
