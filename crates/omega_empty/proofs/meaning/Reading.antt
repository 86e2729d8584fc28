-- Walks of an emptiness game from a state's node: edges of the automaton in order, unless they end in the sink.
use Rattle.std.proofs.Common.{◌≡◌, ℕ, suc, ◌+◌, ◌<◌, ◌⊎◌, inl, inr, Bool, List, [], ◌∷◌, ◌++◌, length, map, max, Option, Some, sym, ap, refl, ◌∙◌, subst, arith}
use Rattle.omega_hoa_parity_kind.specs.Priority.{greatest_number}
use Rattle.omega_hoa_acceptance.specs.declared.kind.AccKind.{AccKind}
use Rattle.omega_hoa_automaton.specs.Automaton.{BodyEdge, Description, IsAutomaton, edge_at}
use Rattle.omega_game_values.specs.Building.{IsGameOf}
use Rattle.omega_game_values.specs.Game.{Node, priority_at}
use Rattle.omega_game_values.specs.Winning.{IsWalk, end_of, greatest_on}
use Rattle.omega_game_values.specs.declared.node_spec.NodeSpec.{NodeSpec}
use Rattle.omega_game_values.specs.declared.player.Player.{Player}
use Rattle.omega_empty.specs.Counters.{counter_after, priority_at_counter}
use Rattle.omega_lang_runs.specs.Judging.{AreUsable}
use Rattle.omega_empty.specs.EmptinessGame.{table}
use Rattle.omega_empty.specs.GameLaws.{number_at, numbers_on}
use Rattle.omega_lang_runs.specs.Lasso.{Leads, marks_at, marks_of}
use Rattle.omega_empty.proofs.Counters.{counter_after_marks, priorities_from}
use Rattle.omega_empty.proofs.playing.Places.{stands_priority}
use Rattle.omega_lang_runs.proofs.Kept.{marks_are}
use Rattle.omega_lang_runs.proofs.SingleTargets.{EntersOne}
use Rattle.omega_empty.proofs.meaning.Steps.{AtEdge, AtSink, AtState, Entering, Leaving, edge_number, edge_stands, leaves_edge, leaves_sink, leaves_state, sink_stands, state_number, step_of}

module _ (kind : AccKind) (a : Description) (usable : List Bool) (game : List Node)
    (automaton : IsAutomaton a) (judged : AreUsable a usable) (made : IsGameOf (table kind a usable) game) where
  -- a walk from a state's node at a counter to another's is a list of edges
  pub record IsRead (v counter state : ℕ) (ws : List ℕ) : Type 0 where
    pub numbers : List ℕ
    pub numbers_are : numbers_on a game ws ≡ numbers
    pub to : ℕ
    pub at_end : AtState kind a usable game automaton judged made (end_of v ws) (counter_after_marks kind counter (map (marks_at a) numbers)) to
    pub leads : Leads a state numbers to
    pub greatest_is : greatest_on game v ws ≡ greatest_number (priorities_from kind counter (map (marks_at a) numbers))
    pub longer : 0 < length ws → 0 < length numbers

  -- a walk from a state's node ends at a state's, after an odd number of steps at an edge's, or at the sink
  pub data Reading (v counter state : ℕ) (ws : List ℕ) : Type 0 where
    whole : IsRead v counter state ws → Reading v counter state ws
    half : (c number : ℕ) (edge : BodyEdge) → AtEdge kind a usable game automaton judged made (end_of v ws) c number edge
        → (n : ℕ) → length ws ≡ suc (n + n) → Reading v counter state ws
    sunk : AtSink kind a usable game automaton judged made (end_of v ws) → Reading v counter state ws

  module _ (single : (number : ℕ) (edge : BodyEdge) → edge_at a number ≡ Some edge → EntersOne a.states edge)
      (player : Player) (choices : List (Option ℕ)) where
    -- a walk from the sink stays there, and its greatest priority is odd
    pub sink_stays : (v : ℕ) (ws : List ℕ) → AtSink kind a usable game automaton judged made v → IsWalk game player choices v ws → AtSink kind a usable game automaton judged made (end_of v ws)
    sink_stays v [] at walk = at
    sink_stays v (w ∷ ws) at walk = sink_stays w ws (leaves_sink kind a usable game automaton judged made v w at walk.0.listed) walk.1

    pub sink_greatest : (v : ℕ) (ws : List ℕ) → AtSink kind a usable game automaton judged made v → IsWalk game player choices v ws → greatest_on game v ws ≡ 1
    sink_greatest v [] at walk = ap (λ (s : NodeSpec). s.priority) (sink_stands kind a usable game automaton judged made v at).is
    sink_greatest v (w ∷ ws) at walk =
        let here : priority_at game v ≡ 1 = ap (λ (s : NodeSpec). s.priority) (sink_stands kind a usable game automaton judged made v at).is in
        let later : greatest_on game w ws ≡ 1 = sink_greatest w ws (leaves_sink kind a usable game automaton judged made v w at walk.0.listed) walk.1 in
        omega (arith, here, later)

    -- one edge more in front
    joined : (v w u counter state number : ℕ) (edge : BodyEdge) (rest : List ℕ) → AtState kind a usable game automaton judged made v counter state
        → AtEdge kind a usable game automaton judged made w counter number edge → edge.source.number ≡ state
        → (entering : Entering kind a usable game automaton judged made u counter edge)
        → IsRead u (counter_after kind counter (marks_of edge)) entering.state rest → IsRead v counter state (w ∷ u ∷ rest)
    joined v w u counter state number edge rest at at' leaves entering read =
        let marks : marks_at a number ≡ marks_of edge = marks_are a number edge at'.numbered in
        let first : priority_at game v ≡ 0 = stands_priority kind a usable game automaton judged made v counter state at in
        let second : priority_at game w ≡ priority_at_counter kind counter (marks_of edge) =
        ap (λ (s : NodeSpec). s.priority) (edge_stands kind a usable game automaton judged made w counter number edge at').is in
        let P : List ℕ → Type 0 = λ m. AtState kind a usable game automaton judged made (end_of u rest)
        (counter_after_marks kind (counter_after kind counter m) (map (marks_at a) read.numbers)) read.to in
        let Q : List ℕ → Type 0 = λ m. greatest_on game v (w ∷ u ∷ rest)
        ≡ max (priority_at_counter kind counter m) (greatest_number (priorities_from kind (counter_after kind counter m) (map (marks_at a) read.numbers))) in
        let all : max (priority_at game v) (max (priority_at game w) (greatest_on game u rest))
        ≡ max (priority_at_counter kind counter (marks_of edge)) (greatest_number (priorities_from kind (counter_after kind counter (marks_of edge)) (map (marks_at a) read.numbers))) =
        omega (arith, first, second, read.greatest_is) in
        record {
          numbers = number ∷ read.numbers;
          numbers_are =
              ap (λ (list : List ℕ). list ++ (number_at a game u ++ numbers_on a game rest)) (edge_number kind a usable game automaton judged made w counter number edge at')
              ∙ ap (λ (list : List ℕ). number ∷ (list ++ numbers_on a game rest))
              (state_number kind a usable game automaton judged made u (counter_after kind counter (marks_of edge)) entering.state entering.at_state)
              ∙ ap (λ (list : List ℕ). number ∷ list) read.numbers_are;
          to = read.to;
          at_end = subst P (sym marks) read.at_end;
          leads = (
            entering.state,
            step_of kind a usable game automaton judged made w counter state number edge at' leaves entering.state entering.enters,
            read.leads,
          );
          greatest_is = subst Q (sym marks) all;
          longer = λ some. omega arith;
        }

    -- each walk from a state's node is read
    pub reading : (v counter state : ℕ) (ws : List ℕ) → AtState kind a usable game automaton judged made v counter state → IsWalk game player choices v ws
        → Reading v counter state ws
    reading v counter state [] at walk = whole (record {
      numbers = [];
      numbers_are = refl;
      to = state;
      at_end = at;
      leads = refl;
      greatest_is = stands_priority kind a usable game automaton judged made v counter state at;
      longer = λ some. some;
    })
    reading v counter state (w ∷ []) at walk = go (leaves_state kind a usable game automaton judged made v w counter state at walk.0.listed)
      where
        go : AtSink kind a usable game automaton judged made w ⊎ Leaving kind a usable game automaton judged made w counter state → Reading v counter state (w ∷ [])
        go (inl sink) = sunk sink
        go (inr leaving) = half counter leaving.number leaving.edge leaving.at_edge 0 refl
    reading v counter state (w ∷ u ∷ rest) at walk =
        go (leaves_state kind a usable game automaton judged made v w counter state at walk.0.listed)
        (λ c s at'. reading u c s rest at' walk.1.1)
      where
        more : (leaving : Leaving kind a usable game automaton judged made w counter state) (entering : Entering kind a usable game automaton judged made u counter leaving.edge)
            → Reading u (counter_after kind counter (marks_of leaving.edge)) entering.state rest → Reading v counter state (w ∷ u ∷ rest)
        more leaving entering (whole read) =
            whole (joined v w u counter state leaving.number leaving.edge rest at leaving.at_edge leaving.leaves entering read)
        more leaving entering (half c number edge at' n long) = half c number edge at' (suc n) (omega (arith, long))
        more leaving entering (sunk sink) = sunk sink

        go : AtSink kind a usable game automaton judged made w ⊎ Leaving kind a usable game automaton judged made w counter state
            → ((c s : ℕ) → AtState kind a usable game automaton judged made u c s → Reading u c s rest) → Reading v counter state (w ∷ u ∷ rest)
        go (inl sink) later = sunk (sink_stays w (u ∷ rest) sink walk.1)
        go (inr leaving) later =
            let entering = leaves_edge kind a usable game automaton judged made w u counter leaving.number leaving.edge leaving.at_edge
            (single leaving.number leaving.edge leaving.at_edge.numbered) walk.1.0.listed in
            more leaving entering (later (counter_after kind counter (marks_of leaving.edge)) entering.state entering.at_state)
