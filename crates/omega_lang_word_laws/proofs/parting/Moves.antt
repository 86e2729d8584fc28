-- Steps of an automaton at letters, as moves: by the state, the index of the edge and its label.
use Rattle.std.proofs.Common.{◌≡◌, ℕ, Bool, true, List, [], ◌∷◌, ◌++◌, length, slice_get, Option, Some, None, option_map, unwrap_or, sym, ap, subst, ◌∙◌}
use Rattle.std.specs.Prelude.{IfSome}
use Rattle.omega_hoa_label.specs.Label.{LabelTree, truth}
use Rattle.omega_hoa_satisfiable.specs.Satisfiable.{IsSatisfiable}
use Rattle.omega_hoa_automaton.specs.Automaton.{BodyEdge, Description, IsAutomaton}
use Rattle.omega_hoa_automaton.specs.declared.edge.Edge.{Edge}
use Rattle.omega_hoa_automaton.specs.declared.state.State.{State}
use Rattle.omega_lang_runs.specs.Lasso.{IsStep, label_of, marks_at, marks_of}
use Rattle.omega_lang_runs.specs.Laws.{IsIndexLabel}
use Rattle.omega_lang_runs.specs.Words.{CanBeTaken, index_in}
use Rattle.omega_lang_runs.proofs.Taken.{edges_are_taken_where_true}
use Rattle.omega_hoa_edges.specs.AutomatonLabels.{state_among, state_at}
use Rattle.omega_hoa_edges.proofs.Bits.{valuation_held, valuation_true}
use Rattle.omega_hoa_edges.proofs.StateNumbers.{state_number}
use Rattle.omega_hoa_edges.specs.Labels.{label_at, valuation_label}
use Rattle.omega_lang_word_laws.proofs.parting.Numbered.{IsFound, IsNumbered, edge_found, edge_numbered, state_is, state_there}

-- at a letter an edge of a state is taken, to a state, with marks
pub record IsMoveOf (count : ℕ) (state : State) (held : ℕ → Bool) (to : ℕ) (marks : List ℕ) : Type 0 where
  pub index : ℕ
  pub edge : Edge
  pub there : slice_get state.edges index ≡ Some edge
  pub holds : truth held (label_at count state index edge) ≡ true
  pub enters : edge.targets ≡ to ∷ []
  pub marked : marks ≡ state.marks ++ edge.marks

abbrev pub IsMove : Description → ℕ → (ℕ → Bool) → ℕ → List ℕ → Type 0
IsMove a number held to marks = IsMoveOf (length a.propositions) (state_at a number) held to marks

-- the label of a valuation is one of its index
abbrev index_label : Description → ℕ → LabelTree
index_label a number = valuation_label (index_in a.defined number) (length a.propositions)

is_index_label : (a : Description) (number : ℕ) → IsIndexLabel a number (index_label a number)
is_index_label a number held =
    (valuation_held held (index_in a.defined number) (length a.propositions), valuation_true held (index_in a.defined number) (length a.propositions))

usable_by : (o : Option LabelTree) (v : LabelTree) (held : ℕ → Bool) → truth held (unwrap_or o v) ≡ true → IfSome o IsSatisfiable
usable_by None v held is = tt
usable_by (Some label) v held is = (held, is)

module _ (a : Description) (is_automaton : IsAutomaton a) where
  -- a step at a letter is a move
  pub step_moves : (from number to : ℕ) (held : ℕ → Bool) → IsStep a from number to → CanBeTaken a number held → IsMove a from held to (marks_at a number)
  step_moves from number to held step taken =
      subst (λ (s : State). IsMoveOf (length a.propositions) s held to (marks_at a number)) source
      (record {
        index = index_in a.defined number;
        edge = step.edge.edge;
        there = found.edge_is;
        holds = (edges_are_taken_where_true a number step.edge (index_label a number) held step.numbered (is_index_label a number)).0 taken;
        enters = step.enters;
        marked = ap (λ (o : Option BodyEdge). unwrap_or (option_map marks_of o) []) step.numbered;
      })
    where
      found : IsFound a.defined number step.edge
      found = edge_found a.defined number step.edge step.numbered

      source : step.edge.source ≡ state_at a from
      source = sym (state_is a.defined found.place step.edge.source is_automaton.once found.source_is) ∙ ap (state_among a.defined) step.leaves

  -- a move is a step at a letter
  pub record IsTakenStep (from : ℕ) (held : ℕ → Bool) (to : ℕ) (marks : List ℕ) : Type 0 where
    pub number : ℕ
    pub step : IsStep a from number to
    pub taken : CanBeTaken a number held
    pub marks_are : marks_at a number ≡ marks

  pub move_steps : (from : ℕ) (held : ℕ → Bool) (to : ℕ) (marks : List ℕ) → IsMove a from held to marks → IsTakenStep from held to marks
  move_steps from held to marks move = record {
    number = numbered.number;
    step = record {
      edge = body_edge;
      numbered = numbered.is;
      usable = usable_by (label_of body_edge) (valuation_label move.index (length a.propositions)) held move.holds;
      leaves = state_number a.defined from;
      enters = move.enters;
    };
    taken = (edges_are_taken_where_true a numbered.number body_edge (index_label a numbered.number) held numbered.is (is_index_label a numbered.number)).1
        (ap (λ i. truth held (unwrap_or (label_of body_edge) (valuation_label i (length a.propositions)))) numbered.index_is ∙ move.holds);
    marks_are = ap (λ (o : Option BodyEdge). unwrap_or (option_map marks_of o) []) numbered.is ∙ sym move.marked;
  }
    where
      there : (place : ℕ) × (slice_get a.defined place ≡ Some (state_at a from))
      there = state_there a.defined from move.index move.edge move.there

      numbered : IsNumbered a.defined (state_at a from) move.index move.edge
      numbered = edge_numbered a.defined there.0 (state_at a from) move.index move.edge there.1 move.there

      body_edge : BodyEdge
      body_edge = record { source = state_at a from; edge = move.edge }
