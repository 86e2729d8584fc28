-- The lines of the body: a state and its edges are the tokens of that state as it is written.
use Rattle.std.proofs.Common.{◌≡◌, ℕ, List, [], ◌∷◌, ◌++◌, codes, decimal, map, append_assoc, refl, sym, subst, lit<}
use Rattle.std.specs.List.{AllByRecursion, flat_map}
use Rattle.std.proofs.lemmas.List.Sums.{AllPass-from_list_all}
use Rattle.omega_text.specs.Bytes.{is_word_byte}
use Rattle.omega_hoa_syntax.specs.Grammar.{edge_row, each, state_row}
use Rattle.omega_hoa_syntax.specs.Symbols.{AutomatonSymbol}
use Rattle.omega_hoa_automaton.specs.declared.edge.Edge.{Edge}
use Rattle.omega_hoa_automaton.specs.declared.state.State.{State}
use Rattle.omega_canon.specs.BodyText.{edge_line, state_text}
use Rattle.omega_canon.specs.Parts.{conjunction, label_part, marks_part, string_part}
use Rattle.omega_hoa_round_trips.specs.Writable.{IsWritableEdge, IsWritableState}
use Rattle.omega_hoa_round_trips.specs.Written.{edge_written, state_written}
use Rattle.omega_hoa_round_trips.proofs.texts.Lists.{Any, each-map, each-spelled}
use Rattle.omega_hoa_round_trips.proofs.texts.Pieces.{apart-line, apart-marks, apart-string, conjunction-spelled, label_part-spelled, marks-spelled, string_part-spelled}
use Rattle.omega_hoa_round_trips.proofs.texts.Spelled.{IsSpelled, Known, header-spelled, line-spelled, number-spelled, space-spelled}

-- an edge
edge-spelled : Known → (edge : Edge) (following : List ℕ) (symbols : List AutomatonSymbol) → IsWritableEdge edge
    → IsSpelled following symbols → IsSpelled (edge_line edge ++ following) (edge_row (edge_written edge) symbols)
edge-spelled known edge following symbols is spelled =
    let apart : (label_part edge.label ++ (conjunction edge.targets ++ (marks_part edge.marks ++ 10 ∷ []))) ++ following
    ≡ label_part edge.label ++ (conjunction edge.targets ++ (marks_part edge.marks ++ (10 ∷ following))) = simp append_assoc in
    subst (λ text. IsSpelled text (edge_row (edge_written edge) symbols)) (sym apart)
    (label_part-spelled known edge.label _ _ is.label
    (conjunction-spelled known edge.targets _ _ is.targets (apart-marks edge.marks (10 ∷ following) (apart-line following))
    (marks-spelled known edge.marks (10 ∷ following) symbols is.marks (line-spelled spelled))))

-- edges
edges-spelled : Known → (edges : List Edge) (following : List ℕ) (symbols : List AutomatonSymbol) → AllByRecursion IsWritableEdge edges
    → IsSpelled following symbols → IsSpelled (flat_map edge_line edges ++ following) (each edge_row (map edge_written edges) symbols)
edges-spelled known edges following symbols all spelled =
    subst (IsSpelled (flat_map edge_line edges ++ following)) (sym (each-map edge_row edge_written edges symbols))
    (each-spelled edge_line (λ it. edge_row (edge_written it)) IsWritableEdge Any (λ it rest may. tt)
    (λ it rest others is may then. edge-spelled known it rest others is then) edges following symbols all tt spelled)

-- a state and its edges
state-spelled : Known → (state : State) (following : List ℕ) (symbols : List AutomatonSymbol) → IsWritableState state
    → IsSpelled following symbols → IsSpelled (state_text state ++ following) (state_row (state_written state) symbols)
state-spelled known state following symbols is spelled =
    let edges = flat_map edge_line state.edges ++ following in
    let apart : ((label_part state.label ++ (decimal state.number ++ (string_part state.name ++ (marks_part state.marks ++ 10 ∷ [])))) ++ flat_map edge_line state.edges) ++ following
    ≡ label_part state.label ++ (decimal state.number ++ (string_part state.name ++ (marks_part state.marks ++ (10 ∷ edges)))) = simp append_assoc in
    subst (λ text. IsSpelled (codes "State: " ++ text) (state_row (state_written state) symbols)) (sym apart)
    (header-spelled known (codes "State") _ _ (lit< tt, refl, AllPass-from_list_all is_word_byte (codes "State") refl)
    (space-spelled (label_part-spelled known state.label _ _ is.label
    (number-spelled known state.number _ _ is.number (apart-string state.name _ (apart-marks state.marks (10 ∷ edges) (apart-line edges)))
    (string_part-spelled known state.name _ _ is.name
    (marks-spelled known state.marks (10 ∷ edges) _ is.marks
    (line-spelled (edges-spelled known state.edges following symbols is.edges spelled))))))))

-- the states that are defined
pub states-spelled : Known → (states : List State) (following : List ℕ) (symbols : List AutomatonSymbol) → AllByRecursion IsWritableState states
    → IsSpelled following symbols → IsSpelled (flat_map state_text states ++ following) (each state_row (map state_written states) symbols)
states-spelled known states following symbols all spelled =
    subst (IsSpelled (flat_map state_text states ++ following)) (sym (each-map state_row state_written states symbols))
    (each-spelled state_text (λ it. state_row (state_written it)) IsWritableState Any (λ it rest may. tt)
    (λ it rest others is may then. state-spelled known it rest others is then) states following symbols all tt spelled)
