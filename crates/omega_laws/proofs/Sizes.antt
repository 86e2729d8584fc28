-- The canonical text of an automaton has a byte at least for each tree node of its labels.
use Rattle.std.proofs.Common.{ℕ, ◌≤◌, Bool, true, false, nat_le, nat_lt, Option, Some, None, List, [], ◌∷◌, ◌++◌, codes, decimal, length, length-append, arith}
use Rattle.std.specs.Prelude.{IfSome, sum_by}
use Rattle.std.specs.List.{AllByRecursion, flat_map}
use Rattle.std.proofs.lemmas.Fmt.{decimal_nonempty}
use Rattle.std.proofs.lemmas.List.Sums.{sum_by-cons}
use Rattle.omega_hoa_expression.specs.Writing.{bracketed}
use Rattle.omega_hoa_label.specs.Label.{LabelTree, conjunction, constant, disjunction, label_size, negation, proposition}
use Rattle.omega_hoa_label.specs.Writing.{NumbersFit, label_text}
use Rattle.omega_hoa_automaton.specs.Automaton.{Description, size_of, total_size}
use Rattle.omega_hoa_automaton.specs.declared.edge.Edge.{Edge}
use Rattle.omega_hoa_automaton.specs.declared.state.State.{State}
use Rattle.omega_canon.specs.BodyText.{body_text, edge_line, state_line, state_text}
use Rattle.omega_canon.specs.Canonical.{canonical_automaton}
use Rattle.omega_canon.specs.HeaderText.{header_text}
use Rattle.omega_canon.specs.Parts.{label_part, marks_part, string_part}
use Rattle.omega_canon.specs.Parts as part
use Rattle.omega_hoa_round_trips.specs.Writable.{IsWritableEdge, IsWritableState}

bracketed_long : (within : Bool) (bytes : List ℕ) → length bytes ≤ length (bracketed within bytes)
bracketed_long true bytes = omega (arith, length-append bytes (41 ∷ []))
bracketed_long false bytes = omega arith

-- a label
label_long : (label : LabelTree) → NumbersFit label → label_size label ≤ length (label_text label).bytes
label_long (constant true) fits = omega arith
label_long (constant false) fits = omega arith
label_long (proposition number) fits = omega (arith, decimal_nonempty number (omega (arith, fits)))
label_long (negation part) fits = omega (arith, label_long part fits, bracketed_long (nat_lt (label_text part).rank 3) (label_text part).bytes)
label_long (conjunction left right) fits =
    let one : List ℕ = bracketed (nat_lt (label_text left).rank 2) (label_text left).bytes in
    let other : List ℕ = bracketed (nat_le (label_text right).rank 2) (label_text right).bytes in
    omega (
      arith,
      label_long left fits.0,
      label_long right fits.1,
      bracketed_long (nat_lt (label_text left).rank 2) (label_text left).bytes,
      bracketed_long (nat_le (label_text right).rank 2) (label_text right).bytes,
      length-append one (38 ∷ other),
    )
label_long (disjunction left right) fits =
    let one : List ℕ = bracketed (nat_lt (label_text left).rank 1) (label_text left).bytes in
    let other : List ℕ = bracketed (nat_le (label_text right).rank 1) (label_text right).bytes in
    omega (
      arith,
      label_long left fits.0,
      label_long right fits.1,
      bracketed_long (nat_lt (label_text left).rank 1) (label_text left).bytes,
      bracketed_long (nat_le (label_text right).rank 1) (label_text right).bytes,
      length-append one (124 ∷ other),
    )

-- what is written is no shorter than its parts
first_long : (one other : List ℕ) → length one ≤ length (one ++ other)
first_long one other = omega (arith, length-append one other)

second_long : (one other : List ℕ) → length other ≤ length (one ++ other)
second_long one other = omega (arith, length-append one other)

part_long : (label : Option LabelTree) → IfSome label NumbersFit → size_of label ≤ length (label_part label)
part_long None fits = omega arith
part_long (Some label) fits =
    let text : List ℕ = (label_text label).bytes in
    omega (arith, label_long label fits, first_long text (codes "] "), second_long (codes "[") (text ++ codes "] "))

-- edges
edge_long : (edge : Edge) → IsWritableEdge edge → size_of edge.label ≤ length (edge_line edge)
edge_long edge is =
    omega (arith, part_long edge.label is.label, first_long (label_part edge.label) (part.conjunction edge.targets ++ (marks_part edge.marks ++ codes "\n")))

edges_long : (edges : List Edge) → AllByRecursion IsWritableEdge edges → sum_by (λ edge. size_of edge.label) edges ≤ length (flat_map edge_line edges)
edges_long [] all = omega arith
edges_long (edge ∷ edges) all =
    omega (arith, edge_long edge all.0, edges_long edges all.1, sum_by-cons (λ (e : Edge). size_of e.label) edge edges, length-append (edge_line edge) (flat_map edge_line edges))

-- states
line_long : (state : State) → IsWritableState state → size_of state.label ≤ length (state_line state)
line_long state is =
    let rest : List ℕ = decimal state.number ++ (string_part state.name ++ (marks_part state.marks ++ codes "\n")) in
    omega (arith, part_long state.label is.label, first_long (label_part state.label) rest, second_long (codes "State: ") (label_part state.label ++ rest))

state_long : (state : State) → IsWritableState state → total_size state ≤ length (state_text state)
state_long state is =
    omega (arith, line_long state is, edges_long state.edges is.edges, length-append (state_line state) (flat_map edge_line state.edges))

states_long : (states : List State) → AllByRecursion IsWritableState states → sum_by total_size states ≤ length (flat_map state_text states)
states_long [] all = omega arith
states_long (state ∷ states) all =
    omega (arith, state_long state all.0, states_long states all.1, sum_by-cons total_size state states, length-append (state_text state) (flat_map state_text states))

-- the whole text
pub text_long : (a : Description) → AllByRecursion IsWritableState a.defined → sum_by total_size a.defined ≤ length (canonical_automaton a)
text_long a all =
    let lines : List ℕ = flat_map state_text a.defined in
    omega (
      arith,
      states_long a.defined all,
      first_long lines (codes "--END--\n"),
      second_long (codes "--BODY--\n") (lines ++ codes "--END--\n"),
      second_long (header_text a) (body_text a.defined),
    )
