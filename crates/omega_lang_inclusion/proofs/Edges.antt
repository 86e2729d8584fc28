-- The edges of the automaton of a word: one for each letter, from its state to the next.
use Rattle.std.proofs.Common.{◌≡◌, ℕ, zero, suc, ◌+◌, List, [], ◌∷◌, ◌++◌, length, map, Contains, Option, Some, None, option_map, refl, sym, ap, ◌∙◌, subst, arith, add-zero}
use Rattle.std.specs.Prelude.{slice_get}
use Rattle.std.specs.List.{AllZip, flat_map}
use Rattle.std.specs.Option.{option_or}
use Rattle.omega_hoa_label_text.specs.Expanding.{Meaning, expansion}
use Rattle.omega_hoa_label.specs.Label.{LabelTree}
use Rattle.omega_hoa_label.specs.Raw.{RawLabelTree}
use Rattle.omega_hoa_automaton.specs.Automaton.{BodyEdge, edges_from}
use Rattle.omega_hoa_automaton.specs.Meaning.{IsEdgeOf, IsLabelOf, IsStateOf}
use Rattle.omega_hoa_automaton.specs.declared.edge.Edge.{Edge}
use Rattle.omega_hoa_automaton.specs.declared.state.State.{State}
use Rattle.omega_hoa_syntax.specs.declared.raw_edge.RawEdge.{RawEdge}
use Rattle.omega_lang_runs.specs.Lasso.{label_of}
use Rattle.omega_lang_inclusion.specs.Written.{letter_state, letter_states, next_state}
use Rattle.omega_lang_inclusion.proofs.WordLetters.{some_is}

-- the edge of a letter leaves the state of its number alone, and enters the one that follows
pub record IsLetterEdge (count back number : ℕ) (letter : RawLabelTree) (edge : BodyEdge) : Type 0 where
  pub leaves : edge.source.number ≡ number
  pub enters : edge.edge.targets ≡ next_state count back number ∷ []
  pub tree : LabelTree
  pub label : label_of edge ≡ Some tree
  pub meant : option_map (λ (m : Meaning). m.tree) (expansion [] letter) ≡ Some tree

-- one edge of a list
record IsOnly (edges : List Edge) (raw : RawEdge) : Type 0 where
  pub edge : Edge
  pub only : edges ≡ edge ∷ []
  pub is : IsEdgeOf [] raw edge

only_edge : (raw : RawEdge) (edges : List Edge) → AllZip (IsEdgeOf []) (raw ∷ []) edges → IsOnly edges raw
only_edge raw [] all = absurd all
only_edge raw (edge ∷ []) all = record { edge = edge; only = refl; is = all.0 }
only_edge raw (edge ∷ next ∷ rest) all = absurd all.1

no_label : (found : Option LabelTree) → IsLabelOf [] None found → found ≡ None
no_label None is = refl
no_label (Some tree) is = absurd is

-- the label that is meant
record IsMeant (letter : RawLabelTree) (found : Option LabelTree) : Type 0 where
  pub tree : LabelTree
  pub is : found ≡ Some tree
  pub meant : option_map (λ (m : Meaning). m.tree) (expansion [] letter) ≡ Some tree

meant_label : (letter : RawLabelTree) (found : Option LabelTree) → IsLabelOf [] (Some letter) found → IsMeant letter found
meant_label letter None is = absurd is
meant_label letter (Some tree) is = record { tree = tree; is = refl; meant = is.tree_is }

-- the edge of a state of one letter
module _ (count back number : ℕ) (letter : RawLabelTree) (raw : RawEdge) (raw_label : raw.label ≡ Some letter) (raw_targets : raw.targets ≡ next_state count back number ∷ []) where
  letter_edge : (state : State) (edge : Edge) → IsEdgeOf [] raw edge → state.number ≡ number → state.label ≡ None
      → IsLetterEdge count back number letter (record { source = state; edge = edge })
  letter_edge state edge is numbered bare =
      let found = meant_label letter edge.label (subst (λ (l : Option RawLabelTree). IsLabelOf [] l edge.label) raw_label is.label) in
      record {
        leaves = numbered;
        enters = is.targets ∙ raw_targets;
        tree = found.tree;
        label = ap (λ (l : Option LabelTree). option_or l edge.label) bare ∙ found.is;
        meant = found.meant;
      }

-- what is found of a letter
pub record HasLetterEdge (count back number : ℕ) (edges : List BodyEdge) (at : ℕ) (letter : RawLabelTree) : Type 0 where
  pub edge : BodyEdge
  pub there : slice_get edges at ≡ Some edge
  pub is : IsLetterEdge count back number letter edge

-- the edges of states of which the first has one
edges_first : (state : State) (states : List State) (edge : Edge) → state.edges ≡ edge ∷ []
    → flat_map edges_from (state ∷ states) ≡ record { source = state; edge = edge } ∷ flat_map edges_from states
edges_first state states edge only =
    ap (λ (edges : List Edge). map {B = BodyEdge} (λ (e : Edge). record { source = state; edge = e }) edges ++ flat_map edges_from states) only

none_here : {A : Type 0} (x : A) → ◌≡◌ {A = Option A} None (Some x) → ⊥
none_here {A} x e = cc

pub edges_there : (count back number : ℕ) (letters : List RawLabelTree) (defined : List State) → AllZip (IsStateOf []) (letter_states count back number letters) defined
    → (k : ℕ) (letter : RawLabelTree) → slice_get letters k ≡ Some letter → HasLetterEdge count back (number + k) (flat_map edges_from defined) k letter
edges_there count back number [] defined all k letter is = absurd (none_here letter is)
edges_there count back number (x ∷ xs) [] all k letter is = absurd all
edges_there count back number (x ∷ xs) (state ∷ states) all zero letter is =
    let only = only_edge (record { label = Some x; targets = next_state count back number ∷ []; marks = None }) state.edges all.0.edges in
    let same : x ≡ letter = some_is x letter is in
    let edge = letter_edge count back number x (record { label = Some x; targets = next_state count back number ∷ []; marks = None }) refl refl state only.edge only.is all.0.number (no_label state.label all.0.label) in
    record {
      edge = record { source = state; edge = only.edge };
      there = ap (λ (edges : List BodyEdge). slice_get edges 0) (edges_first state states only.edge only.only);
      is = subst (λ n. IsLetterEdge count back n letter (record { source = state; edge = only.edge })) (sym (add-zero number))
          (subst (λ (l : RawLabelTree). IsLetterEdge count back number l (record { source = state; edge = only.edge })) same edge);
    }
edges_there count back number (x ∷ xs) (state ∷ states) all (suc k) letter is =
    let only = only_edge (record { label = Some x; targets = next_state count back number ∷ []; marks = None }) state.edges all.0.edges in
    let more = edges_there count back (number + 1) xs states all.1 k letter is in
    let same : (number + 1) + k ≡ number + suc k = omega arith in
    record {
      edge = more.edge;
      there = ap (λ (edges : List BodyEdge). slice_get edges (suc k)) (edges_first state states only.edge only.only) ∙ more.there;
      is = subst (λ n. IsLetterEdge count back n letter more.edge) same more.is;
    }

-- as many edges as letters
pub edges_counted : (count back number : ℕ) (letters : List RawLabelTree) (defined : List State) → AllZip (IsStateOf []) (letter_states count back number letters) defined
    → length (flat_map edges_from defined) ≡ length letters
edges_counted count back number [] [] all = refl
edges_counted count back number [] (state ∷ states) all = absurd all
edges_counted count back number (x ∷ xs) [] all = absurd all
edges_counted count back number (x ∷ xs) (state ∷ states) all =
    let only = only_edge (record { label = Some x; targets = next_state count back number ∷ []; marks = None }) state.edges all.0.edges in
    ap length (edges_first state states only.edge only.only) ∙ ap suc (edges_counted count back (number + 1) xs states all.1)

-- the state of a letter has one edge, whose label means the letter
pub record IsLetterState (letter : RawLabelTree) (state : State) : Type 0 where
  pub edge : Edge
  pub only : state.edges ≡ edge ∷ []
  pub tree : LabelTree
  pub label : edge.label ≡ Some tree
  pub meant : option_map (λ (m : Meaning). m.tree) (expansion [] letter) ≡ Some tree

of_letter : (number next : ℕ) (letter : RawLabelTree) (state : State) → IsStateOf [] (letter_state number next letter) state → IsLetterState letter state
of_letter number next letter state is =
    let only = only_edge (record { label = Some letter; targets = next ∷ []; marks = None }) state.edges is.edges in
    let found = meant_label letter only.edge.label only.is.label in
    record { edge = only.edge; only = only.only; tree = found.tree; label = found.is; meant = found.meant }

nothing_listed : {X : Type 0} (x : X) → Contains [] x → ⊥
nothing_listed x has = omega (arith, has.1)

-- each letter has such a state
pub state_of_letter : (count back number : ℕ) (letters : List RawLabelTree) (defined : List State) → AllZip (IsStateOf []) (letter_states count back number letters) defined
    → (letter : RawLabelTree) → Contains letters letter → (state : State) × Contains defined state × IsLetterState letter state
state_of_letter count back number [] defined all letter has = absurd (nothing_listed letter has)
state_of_letter count back number (x ∷ xs) [] all letter has = absurd all
state_of_letter count back number (x ∷ xs) (state ∷ states) all letter (zero, below, same) =
    (state, (0, omega arith, refl), subst (λ (l : RawLabelTree). IsLetterState l state) same (of_letter number (next_state count back number) x state all.0))
state_of_letter count back number (x ∷ xs) (state ∷ states) all letter (suc k, below, same) =
    let rest = state_of_letter count back (number + 1) xs states all.1 letter (k, omega (arith, below), same) in
    (rest.0, (suc rest.1.0, omega (arith, rest.1.1), rest.1.2), rest.2)

-- and each state is that of a letter
pub letter_of_state : (count back number : ℕ) (letters : List RawLabelTree) (defined : List State) → AllZip (IsStateOf []) (letter_states count back number letters) defined
    → (state : State) → Contains defined state → (letter : RawLabelTree) × Contains letters letter × IsLetterState letter state
letter_of_state count back number [] [] all state has = absurd (nothing_listed state has)
letter_of_state count back number [] (first ∷ states) all state has = absurd all
letter_of_state count back number (x ∷ xs) [] all state has = absurd all
letter_of_state count back number (x ∷ xs) (first ∷ states) all state (zero, below, same) =
    (x, (0, omega arith, refl), subst (IsLetterState x) same (of_letter number (next_state count back number) x first all.0))
letter_of_state count back number (x ∷ xs) (first ∷ states) all state (suc k, below, same) =
    let rest = letter_of_state count back (number + 1) xs states all.1 state (k, omega (arith, below), same) in
    (rest.0, (suc rest.1.0, omega (arith, rest.1.1), rest.1.2), rest.2)
