-- Automata that one text describes.
use Rattle.std.proofs.Common.{◌≡◌, ℕ, ◌+◌, Bool, List, [], ◌∷◌, length, Contains, Option, Some, None, refl, sym, ap, subst, ◌∙◌}
use Rattle.std.specs.Prelude.{option_and_then, option_map, slice_get, unwrap_or}
use Rattle.std.specs.List.{AllZip, filter_map, flat_map}
use Rattle.omega_text.specs.Cut.{CutsAreOne}
use Rattle.omega_text.specs.hoa.Format.{hoa_format}
use Rattle.omega_text.specs.NamedWords.{NamedWord}
use Rattle.omega_hoa_acceptance.specs.Meaning.{acc_meant}
use Rattle.omega_hoa_label.specs.Label.{LabelTree}
use Rattle.omega_hoa_label.specs.Raw.{RawLabelTree}
use Rattle.omega_hoa_label_text.specs.Expanding.{Defined}
use Rattle.omega_hoa_syntax.specs.Laws.{RawsAreOne}
use Rattle.omega_hoa_syntax.specs.declared.raw_automaton.RawAutomaton.{RawAutomaton}
use Rattle.omega_hoa_syntax.specs.declared.raw_edge.RawEdge.{RawEdge}
use Rattle.omega_hoa_syntax.specs.declared.raw_state.RawState.{RawState}
use Rattle.omega_hoa_automaton.specs.Automaton.{BodyEdge, Description, edge_at, edges_from}
use Rattle.omega_hoa_automaton.specs.Faults.{definitions_of, names_of}
use Rattle.omega_hoa_automaton.specs.Items.{acceptance_in, first_said, start_in, unknown_in}
use Rattle.omega_hoa_automaton.specs.Meaning.{AreMarksOf, IsEdgeOf, IsLabelOf, IsStateOf, written_marks}
use Rattle.omega_hoa_automaton.specs.declared.edge.Edge.{Edge}
use Rattle.omega_hoa_automaton.specs.declared.state.State.{State}
use Rattle.omega_hoa_automaton.proofs.MarkLemmas.{rising_is_one}
use Rattle.omega_hoa.specs.Segment.{IsRawOf}
use Rattle.omega_hoa_round_trips.specs.Laws.{IsRawText}
use Rattle.omega_lang_runs.specs.Lasso.{IsStep, label_of, marks_at, marks_of}
use Rattle.omega_lang_runs.specs.Runs.{Satisfies}
use Rattle.omega_lang_runs.specs.Words.{Allows, CanBeTaken, IsAccepted, IsValuation, index_in}
use Rattle.omega_lang_word_laws.specs.NamedWords.{AcceptsNamed, part_of}
use Rattle.omega_laws.specs.Describes.{AutomataAreDescribed, DescribedAreAlike, Describes}

pub described : AutomataAreDescribed
described text a read = record {
  raw = read.value.raw;
  written = record { lexemes = read.lexemes; cut = read.cut; written = read.value.written };
  starts = read.value.means.starts;
  propositions = read.value.means.propositions;
  acceptance = read.value.means.acceptance;
  unknown = read.value.means.unknown;
  defined = read.value.means.defined;
}

-- ---- what is written means one state at most

marks_one : (written a b : List ℕ) → AreMarksOf written a → AreMarksOf written b → a ≡ b
marks_one written a b one other =
    rising_is_one a b one.rising other.rising
    (λ m h. (other.same m).1 ((one.same m).0 h)) (λ m h. (one.same m).1 ((other.same m).0 h))

labels_one : (definitions : List Defined) (raw : Option RawLabelTree) (a b : Option LabelTree) → IsLabelOf definitions raw a → IsLabelOf definitions raw b → a ≡ b
labels_one definitions None None None one other = refl
labels_one definitions None None (Some y) one other = absurd other
labels_one definitions None (Some x) b one other = absurd one
labels_one definitions (Some raw) None b one other = absurd one
labels_one definitions (Some raw) (Some x) None one other = absurd other
labels_one definitions (Some raw) (Some x) (Some y) one other = sym one.tree_is ∙ other.tree_is

zip_one : {A B : Type 0} (R : A → B → Type 0) → ((x : A) (a b : B) → R x a → R x b → a ≡ b)
    → (xs : List A) (as_ bs : List B) → AllZip R xs as_ → AllZip R xs bs → as_ ≡ bs
zip_one R each [] [] [] one other = refl
zip_one R each [] [] (b ∷ bs) one other = absurd other
zip_one R each [] (a ∷ as_) bs one other = absurd one
zip_one R each (x ∷ xs) [] bs one other = absurd one
zip_one R each (x ∷ xs) (a ∷ as_) [] one other = absurd other
zip_one R each (x ∷ xs) (a ∷ as_) (b ∷ bs) one other =
    ap (λ y. y ∷ as_) (each x a b one.0 other.0) ∙ ap (λ ys. b ∷ ys) (zip_one R each xs as_ bs one.1 other.1)

-- an edge of these parts
abbrev edge_with : Option LabelTree → List ℕ → List ℕ → Edge
edge_with label targets marks = record { label = label; targets = targets; marks = marks }

edges_one : (definitions : List Defined) (raw : RawEdge) (a b : Edge) → IsEdgeOf definitions raw a → IsEdgeOf definitions raw b → a ≡ b
edges_one definitions raw a b one other =
    let label : a.label ≡ b.label = labels_one definitions raw.label a.label b.label one.label other.label in
    let targets : a.targets ≡ b.targets = one.targets ∙ sym other.targets in
    let marks : a.marks ≡ b.marks = marks_one (written_marks raw.marks) a.marks b.marks one.marks other.marks in
    ap (λ (l : Option LabelTree). edge_with l a.targets a.marks) label
    ∙ (ap (λ (t : List ℕ). edge_with b.label t a.marks) targets
    ∙ ap (λ (m : List ℕ). edge_with b.label b.targets m) marks)

-- a state of these parts
abbrev state_with : Option LabelTree → ℕ → Option (List ℕ) → List ℕ → List Edge → State
state_with label number name marks edges = record { label = label; number = number; name = name; marks = marks; edges = edges }

states_one : (definitions : List Defined) (raw : RawState) (a b : State) → IsStateOf definitions raw a → IsStateOf definitions raw b → a ≡ b
states_one definitions raw a b one other =
    let label : a.label ≡ b.label = labels_one definitions raw.label a.label b.label one.label other.label in
    let number : a.number ≡ b.number = one.number ∙ sym other.number in
    let name : a.name ≡ b.name = one.name ∙ sym other.name in
    let marks : a.marks ≡ b.marks = marks_one (written_marks raw.marks) a.marks b.marks one.marks other.marks in
    let edges : a.edges ≡ b.edges = zip_one (IsEdgeOf definitions) (edges_one definitions) raw.edges a.edges b.edges one.edges other.edges in
    ap (λ (l : Option LabelTree). state_with l a.number a.name a.marks a.edges) label
    ∙ (ap (λ (n : ℕ). state_with b.label n a.name a.marks a.edges) number
    ∙ (ap (λ (n : Option (List ℕ)). state_with b.label b.number n a.marks a.edges) name
    ∙ (ap (λ (m : List ℕ). state_with b.label b.number b.name m a.edges) marks
    ∙ ap (λ (e : List Edge). state_with b.label b.number b.name b.marks e) edges)))

-- ---- automata with the same parts

-- what acceptance looks at is the same
pub record HaveSameParts (a b : Description) : Type 0 where
  pub starts : a.starts ≡ b.starts
  pub propositions : a.propositions ≡ b.propositions
  pub acceptance : a.acceptance ≡ b.acceptance
  pub unknown : a.unknown ≡ b.unknown
  pub defined : a.defined ≡ b.defined

-- equal values that are there
inside : {X : Type 0} (x y : X) → Some x ≡ Some y → x ≡ y
inside x y e = cc

module _ (cuts_one : CutsAreOne hoa_format) (raws_one : RawsAreOne) (text : List ℕ) where
  raw_one : (one other : RawAutomaton) → IsRawText text one → IsRawText text other → one ≡ other
  raw_one one other here there =
      let same : here.lexemes ≡ there.lexemes = cuts_one text here.lexemes there.lexemes here.cut there.cut in
      (raws_one there.lexemes one [] (subst (λ lexemes. IsRawOf lexemes one) same here.written) other [] there.written).0

  pub same_parts : (a b : Description) → Describes text a → Describes text b → HaveSameParts a b
  same_parts a b one other =
      let raw : one.raw ≡ other.raw = raw_one one.raw other.raw one.written other.written in
      let P : RawAutomaton → Type 0 = λ r. AllZip (IsStateOf (definitions_of r)) r.states a.defined in
      let of : RawAutomaton → Option _ = λ r. option_and_then (λ accepted. acc_meant accepted.formula) (first_said acceptance_in r.items) in
      record {
        starts = one.starts ∙ ap (λ (r : RawAutomaton). filter_map start_in r.items) raw ∙ sym other.starts;
        propositions = one.propositions ∙ ap names_of raw ∙ sym other.propositions;
        acceptance = inside a.acceptance b.acceptance (sym one.acceptance ∙ ap of raw ∙ other.acceptance);
        unknown = one.unknown ∙ ap (λ (r : RawAutomaton). filter_map unknown_in r.items) raw ∙ sym other.unknown;
        defined = zip_one (IsStateOf (definitions_of other.raw)) (states_one (definitions_of other.raw)) other.raw.states a.defined b.defined
            (subst P raw one.defined) other.defined;
      }

module _ (a b : Description) (same : HaveSameParts a b) where
  -- the edge with a number among the edges of states
  abbrev edge_in : List State → ℕ → Option BodyEdge
  edge_in defined number = slice_get (flat_map edges_from defined) number

  same_edge : (number : ℕ) (edge : BodyEdge) → edge_at a number ≡ Some edge → edge_at b number ≡ Some edge
  same_edge number edge is = subst (λ (states : List State). edge_in states number ≡ Some edge) same.defined is

  allowed_alike : (number : ℕ) (label : Option LabelTree) (held : ℕ → Bool) → Allows a number label held → Allows b number label held
  allowed_alike number None held is =
      subst (λ (names : List (List ℕ)). IsValuation (length names) (index_in b.defined number) held) same.propositions
      (subst (λ (states : List State). IsValuation (length a.propositions) (index_in states number) held) same.defined is)
  allowed_alike number (Some label) held is = is

  pub same_step : (from number to : ℕ) → IsStep a from number to → IsStep b from number to
  same_step from number to is = record {
    edge = is.edge;
    numbered = same_edge number is.edge is.numbered;
    usable = is.usable;
    leaves = is.leaves;
    enters = is.enters;
  }

  pub same_taken : (number : ℕ) (held : ℕ → Bool) → CanBeTaken a number held → CanBeTaken b number held
  same_taken number held is = record {
    edge = is.edge;
    numbered = same_edge number is.edge is.numbered;
    allowed = allowed_alike number (label_of is.edge) held is.allowed;
  }

  pub accepted_alike : (word : ℕ → ℕ → Bool) → IsAccepted a word → IsAccepted b word
  accepted_alike word is =
      let run = is.accepting.run in
      let marks_in : List State → ℕ → List ℕ = λ states i. unwrap_or (option_map marks_of (edge_in states (is.edges i))) [] in
      record {
        states = is.states;
        edges = is.edges;
        accepting = record {
          run = record {
            begins = subst (λ (starts : List (List ℕ)). Contains starts (is.states 0 ∷ [])) same.starts run.begins;
            steps = λ i. same_step (is.states i) (is.edges i) (is.states (i + 1)) (run.steps i);
          };
          accepted = subst (λ f. Satisfies (λ i. marks_at b (is.edges i)) f) same.acceptance
              (subst (λ (states : List State). Satisfies (marks_in states) a.acceptance) same.defined is.accepting.accepted);
        };
        taken = λ i. same_taken (is.edges i) (word i) (is.taken i);
      }

  pub named_alike : (word : NamedWord) → AcceptsNamed a word → AcceptsNamed b word
  named_alike word accepted =
      subst (λ (names : List (List ℕ)). IsAccepted b (part_of names word)) same.propositions (accepted_alike (part_of a.propositions word) accepted)

pub described_alike : CutsAreOne hoa_format → RawsAreOne → DescribedAreAlike
described_alike cuts_one raws_one text one other here there =
    let same : HaveSameParts one other = same_parts cuts_one raws_one text one other here there in
    (same.propositions, named_alike one other same)
