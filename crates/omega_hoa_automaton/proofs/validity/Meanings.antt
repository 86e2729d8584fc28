-- An automaton that is written without a fault means one, part by part.
use Rattle.std.proofs.Common.{◌≡◌, Bool, true, false, cond, not, ◌||◌, nat_lt, List, [], ◌∷◌, map, Option, Some, None, IfSome, All, is_none, is_some, option_map, option_and_then, refl, ap, sym, ◌∙◌}
use Rattle.std.specs.List.{AllZip, cons_option, filter_map, flat_map, list_any, slice_get}
use Rattle.std.proofs.lemmas.Bool.{false≢true, not-false}
use Rattle.std.proofs.lemmas.List.Elements.{All-head, All-tail}
use Rattle.omega_text.specs.declared.refusal.automaton.AutomatonFault.TheVariants.{AcceptanceAtom, Alias, Expansion, MissingAcceptance, TooDeep}
use Rattle.omega_hoa_acceptance.specs.Meaning.{acc_meant}
use Rattle.omega_hoa_acceptance.specs.Acceptance.{AccTree}
use Rattle.omega_hoa_label_text.specs.Expanding.{Defined, Meaning, expansion, fault_of_meaning}
use Rattle.omega_hoa_label.specs.Label.{LabelTree, label_size}
use Rattle.omega_hoa_expression.specs.Limits.{most_depth, most_size}
use Rattle.omega_hoa_label.specs.Raw.{RawLabelTree}
use Rattle.omega_hoa_syntax.specs.declared.raw_automaton.RawAutomaton.{RawAutomaton}
use Rattle.omega_hoa_syntax.specs.declared.raw_edge.RawEdge.{RawEdge}
use Rattle.omega_hoa_syntax.specs.declared.raw_state.RawState.{RawState}
use Rattle.omega_hoa_automaton.specs.Automaton.{Description}
use Rattle.omega_hoa_automaton.specs.Faults.{applies, definitions_of, automaton_fault_of, has_deep_expression, has_large_expression, has_wrong_alias, has_wrong_atom, is_deep, is_labelled, is_large, lacks_acceptance, names_of, passes, set_count, state_count}
use Rattle.omega_hoa_automaton.specs.Items.{Accepted, acc_name_in, acceptance_in, first_said, name_in, properties_in, start_in, tool_in, unknown_in}
use Rattle.omega_hoa_automaton.specs.Meaning.{IsEdgeOf, IsLabelOf, IsStateOf, Means, written_marks}
use Rattle.omega_hoa_automaton.specs.declared.edge.Edge.{Edge}
use Rattle.omega_hoa_automaton.specs.declared.state.State.{State}
use Rattle.omega_hoa_automaton.proofs.FaultLemmas.{no_fault_passes}
use Rattle.omega_hoa_automaton.proofs.validity.Marks.{marks_there, set_of}
use Rattle.omega_hoa_automaton.proofs.validity.Tests.{all_fail, first_of, neither, said_all}

-- ---- labels

-- a meaning that fails none of the tests has no fault
sound_by_tests : (deep large : Bool) → deep ≡ false → large ≡ false → cond deep (Some TooDeep) (cond large (Some Expansion) None) ≡ None
sound_by_tests true large one other = absurd (false≢true (sym one))
sound_by_tests false true one other = absurd (false≢true (sym other))
sound_by_tests false false one other = refl

-- what a label means is there and has no fault
record IsSound (meaning : Option Meaning) : Type 0 where
  there : is_none meaning ≡ false
  deep : is_deep meaning ≡ false
  large : is_large meaning ≡ false

-- so it has a tree
sound_means : (meaning : Option Meaning) → IsSound meaning → fault_of_meaning meaning ≡ None
sound_means None sound = absurd (false≢true (sym sound.there))
sound_means (Some meaning) sound =
    sound_by_tests (nat_lt most_depth meaning.depth) (nat_lt most_size (label_size meaning.tree)) sound.deep sound.large

-- the tree of a meaning
abbrev tree_of : Option Meaning → Option LabelTree
tree_of meaning = option_map (λ meaning. meaning.tree) meaning

-- a label without its aliases, or none
abbrev label_of : List Defined → Option RawLabelTree → Option LabelTree
label_of definitions None = None
label_of definitions (Some raw) = tree_of (expansion definitions raw)

-- what is written has such a label
abbrev IsLabelSound : List Defined → Option RawLabelTree → Type 0
IsLabelSound definitions label = IfSome label (λ raw. IsSound (expansion definitions raw))

-- a sound meaning is that of its tree
label_by_meaning : (definitions : List Defined) (raw : RawLabelTree) (meaning : Option Meaning) → expansion definitions raw ≡ meaning → IsSound meaning
    → IsLabelOf definitions (Some raw) (tree_of meaning)
label_by_meaning definitions raw None is sound = absurd (false≢true (sym sound.there))
label_by_meaning definitions raw (Some meaning) is sound = record {
  sound = ap fault_of_meaning is ∙ sound_means (Some meaning) sound;
  tree_is = ap tree_of is;
}

-- a sound label is there
label_there : (definitions : List Defined) (label : Option RawLabelTree) → IsLabelSound definitions label → IsLabelOf definitions label (label_of definitions label)
label_there definitions None sound = tt
label_there definitions (Some raw) sound = label_by_meaning definitions raw (expansion definitions raw) refl sound

-- ---- edges and states

-- the edge that is written
abbrev edge_of : List Defined → RawEdge → Edge
edge_of definitions raw = record { label = label_of definitions raw.label; targets = raw.targets; marks = set_of (written_marks raw.marks) }

-- an edge with a sound label
edge_there : (definitions : List Defined) (raw : RawEdge) → IsLabelSound definitions raw.label → IsEdgeOf definitions raw (edge_of definitions raw)
edge_there definitions raw sound = record {
  label = label_there definitions raw.label sound;
  targets = refl;
  marks = marks_there (written_marks raw.marks);
}

-- what is made of each item is related to it
zip_there : {A B : Type 0} (R : A → B → Type 0) (made : A → B) (xs : List A) → All (λ x. R x (made x)) xs → AllZip R xs (map made xs)
zip_there R made [] all = tt
zip_there R made (x ∷ xs) all = (All-head (λ x. R x (made x)) x xs all, zip_there R made xs (All-tail (λ x. R x (made x)) x xs all))

-- the state that is written
abbrev state_of : List Defined → RawState → State
state_of definitions raw = record {
  label = label_of definitions raw.label;
  number = raw.number;
  name = raw.name;
  marks = set_of (written_marks raw.marks);
  edges = map (edge_of definitions) raw.edges;
}

-- a state with sound labels
record IsStateSound (definitions : List Defined) (raw : RawState) : Type 0 where
  label : IsLabelSound definitions raw.label
  edges : All (λ edge. IsLabelSound definitions edge.label) raw.edges

-- is there
state_there : (definitions : List Defined) (raw : RawState) → IsStateSound definitions raw → IsStateOf definitions raw (state_of definitions raw)
state_there definitions raw sound = record {
  label = label_there definitions raw.label sound.label;
  number = refl;
  name = refl;
  marks = marks_there (written_marks raw.marks);
  edges = zip_there (IsEdgeOf definitions) (edge_of definitions) raw.edges (λ k d within. edge_there definitions _ (sound.edges k d within));
}

-- a label that fails each of the tests is sound
label_sound : (definitions : List Defined) (label : Option RawLabelTree)
    → passes (λ raw. is_none (expansion definitions raw)) label ≡ false → passes (λ raw. is_deep (expansion definitions raw)) label ≡ false
    → passes (λ raw. is_large (expansion definitions raw)) label ≡ false → IsLabelSound definitions label
label_sound definitions None there deep large = tt
label_sound definitions (Some raw) there deep large = record { there = there; deep = deep; large = large }

-- the labels of a state and its edges fail a test of what they mean
abbrev FailsAll : (Option Meaning → Bool) → List Defined → RawState → Type 0
FailsAll test definitions state = is_labelled (λ raw. test (expansion definitions raw)) state ≡ false

-- a state whose labels fail each of the tests is sound
state_sound : (definitions : List Defined) (state : RawState) → FailsAll is_none definitions state → FailsAll is_deep definitions state
    → FailsAll is_large definitions state → IsStateSound definitions state
state_sound definitions state there deep large =
    let some = neither _ _ there in
    let shallow = neither _ _ deep in
    let small = neither _ _ large in
    let edges_there = all_fail (λ edge. passes (λ raw. is_none (expansion definitions raw)) edge.label) state.edges some.1 in
    let edges_shallow = all_fail (λ edge. passes (λ raw. is_deep (expansion definitions raw)) edge.label) state.edges shallow.1 in
    let edges_small = all_fail (λ edge. passes (λ raw. is_large (expansion definitions raw)) edge.label) state.edges small.1 in
    record {
      label = label_sound definitions state.label some.0 shallow.0 small.0;
      edges = λ k d within. label_sound definitions _ (edges_there k d within) (edges_shallow k d within) (edges_small k d within);
    }

-- 27: each label means something
labels_there : (raw : RawAutomaton) → has_wrong_alias raw ≡ false → All (FailsAll is_none (definitions_of raw)) raw.states
unfolding has_wrong_alias
labels_there raw h = all_fail (is_labelled (λ label. is_none (expansion (definitions_of raw) label))) raw.states (neither _ _ (neither _ _ h).1).1

-- 32: that is not too deep
labels_shallow : (raw : RawAutomaton) → has_deep_expression raw ≡ false → All (FailsAll is_deep (definitions_of raw)) raw.states
unfolding has_deep_expression
labels_shallow raw h = all_fail (is_labelled (λ label. is_deep (expansion (definitions_of raw) label))) raw.states (neither _ _ (neither _ _ h).1).1

-- 33: nor too large
labels_small : (raw : RawAutomaton) → has_large_expression raw ≡ false → All (FailsAll is_large (definitions_of raw)) raw.states
unfolding has_large_expression
labels_small raw h = all_fail (is_labelled (λ label. is_large (expansion (definitions_of raw) label))) raw.states (neither _ _ (neither _ _ h).0).1

-- ---- the acceptance

-- what some item says is said first by one
said_first : {I X : Type 0} (said : I → Option X) (items : List I) → list_any (λ item. is_some (said item)) items ≡ true
    → is_some (slice_get (filter_map said items) 0) ≡ true
said_first said [] h = absurd (false≢true h)
said_first said (item ∷ items) h = by_case (said item) (filter_map said items) (said_first said items) h
  where
    by_case : {X : Type 0} (first : Option X) (rest : List X) → (list_any (λ item. is_some (said item)) items ≡ true → is_some (slice_get rest 0) ≡ true)
        → (is_some first || list_any (λ item. is_some (said item)) items) ≡ true → is_some (slice_get (cons_option first rest) 0) ≡ true
    by_case None rest later h = later h
    by_case (Some x) rest later h = refl

-- the tree of an acceptance that is there and means something
acceptance_there : (accepted : Option Accepted) → is_some accepted ≡ true → IfSome accepted (λ accepted. is_none (acc_meant accepted.formula) ≡ false)
    → (tree : AccTree) × (option_and_then (λ accepted. acc_meant accepted.formula) accepted ≡ Some tree)
acceptance_there None there means = absurd (false≢true there)
acceptance_there (Some accepted) there means = by_meaning (acc_meant accepted.formula) means
  where
    by_meaning : (meant : Option AccTree) → is_none meant ≡ false → (tree : AccTree) × (meant ≡ Some tree)
    by_meaning None h = absurd (false≢true (sym h))
    by_meaning (Some tree) h = (tree, refl)

-- 22: some item is an acceptance
acceptance_said : (raw : RawAutomaton) → lacks_acceptance raw ≡ false → is_some (slice_get (filter_map acceptance_in raw.items) 0) ≡ true
unfolding lacks_acceptance
acceptance_said raw h = said_first acceptance_in raw.items (not-false _ h)

-- 31: the first means something
acceptance_means : (raw : RawAutomaton) → has_wrong_atom raw ≡ false
    → IfSome (slice_get (filter_map acceptance_in raw.items) 0) (λ accepted. is_none (acc_meant accepted.formula) ≡ false)
unfolding has_wrong_atom
acceptance_means raw h =
    first_of (λ accepted. is_none (acc_meant accepted.formula) ≡ false) (filter_map acceptance_in raw.items)
    (said_all acceptance_in (λ accepted. is_none (acc_meant accepted.formula)) (λ accepted. is_none (acc_meant accepted.formula) ≡ false) (λ accepted fails. fails) raw.items h)

-- ---- the automaton

-- the automaton that is written, with this acceptance
abbrev automaton_of : RawAutomaton → AccTree → Description
automaton_of raw tree = record {
  tool = first_said tool_in raw.items;
  name = first_said name_in raw.items;
  states = state_count raw;
  starts = filter_map start_in raw.items;
  propositions = names_of raw;
  acc_name = first_said acc_name_in raw.items;
  sets = set_count raw;
  acceptance = tree;
  properties = flat_map properties_in raw.items;
  unknown = filter_map unknown_in raw.items;
  defined = map (state_of (definitions_of raw)) raw.states;
}

-- an automaton that is written without a fault means one
pub meaning_there : (raw : RawAutomaton) → automaton_fault_of raw ≡ None → (a : Description) × Means raw a
meaning_there raw faultless =
    let there = labels_there raw (no_fault_passes (applies raw) Alias faultless) in
    let shallow = labels_shallow raw (no_fault_passes (applies raw) TooDeep faultless) in
    let small = labels_small raw (no_fault_passes (applies raw) Expansion faultless) in
    let acceptance =
    acceptance_there (slice_get (filter_map acceptance_in raw.items) 0)
    (acceptance_said raw (no_fault_passes (applies raw) MissingAcceptance faultless))
    (acceptance_means raw (no_fault_passes (applies raw) AcceptanceAtom faultless)) in (
      automaton_of raw acceptance.0,
      record {
        faultless = faultless;
        tool = refl;
        name = refl;
        states = refl;
        starts = refl;
        propositions = refl;
        acc_name = refl;
        sets = refl;
        acceptance = acceptance.1;
        properties = refl;
        unknown = refl;
        defined = zip_there (IsStateOf (definitions_of raw)) (state_of (definitions_of raw)) raw.states
            (λ k d within. state_there (definitions_of raw) _ (state_sound (definitions_of raw) _ (there k d within) (shallow k d within) (small k d within)));
      },
    )
