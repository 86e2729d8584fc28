-- A product as it is written means the product.
use Rattle.std.proofs.Common.{◌≡◌, ℕ, suc, ◌+◌, ◌≤◌, List, [], ◌∷◌, ◌++◌, length, map, Option, Some, None, refl, sym, ap, ap₂, subst, ◌∙◌, arith}
use Rattle.std.specs.Prelude.{option_map, slice_get, sum_by}
use Rattle.std.proofs.lemmas.List.{length-append, length-map}
use Rattle.std.proofs.lemmas.List.Sums.{sum_by-cons}
use Rattle.std.specs.List.{AllZip, filter_map, flat_map}
use Rattle.omega_hoa_acceptance.specs.Acceptance.{AccTree}
use Rattle.omega_hoa_label_text.specs.Expanding.{Defined, IsExpansion, Meaning}
use Rattle.omega_hoa_label.specs.Writing.{label_written}
use Rattle.omega_hoa_acceptance.specs.Writing.{acc_written}
use Rattle.omega_acc.specs.WritingLaws.{WrittenFormulasMean, WrittenLabelsMean}
use Rattle.omega_hoa_acceptance.specs.declared.name.AccName.{AccName}
use Rattle.omega_hoa_label.specs.Label.{LabelTree}
use Rattle.omega_hoa_automaton.specs.Automaton.{Description, edges_from}
use Rattle.omega_hoa_automaton.specs.Faults.{definitions_of, set_count, state_count}
use Rattle.omega_hoa_automaton.specs.Items.{acc_name_in, alias_in, first_said, name_in, properties_in, start_in, tool_in, unknown_in}
use Rattle.omega_hoa_automaton.specs.Meaning.{AreMarksOf, IsEdgeOf, IsLabelOf, IsStateOf, Means}
use Rattle.omega_hoa_automaton.specs.declared.edge.Edge.{Edge}
use Rattle.omega_hoa_automaton.specs.declared.state.State.{State}
use Rattle.omega_hoa_syntax.specs.declared.raw_automaton.RawAutomaton.{RawAutomaton}
use Rattle.omega_hoa_syntax.specs.declared.raw_item.RawItem.{RawItem}
use Rattle.omega_hoa_syntax.specs.declared.raw_item.RawItem.TheVariants as item
use Rattle.omega_hoa_syntax.specs.declared.raw_state.RawState.{RawState}
use Rattle.omega_text.specs.Limits.{most_number}
use Rattle.omega_lang_product.specs.Acceptance.{IsJointAcceptance}
use Rattle.omega_lang_product.specs.Limits.{IsWithin}
use Rattle.omega_hoa_edges.specs.Limits.{most_edges, most_states}
use Rattle.omega_lang_product.specs.Pairs.{AreReached, Pair, first_leaving, pair_number, second_leaving, start_pairs}
use Rattle.omega_lang_product.specs.Product.{IsJointEdge, IsPairState, IsProduct, joint_plain_edges}
use Rattle.omega_lang_product.specs.declared.plain_edge.PlainEdge.{PlainEdge}
use Rattle.omega_lang_product.specs.Written.{IsWrittenProduct, name_items, raw_edge, raw_product, raw_start, raw_state_of}
use Rattle.omega_lang_product.proofs.Membership.{Contains-here, Contains-nothing}

same_some : {X : Type 0} (x y : X) → Some x ≡ Some y → x ≡ y
same_some x y e = cc

-- a label as it is written means itself
pub meant_is : WrittenLabelsMean → (meant tree : LabelTree) → IsExpansion [] (label_written tree) meant → meant ≡ tree
meant_is mean meant tree is =
    same_some meant tree (sym is.tree_is ∙ ap (option_map (λ (m : Meaning). m.tree)) (mean [] tree).means)

-- starts say nothing else
module _ (pairs : List Pair) where
  nothing_said : {X : Type 0} (says : RawItem → Option X) → ((states : List ℕ) → says (item.Start states) ≡ None) → (ps : List Pair)
      → filter_map says (map (raw_start pairs) ps) ≡ []
  nothing_said says none [] = refl
  nothing_said {X = X} says none (p ∷ ps) = rw (none (pair_number pairs p ∷ [])) (nothing_said says none ps)

  no_properties : (ps : List Pair) → flat_map properties_in (map (raw_start pairs) ps) ≡ []
  no_properties [] = refl
  no_properties (p ∷ ps) = no_properties ps

  starts_said : (ps : List Pair) → filter_map start_in (map (raw_start pairs) ps) ≡ map (λ pair. pair_number pairs pair ∷ []) ps
  starts_said [] = refl
  starts_said (p ∷ ps) = ap (λ (rest : List (List ℕ)). (pair_number pairs p ∷ []) ∷ rest) (starts_said ps)

-- a label that is not there, and marks that are none
no_label : (definitions : List Defined) (l : Option LabelTree) → IsLabelOf definitions None l → l ≡ None
no_label definitions None is = refl
no_label definitions (Some tree) is = absurd is

no_marks : (marks : List ℕ) → AreMarksOf [] marks → marks ≡ []
no_marks [] are = refl
no_marks (x ∷ xs) are = absurd (Contains-nothing x ((are.same x).0 (Contains-here x xs)))

a_label : WrittenLabelsMean → (definitions : List Defined) (tree : LabelTree) (l : Option LabelTree) → definitions ≡ []
    → IsLabelOf definitions (Some (label_written tree)) l → l ≡ Some tree
a_label mean definitions tree None none is = absurd is
a_label mean definitions tree (Some meant) none is =
    ap Some (meant_is mean meant tree (subst (λ (ds : List Defined). IsExpansion ds (label_written tree) meant) none is))

-- edges and states
edges_meant : WrittenLabelsMean → (definitions : List Defined) → definitions ≡ [] → (ts : List PlainEdge) (edges : List Edge) → AllZip (IsEdgeOf definitions) (map raw_edge ts) edges
    → AllZip IsJointEdge ts edges
edges_meant mean definitions none [] [] all = tt
edges_meant mean definitions none [] (edge ∷ edges) all = absurd all
edges_meant mean definitions none (t ∷ ts) [] all = absurd all
edges_meant mean definitions none (t ∷ ts) (edge ∷ edges) all = (
  record { label = a_label mean definitions t.label edge.label none all.0.label; targets = all.0.targets; marks = all.0.marks },
  edges_meant mean definitions none ts edges all.1,
)

module _ (mean : WrittenLabelsMean) (formulas : WrittenFormulasMean) (one other : Description) (pairs : List Pair) where
  states_meant : (definitions : List Defined) → definitions ≡ [] → (ps : List Pair) (states : List State)
      → AllZip (IsStateOf definitions) (map (raw_state_of one other pairs) ps) states → AllZip (IsPairState one other pairs) ps states
  states_meant definitions none [] [] all = tt
  states_meant definitions none [] (state ∷ states) all = absurd all
  states_meant definitions none (p ∷ ps) [] all = absurd all
  states_meant definitions none (p ∷ ps) (state ∷ states) all = (
    record {
      label = no_label definitions state.label all.0.label;
      number = all.0.number;
      name = all.0.name;
      marks = no_marks state.marks all.0.marks;
      edges = edges_meant mean definitions none
          (joint_plain_edges pairs (first_leaving one other p) (second_leaving one other p))
          state.edges all.0.edges;
    },
    states_meant definitions none ps states all.1,
  )

  pub product_meant : (a : Description) (name : Option AccName) (tree : AccTree) → AreReached one other pairs → IsJointAcceptance one other name tree
      → Means (raw_product one other pairs name (acc_written tree)) a → IsProduct one other a
  product_meant a name tree reached joint means = record {
    pairs = pairs;
    reached = reached;
    tool = means.tool ∙ first tool_in (λ states. refl) (λ n. refl);
    name = means.name ∙ first name_in (λ states. refl) (λ n. refl);
    states = means.states;
    starts = means.starts ∙ starts_after name;
    propositions = means.propositions;
    sets = means.sets;
    accepted = subst (λ (n : Option AccName). IsJointAcceptance one other n a.acceptance) (sym (means.acc_name ∙ named name))
        (subst (IsJointAcceptance one other name) (same_some _ _ (sym (formulas tree).means ∙ means.acceptance)) joint);
    properties = means.properties ∙ no_properties_after name;
    unknown = means.unknown ∙ nothing_after name unknown_in (λ states. refl) (λ n. refl);
    defined = states_meant (definitions_of (raw_product one other pairs name (acc_written tree))) (nothing_after name alias_in (λ states. refl) (λ n. refl)) pairs a.defined means.defined;
  }
    where
      nothing_after : {X : Type 0} (name : Option AccName) (says : RawItem → Option X) → ((states : List ℕ) → says (item.Start states) ≡ None)
          → ((n : AccName) → says (item.AccName n) ≡ None) → filter_map says (name_items name ++ map (raw_start pairs) (start_pairs one other)) ≡ []
      nothing_after None says none unnamed = nothing_said pairs says none (start_pairs one other)
      nothing_after (Some n) says none unnamed = rw (unnamed n) (nothing_said pairs says none (start_pairs one other))

      first : {X : Type 0} (says : RawItem → Option X) → ((states : List ℕ) → says (item.Start states) ≡ None)
          → ((n : AccName) → says (item.AccName n) ≡ None) → first_said says (name_items name ++ map (raw_start pairs) (start_pairs one other)) ≡ None
      first {X = X} says none unnamed = ap (λ (l : List X). slice_get l 0) (nothing_after name says none unnamed)

      starts_after : (name : Option AccName) → filter_map start_in (name_items name ++ map (raw_start pairs) (start_pairs one other)) ≡ map (λ pair. pair_number pairs pair ∷ []) (start_pairs one other)
      starts_after None = starts_said pairs (start_pairs one other)
      starts_after (Some n) = starts_said pairs (start_pairs one other)

      no_properties_after : (name : Option AccName) → flat_map properties_in (name_items name ++ map (raw_start pairs) (start_pairs one other)) ≡ []
      no_properties_after None = no_properties pairs (start_pairs one other)
      no_properties_after (Some n) = no_properties pairs (start_pairs one other)

      named : (name : Option AccName) → first_said acc_name_in (name_items name ++ map (raw_start pairs) (start_pairs one other)) ≡ name
      named None = ap (λ (l : List AccName). slice_get l 0) (nothing_said pairs acc_name_in (λ states. refl) (start_pairs one other))
      named (Some n) = refl

-- a product as it is written has no more edges than its states
edges_as_many : (definitions : List Defined) (raw : List RawState) (states : List State) → AllZip (IsStateOf definitions) raw states
    → length (flat_map edges_from states) ≡ sum_by (λ state. length state.edges) raw
edges_as_many definitions [] [] all = refl
edges_as_many definitions [] (state ∷ states) all = absurd all
edges_as_many definitions (r ∷ raw) [] all = absurd all
edges_as_many definitions (r ∷ raw) (state ∷ states) all =
    let here : length (edges_from state) ≡ length r.edges =
    length-map state.edges (λ edge. record { source = state; edge = edge }) ∙ sym (zipped (IsEdgeOf definitions) r.edges state.edges all.0.edges) in
    let later = edges_as_many definitions raw states all.1 in
    length-append (edges_from state) (flat_map edges_from states) ∙ ap₂ ◌+◌ here later ∙ sym (sum_by-cons (λ (s : RawState). length s.edges) r raw)
  where
    zipped : {X Y : Type 0} (R : X → Y → Type 0) (xs : List X) (ys : List Y) → AllZip R xs ys → length xs ≡ length ys
    zipped R [] [] all = refl
    zipped R [] (y ∷ ys) all = absurd all
    zipped R (x ∷ xs) [] all = absurd all
    zipped R (x ∷ xs) (y ∷ ys) all = ap suc (zipped R xs ys all.1)

pub states_written : (raw : RawAutomaton) (a : Description) (one other : Description) (product : IsWrittenProduct one other raw) → Means raw a → a.states ≡ length product.pairs
states_written raw a one other product means = means.states ∙ ap state_count product.is

pub sets_written : (raw : RawAutomaton) (a : Description) (one other : Description) → IsWrittenProduct one other raw → Means raw a → a.sets ≡ one.sets + other.sets
sets_written raw a one other product means = means.sets ∙ ap set_count product.is

pub product_within : (raw : RawAutomaton) (a : Description) (one other : Description) → IsWrittenProduct one other raw → Means raw a → length raw.states ≤ most_states
    → sum_by (λ state. length state.edges) raw.states ≤ most_edges → one.sets + other.sets ≤ most_number → IsWithin a
product_within raw a one other product means few light small =
    let states : length product.pairs ≡ length raw.states =
    sym (length-map product.pairs (raw_state_of one other product.pairs)) ∙ sym (ap (λ (r : RawAutomaton). length r.states) product.is) in
    record {
      states = omega (arith, states_written raw a one other product means, states, few);
      edges = omega (arith, edges_as_many (definitions_of raw) raw.states a.defined means.defined, light);
      sets = omega (arith, sets_written raw a one other product means, small);
    }
