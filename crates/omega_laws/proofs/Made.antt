-- An automaton as the text of a controller has it: each edge has a label and leads to one state, there are no marks,
-- and all words are accepted. Its text is read back.
use Rattle.std.proofs.Common.{◌≡◌, ℕ, ◌+◌, ◌<◌, ◌≤◌, Bool, true, false, not, ◌&&◌, ◌||◌, ◌==◌, ◌^◌, nat_lt, nat_eq, Option, Some, None, option_map, List, [], ◌∷◌, codes, length, map, refl, sym, ap, subst, ◌∙◌, arith}
use Rattle.std.specs.Prelude.{IfSome, is_some, sum_by}
use Rattle.std.specs.List.{AllByRecursion, list_any}
use Rattle.std.specs.Str.{bytes_eq}
use Rattle.std.proofs.lemmas.List.Elements.{All-cons, All-from_recursion, All-nil, recursion_from_All}
use Rattle.std.proofs.lemmas.List.Sums.{AllPass-from_list_all}
use Rattle.omega_text.specs.Bytes.{is_word_byte}
use Rattle.omega_text.specs.Forms.{IsWord}
use Rattle.omega_text.specs.Limits.{most_number, most_text}
use Rattle.omega_text.specs.hoa.Forms.{IsQuotable}
use Rattle.omega_hoa_expression.specs.Limits.{most_depth, most_size}
use Rattle.omega_hoa_label.specs.Label.{LabelTree}
use Rattle.omega_hoa_label.specs.Writing.{NumbersFit, label_written}
use Rattle.omega_hoa_acceptance.specs.Acceptance as acc
use Rattle.omega_hoa_syntax.specs.declared.header_value.HeaderValue.TheVariants as value
use Rattle.omega_hoa_syntax.specs.declared.raw_edge.RawEdge.{RawEdge}
use Rattle.omega_hoa_automaton.specs.Automaton.{AreBelow, AreMarks, AreTargets, Description, IsAutomaton, IsEdge, IsLabel, IsState, has_repeat, total_size}
use Rattle.omega_hoa_automaton.specs.Faults.{has_label, is_miscounted, is_mixed}
use Rattle.omega_hoa_automaton.specs.Limits.{most_propositions, most_total_size}
use Rattle.omega_hoa_automaton.specs.declared.edge.Edge.{Edge}
use Rattle.omega_hoa_automaton.specs.declared.state.State.{State}
use Rattle.omega_canon.specs.Canonical.{canonical_automaton}
use Rattle.omega_hoa.specs.Alone.{IsAutomatonText}
use Rattle.omega_hoa.specs.Laws.{AutomataFillSegments}
use Rattle.omega_hoa_round_trips.specs.Writable.{AreJoined, IsWritableAutomaton, IsWritableEdge, IsWritableHeader, IsWritableName, IsWritableNumber, IsWritableState, IsWritableValue}
use Rattle.omega_hoa_round_trips.specs.Written.{edge_written, state_written}
use Rattle.omega_hoa_round_trips.proofs.meanings.Faultless.{IsFine, IsFineState}
use Rattle.omega_hoa_round_trips.proofs.meanings.Form.{HasForm}
use Rattle.omega_hoa_round_trips.proofs.meanings.Meant.{Meanings, form-means}
use Rattle.omega_hoa_round_trips.proofs.meanings.ReadBack.{written-read}
use Rattle.omega_hoa_round_trips.proofs.meanings.Tests.{none-pass}
use Rattle.omega_hoa_round_trips.proofs.texts.Lists.{all-then}
use Rattle.omega_hoa_round_trips.proofs.texts.Spelled.{Known}
use Rattle.omega_hoa_round_trips.proofs.values.Kept.{numbers-fit}
use Rattle.omega_synth_text.specs.Winner.{all_words, controllable_item}
use Rattle.omega_laws.proofs.Given.{ListsOne}
use Rattle.omega_laws.proofs.Sizes.{text_long}
use Rattle.omega_laws.proofs.Valuations.{IsBounded}

-- an edge, over `count` propositions
pub record IsMadeEdge (count states : ℕ) (edge : Edge) : Type 0 where
  pub tree : LabelTree
  pub labelled : edge.label ≡ Some tree
  pub fits : IsBounded count most_depth most_size tree
  pub leads : ListsOne states edge.targets
  pub unmarked : edge.marks ≡ []

-- a state
pub record IsMadeState (count states : ℕ) (state : State) : Type 0 where
  pub bare : state.label ≡ None
  pub number : state.number < states
  pub name : IfSome state.name IsQuotable
  pub unmarked : state.marks ≡ []
  pub edges : AllByRecursion (IsMadeEdge count states) state.edges

-- the automaton of these parts
abbrev pub made : (states : ℕ) → (starts propositions : List (List ℕ)) → (controlled : List ℕ) → List State → Description
made states starts propositions controlled defined = record {
  tool = None;
  name = None;
  states = states;
  starts = starts;
  propositions = propositions;
  acc_name = Some all_words;
  sets = 0;
  acceptance = acc.constant true;
  properties = [];
  unknown = controllable_item controlled ∷ [];
  defined = defined;
}

-- the parts fit
pub record IsMade (states : ℕ) (starts propositions : List (List ℕ)) (controlled : List ℕ) (defined : List State) : Type 0 where
  pub few_states : states ≤ most_number
  pub starts_are : AllByRecursion (ListsOne states) starts
  pub quotable : AllByRecursion IsQuotable propositions
  pub few : length propositions ≤ most_propositions
  pub unlike : has_repeat bytes_eq propositions ≡ false
  pub controls : AreBelow (length propositions) controlled
  pub states_are : AllByRecursion (IsMadeState (length propositions) states) defined
  pub once : has_repeat nat_eq (map (λ state. state.number) defined) ≡ false

-- ---- the header

words_name : IsWritableName all_words
words_name = record { name_is = (word, λ e. longer_t (ap length e), λ e. longer_f (ap length e)); parameters = tt }
  where
    word : IsWord (codes "all")
    word = (omega arith, refl, AllPass-from_list_all is_word_byte (codes "all") refl)

    longer_t : length (codes "all") ≡ length (codes "t") → ⊥
    longer_t e = omega (arith, e)

    longer_f : length (codes "all") ≡ length (codes "f") → ⊥
    longer_f e = omega (arith, e)

item_word : IsWord (codes "controllable-AP")
item_word = (omega arith, refl, AllPass-from_list_all is_word_byte (codes "controllable-AP") refl)

item_values : (numbers : List ℕ) → AllByRecursion IsWritableNumber numbers → AllByRecursion IsWritableValue (map value.Number numbers)
item_values [] all = tt
item_values (number ∷ numbers) all = (all.0, item_values numbers all.1)

item_header : (count : ℕ) (controlled : List ℕ) → count ≤ most_propositions → AreBelow count controlled → IsWritableHeader (controllable_item controlled)
item_header count controlled few below = record {
  word = item_word;
  unknown = refl;
  values = item_values controlled
      (all-then (λ number. number < count) IsWritableNumber (λ number is. omega (arith, is, few)) controlled (recursion_from_All (λ number. number < count) controlled below));
}

-- ---- the automaton

no_marks : (a : Description) (marks : List ℕ) → marks ≡ [] → AreMarks a marks
no_marks a marks none =
    subst (AreMarks a) (sym none) (record { rising = λ k below. absurd (no (k + 1) below); below = λ k d below. absurd (no k below) })
  where
    no : (k : ℕ) → k < 0 → ⊥
    no k below = omega (arith, below)

module _ (states : ℕ) (starts propositions : List (List ℕ)) (controlled : List ℕ) (defined : List State) (is : IsMade states starts propositions controlled defined) where
  abbrev pub count : ℕ
  count = length propositions

  abbrev pub whole : Description
  whole = made states starts propositions controlled defined

  -- one state
  targets_are : (targets : List ℕ) → ListsOne states targets → AreTargets whole targets
  targets_are targets one =
      subst (AreTargets whole) (sym one.is)
      (record { listed = omega arith; below = All-cons (λ number. number < states) one.target [] one.below (All-nil (λ number. number < states)) })

  joined : (targets : List ℕ) → ListsOne states targets → AreJoined targets
  joined targets one = subst AreJoined (sym one.is) (record { listed = omega arith; fit = (omega (arith, one.below, is.few_states), tt) })

  -- labels
  label_is : (tree : LabelTree) → IsBounded count most_depth most_size tree → IsLabel whole tree
  label_is tree fits = record { below = fits.below; shallow = fits.shallow; small = fits.small }

  fine_is : (tree : LabelTree) → IsBounded count most_depth most_size tree → IsFine whole tree
  fine_is tree fits = record { label = label_is tree fits; shallow = fits.shallow_written }

  numbers_are : (tree : LabelTree) → IsBounded count most_depth most_size tree → NumbersFit tree
  numbers_are tree fits = numbers-fit count tree (omega (arith, is.few)) (recursion_from_All (λ number. number < count) _ fits.below)

  -- edges
  edge_is : (edge : Edge) → IsMadeEdge count states edge → IsEdge whole edge
  edge_is edge one = record {
    label = subst (λ (o : Option LabelTree). IfSome o (IsLabel whole)) (sym one.labelled) (label_is one.tree one.fits);
    targets = targets_are edge.targets one.leads;
    marks = no_marks whole edge.marks one.unmarked;
  }

  edge_fine : (edge : Edge) → IsMadeEdge count states edge → IfSome edge.label (IsFine whole)
  edge_fine edge one = subst (λ (o : Option LabelTree). IfSome o (IsFine whole)) (sym one.labelled) (fine_is one.tree one.fits)

  edge_writable : (edge : Edge) → IsMadeEdge count states edge → IsWritableEdge edge
  edge_writable edge one = record {
    label = subst (λ (o : Option LabelTree). IfSome o NumbersFit) (sym one.labelled) (numbers_are one.tree one.fits);
    targets = joined edge.targets one.leads;
    marks = subst (AllByRecursion IsWritableNumber) (sym one.unmarked) tt;
  }

  edge_labelled : (edge : Edge) → IsMadeEdge count states edge → has_label (edge_written edge) ≡ true
  edge_labelled edge one = ap (λ (o : Option LabelTree). is_some (option_map label_written o)) one.labelled

  -- states
  state_is : (state : State) → IsMadeState count states state → IsState whole state
  state_is state one = record {
    label = subst (λ (o : Option LabelTree). IfSome o (IsLabel whole)) (sym one.bare) tt;
    number = one.number;
    marks = no_marks whole state.marks one.unmarked;
    edges = All-from_recursion (IsEdge whole) state.edges (all-then (IsMadeEdge count states) (IsEdge whole) edge_is state.edges one.edges);
  }

  state_fine : (state : State) → IsMadeState count states state → IsFineState whole state
  state_fine state one = record {
    label = subst (λ (o : Option LabelTree). IfSome o (IsFine whole)) (sym one.bare) tt;
    edges = all-then (IsMadeEdge count states) (λ edge. IfSome edge.label (IsFine whole)) edge_fine state.edges one.edges;
  }

  state_writable : (state : State) → IsMadeState count states state → IsWritableState state
  state_writable state one = record {
    label = subst (λ (o : Option LabelTree). IfSome o NumbersFit) (sym one.bare) tt;
    number = omega (arith, one.number, is.few_states);
    name = one.name;
    marks = subst (AllByRecursion IsWritableNumber) (sym one.unmarked) tt;
    edges = all-then (IsMadeEdge count states) IsWritableEdge edge_writable state.edges one.edges;
  }

  -- no state mixes labels
  and_none : (x y z : Bool) → y ≡ false → z ≡ false → (x && (y || z)) ≡ false
  and_none false y z one other = refl
  and_none true y z one other = ap (λ (b : Bool). b || z) one ∙ other

  state_unmixed : (state : State) → IsMadeState count states state → is_mixed (state_written state) ≡ false
  state_unmixed state one =
      and_none (list_any has_label (map edge_written state.edges)) _ _
      (ap (λ (o : Option LabelTree). is_some (option_map label_written o)) one.bare)
      (none-pass (λ (edge : RawEdge). not (has_label edge)) edge_written (IsMadeEdge count states) (λ edge here. ap not (edge_labelled edge here)) state.edges one.edges)

  -- none is without labels and has edges
  none_counted : (a b c d : Bool) → (b ≡ true) → (not a && not b && c && d) ≡ false
  none_counted true true c d some = refl
  none_counted false true c d some = refl
  none_counted a false c d some = absurd (let no : false ≡ true = some in cc)

  no_edges : (a b d : Bool) → (not a && not b && false && d) ≡ false
  no_edges true true d = refl
  no_edges true false d = refl
  no_edges false true d = refl
  no_edges false false d = refl

  counted : (o : Option LabelTree) (edges : List Edge) → AllByRecursion (IsMadeEdge count states) edges
      → (not (is_some (option_map label_written o)) && not (list_any has_label (map edge_written edges)) && nat_lt 0 (length (map edge_written edges))
      && not (length (map edge_written edges) == 2 ^ count)) ≡ false
  counted o [] all = no_edges (is_some (option_map label_written o)) false (not (0 == 2 ^ count))
  counted o (edge ∷ edges) all =
      none_counted (is_some (option_map label_written o)) _ _ _
      (ap (λ (b : Bool). b || list_any has_label (map edge_written edges)) (edge_labelled edge all.0))

  has_form : HasForm whole
  has_form = record {
    small = refl;
    unmixed = none-pass is_mixed state_written (IsMadeState count states) state_unmixed defined is.states_are;
    counted = none-pass (is_miscounted count) state_written (IsMadeState count states) (λ state one. counted state.label state.edges one.edges) defined is.states_are;
  }

  is_automaton : sum_by total_size defined ≤ most_total_size → IsAutomaton whole
  is_automaton small = record {
    starts = All-from_recursion (AreTargets whole) starts (all-then (ListsOne states) (AreTargets whole) targets_are starts is.starts_are);
    few_propositions = is.few;
    unlike = is.unlike;
    sets = All-nil (λ number. number < 0);
    shallow = omega arith;
    states = All-from_recursion (IsState whole) defined (all-then (IsMadeState count states) (IsState whole) state_is defined is.states_are);
    once = is.once;
    small = small;
  }

  is_writable : IsWritableAutomaton whole
  is_writable = record {
    tool = tt;
    name = tt;
    states = is.few_states;
    starts = all-then (ListsOne states) AreJoined joined starts is.starts_are;
    count = omega (arith, is.few);
    propositions = is.quotable;
    acc_name = words_name;
    sets = omega arith;
    acceptance = tt;
    properties = tt;
    unknown = (item_header count controlled is.few is.controls, tt);
    defined = all-then (IsMadeState count states) IsWritableState state_writable defined is.states_are;
  }

  -- its text is read back
  pub made_read : Known → Meanings → AutomataFillSegments → length (canonical_automaton whole) ≤ most_text → IsAutomatonText (canonical_automaton whole) whole
  made_read known meanings fill short =
      let small : sum_by total_size defined ≤ most_total_size = omega (arith, text_long whole is_writable.defined, short) in
      let fine = all-then (IsMadeState count states) (IsFineState whole) state_fine defined is.states_are in
      written-read known fill whole is_writable (form-means meanings whole (is_automaton small) fine (omega arith) has_form) short
