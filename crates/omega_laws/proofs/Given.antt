-- What the states of an automaton keep that was read and does not branch: all that the text of a winner needs of them.
use Rattle.std.proofs.Common.{◌≡◌, ◌==◌, ℕ, ◌^◌, ◌<◌, ◌≤◌, inl, inr, Bool, true, false, not, ◌&&◌, ◌||◌, nat_lt, Option, Some, None, option_map, List, [], ◌∷◌, length, map, refl, sym, ap, ◌∙◌, arith, true≢false}
use Rattle.std.specs.Prelude.{IfSome, is_some}
use Rattle.std.specs.List.{AllByRecursion, list_any}
use Rattle.std.specs.Option.{option_or}
use Rattle.std.proofs.Math.Pow.{pow_mono}
use Rattle.std.proofs.lemmas.Bool.{cases_lt, eqb-true, lt-ltb, ltb-false, or_parts}
use Rattle.std.proofs.lemmas.List.{length-map}
use Rattle.std.proofs.lemmas.List.Elements.{All-head, recursion_from_All}
use Rattle.omega_text.specs.Limits.{most_text}
use Rattle.omega_text.specs.hoa.Forms.{IsQuotable}
use Rattle.omega_hoa_label.specs.Label.{LabelTree}
use Rattle.omega_hoa_label.specs.Writing.{label_written}
use Rattle.omega_hoa_syntax.specs.declared.raw_edge.RawEdge.{RawEdge}
use Rattle.omega_hoa_automaton.specs.Automaton.{AreTargets, Description, IsEdge, IsState}
use Rattle.omega_hoa_automaton.specs.Branching.{state_branches}
use Rattle.omega_hoa_automaton.specs.Faults.{has_label, is_miscounted, is_mixed}
use Rattle.omega_hoa_automaton.specs.declared.edge.Edge.{Edge}
use Rattle.omega_hoa_automaton.specs.declared.state.State.{State}
use Rattle.omega_hoa_round_trips.specs.Writable.{IsWritableState}
use Rattle.omega_hoa_round_trips.specs.Written.{edge_written, state_written}
use Rattle.omega_hoa_round_trips.proofs.meanings.Faultless.{IsFine, IsFineState}

-- the most propositions of an automaton in whose text an edge has the label of its valuation: it has one for each
abbrev pub most_implicit : ℕ
most_implicit = 24

-- a label is one of the automaton, and not too deep as it is written; or there is none, and there are few propositions
abbrev pub HasFineLabel : Description → Option LabelTree → Type 0
HasFineLabel a None = length a.propositions ≤ most_implicit
HasFineLabel a (Some label) = IsFine a label

-- one state that is listed
pub record ListsOne (states : ℕ) (targets : List ℕ) : Type 0 where
  pub target : ℕ
  pub is : targets ≡ target ∷ []
  pub below : target < states

-- an edge of a state
pub record IsGivenEdge (a : Description) (state : State) (edge : Edge) : Type 0 where
  pub label : HasFineLabel a (option_or state.label edge.label)
  pub leads : ListsOne a.states edge.targets

-- a state
pub record IsGivenState (a : Description) (state : State) : Type 0 where
  pub number : state.number < a.states
  pub name : IfSome state.name IsQuotable
  pub edges : AllByRecursion (IsGivenEdge a state) state.edges

-- ---- starts and edges that do not branch

module _ (a : Description) where
  targets_one : (targets : List ℕ) → AreTargets a targets → nat_lt 1 (length targets) ≡ false → ListsOne a.states targets
  targets_one [] are few = absurd (let none : 0 < 0 = are.listed in omega (arith, none))
  targets_one (target ∷ []) are few = record { target = target; is = refl; below = All-head (λ number. number < a.states) target [] are.below }
  targets_one (target ∷ other ∷ targets) are few = absurd (let least = ltb-false 1 (length (target ∷ other ∷ targets)) few in omega (arith, least))

  pub starts_one : (starts : List (List ℕ)) → AllByRecursion (AreTargets a) starts → list_any (λ start. nat_lt 1 (length start)) starts ≡ false → AllByRecursion (ListsOne a.states) starts
  starts_one [] all none = tt
  starts_one (start ∷ starts) all none =
      let parts = or_parts (nat_lt 1 (length start)) (list_any (λ (start : List ℕ). nat_lt 1 (length start)) starts) none in
      (targets_one start all.0 parts.0, starts_one starts all.1 parts.1)

  edges_one : (edges : List Edge) → AllByRecursion (IsEdge a) edges → list_any (λ edge. nat_lt 1 (length edge.targets)) edges ≡ false
      → AllByRecursion (λ edge. ListsOne a.states edge.targets) edges
  edges_one [] all none = tt
  edges_one (edge ∷ edges) all none =
      let parts = or_parts (nat_lt 1 (length edge.targets)) (list_any (λ (edge : Edge). nat_lt 1 (length edge.targets)) edges) none in
      (targets_one edge.targets all.0.targets parts.0, edges_one edges all.1 parts.1)

-- ---- edges without labels

abbrev lacks_label : RawEdge → Bool
lacks_label edge = not (has_label edge)

both_false : (x y : Bool) → (x && y) ≡ false → y ≡ true → x ≡ false
both_false false y none is = refl
both_false true true none is = none
both_false true false none is = sym is

all_counted : (b c d : Bool) → (not false && not b && c && not d) ≡ false → b ≡ false → c ≡ true → d ≡ true
all_counted b c true none one other = refl
all_counted true c false none one other = absurd (true≢false one)
all_counted false true false none one other = absurd (true≢false none)
all_counted false false false none one other = absurd (true≢false (sym other))

some_long : (edges : List Edge) → list_any lacks_label (map edge_written edges) ≡ true → 0 < length (map edge_written edges)
some_long [] some = absurd (true≢false (sym some))
some_long (edge ∷ edges) some = omega arith

-- a power of two that is no more than the bytes of a text
few_bits : (count : ℕ) → 2 ^ count ≤ most_text → count ≤ most_implicit
few_bits count small = elim (cases_lt most_implicit count) [
  | inl more ↦
      let power : 2 ^ 25 ≡ 33554432 = refl in
      let past : 25 ≤ count = omega (arith, more) in
      let least : 2 ^ 25 ≤ 2 ^ count = pow_mono past in
      absurd (omega (arith, power, least, small))
  | inr few ↦ few
]

module _ (a : Description) (state : State) where
  abbrev written : List RawEdge
  written = map edge_written state.edges

  -- a state without a label whose edges lack labels has an edge for each valuation
  few_propositions : state.label ≡ None → list_any lacks_label written ≡ true → is_mixed (state_written state) ≡ false
      → is_miscounted (length a.propositions) (state_written state) ≡ false → length state.edges ≤ most_text → length a.propositions ≤ most_implicit
  few_propositions bare some unmixed counted small =
      let either : (is_some (option_map label_written state.label) || list_any lacks_label written) ≡ true =
      ap (λ (o : Option LabelTree). is_some (option_map label_written o) || list_any lacks_label written) bare ∙ some in
      let none : list_any has_label written ≡ false = both_false (list_any has_label written) _ unmixed either in
      let chain : (not false && not (list_any has_label written) && nat_lt 0 (length written) && not (length written == 2 ^ length a.propositions)) ≡ false =
      ap (λ (o : Option LabelTree). not (is_some (option_map label_written o)) && not (list_any has_label written) && nat_lt 0 (length written)
      && not (length written == 2 ^ length a.propositions)) (sym bare)
      ∙ counted in
      let as_many : length written ≡ 2 ^ length a.propositions =
      eqb-true _ _ (all_counted (list_any has_label written) (nat_lt 0 (length written)) _ chain none (lt-ltb 0 (length written) (some_long state.edges some))) in
      few_bits (length a.propositions) (omega (arith, as_many, length-map state.edges edge_written, small))

  -- all edges have labels of their own
  own_labels : (edges : List Edge) → list_any lacks_label (map edge_written edges) ≡ false → AllByRecursion (λ edge. IfSome edge.label (IsFine a)) edges
      → AllByRecursion (λ edge. HasFineLabel a edge.label) edges
  own_labels [] none fine = tt
  own_labels (edge ∷ edges) none fine =
      let parts = or_parts (lacks_label (edge_written edge)) (list_any lacks_label (map edge_written edges)) none in
      (one edge.label parts.0 fine.0, own_labels edges parts.1 fine.1)
    where
      one : (o : Option LabelTree) → not (is_some (option_map label_written o)) ≡ false → IfSome o (IsFine a) → HasFineLabel a o
      one None has is = absurd (true≢false has)
      one (Some label) has is = is

  -- there are few propositions
  few_labels : length a.propositions ≤ most_implicit → (edges : List Edge) → AllByRecursion (λ edge. IfSome edge.label (IsFine a)) edges
      → AllByRecursion (λ edge. HasFineLabel a edge.label) edges
  few_labels few [] fine = tt
  few_labels few (edge ∷ edges) fine = (one edge.label fine.0, few_labels few edges fine.1)
    where
      one : (o : Option LabelTree) → IfSome o (IsFine a) → HasFineLabel a o
      one None is = few
      one (Some label) is = is

  -- the label of the state, or those of the edges
  state_labels : (o : Option LabelTree) → IfSome o (IsFine a) → (edges : List Edge) → (o ≡ None → AllByRecursion (λ edge. HasFineLabel a edge.label) edges)
      → AllByRecursion (λ edge. HasFineLabel a (option_or o edge.label)) edges
  state_labels None is edges own = own refl
  state_labels (Some label) is [] own = tt
  state_labels (Some label) is (edge ∷ edges) own = (is, state_labels (Some label) is edges (λ none. absurd (let no : ◌≡◌ {A = Option LabelTree} (Some label) None = none in cc)))

  edge_labels : IsFineState a state → is_mixed (state_written state) ≡ false → is_miscounted (length a.propositions) (state_written state) ≡ false
      → length state.edges ≤ most_text → AllByRecursion (λ edge. HasFineLabel a (option_or state.label edge.label)) state.edges
  edge_labels fine unmixed counted small = state_labels state.label fine.label state.edges (λ bare. own bare (list_any lacks_label written) refl)
    where
      own : state.label ≡ None → (b : Bool) → list_any lacks_label written ≡ b → AllByRecursion (λ edge. HasFineLabel a edge.label) state.edges
      own bare false none = own_labels state.edges none fine.edges
      own bare true some = few_labels (few_propositions bare some unmixed counted small) state.edges fine.edges

  given_edges : (edges : List Edge) → AllByRecursion (λ edge. HasFineLabel a (option_or state.label edge.label)) edges → AllByRecursion (λ edge. ListsOne a.states edge.targets) edges
      → AllByRecursion (IsGivenEdge a state) edges
  given_edges [] labels leads = tt
  given_edges (edge ∷ edges) labels leads = (record { label = labels.0; leads = leads.0 }, given_edges edges labels.1 leads.1)

-- all states
pub given_states : (a : Description) (states : List State) → AllByRecursion (IsFineState a) states → list_any is_mixed (map state_written states) ≡ false
    → list_any (is_miscounted (length a.propositions)) (map state_written states) ≡ false → AllByRecursion (λ state. length state.edges ≤ most_text) states
    → AllByRecursion IsWritableState states → AllByRecursion (IsState a) states → list_any state_branches states ≡ false → AllByRecursion (IsGivenState a) states
given_states a [] fine unmixed counted few writable all none = tt
given_states a (state ∷ states) fine unmixed counted few writable all none =
    let mixes = or_parts (is_mixed (state_written state)) (list_any is_mixed (map state_written states)) unmixed in
    let counts = or_parts (is_miscounted (length a.propositions) (state_written state)) (list_any (is_miscounted (length a.propositions)) (map state_written states)) counted in
    let plain = or_parts (state_branches state) (list_any state_branches states) none in (
      record {
        number = all.0.number;
        name = writable.0.name;
        edges = given_edges a state state.edges (edge_labels a state fine.0 mixes.0 counts.0 few.0)
            (edges_one a state.edges (recursion_from_All (IsEdge a) state.edges all.0.edges) plain.0);
      },
      given_states a states fine.1 mixes.1 counts.1 few.1 writable.1 all.1 plain.1,
    )
