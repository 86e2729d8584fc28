-- The automaton that a canonical text writes has no fault: it is an automaton, and has the form that texts give one.
use Rattle.std.proofs.Common.{◌≡◌, ℕ, ◌+◌, ◌<◌, ◌≤◌, Bool, true, false, cond, not, ◌&&◌, ◌||◌, ◌==◌, nat_eq, nat_le, nat_lt, Option, Some, None, option_map, List, [], ◌∷◌, length, map, ap, refl, ◌∙◌, arith}
use Rattle.std.specs.Prelude.{IfSome, find, is_none, slice_get, sum_by, unwrap_or}
use Rattle.std.specs.List.{AllByRecursion, filter_map, list_all, list_any}
use Rattle.std.specs.Str.{bytes_eq}
use Rattle.std.proofs.lemmas.Bool.{le-ltb, lt-leb, or_from}
use Rattle.std.proofs.lemmas.List.Elements.{recursion_from_All}
use Rattle.omega_hoa_acceptance.specs.Meaning.{acc_meant}
use Rattle.omega_hoa_label_text.specs.Expanding.{Defined, Meaning, entries_of, expansion}
use Rattle.omega_hoa_label.specs.Label.{LabelTree, label_size, propositions}
use Rattle.omega_hoa_expression.specs.Limits.{most_depth, most_size}
use Rattle.omega_hoa_acceptance.specs.Raw.{raw_acc_depth}
use Rattle.omega_hoa_label.specs.Raw.{RawLabelTree, raw_depth}
use Rattle.omega_hoa_label.specs.Writing.{label_written}
use Rattle.omega_hoa_acceptance.specs.Writing.{acc_written}
use Rattle.omega_acc.specs.WritingLaws.{WrittenFormulasMean, WrittenLabelsMean}
use Rattle.omega_hoa_acceptance.specs.declared.name.AccName.{AccName}
use Rattle.omega_hoa_syntax.specs.declared.raw_edge.RawEdge.{RawEdge}
use Rattle.omega_hoa_syntax.specs.declared.raw_state.RawState.{RawState}
use Rattle.omega_hoa_automaton.specs.Automaton.{Description, IsAutomaton, has_repeat, sets_of, size_of, total_size}
use Rattle.omega_hoa_automaton.specs.Automaton as automaton
use Rattle.omega_hoa_automaton.specs.Faults.{applies, begins_capital, definitions_of, automaton_fault_of, faults, has_deep_expression, has_large_expression, has_mixed_labels, has_other_version, has_repeated_item, has_set_beyond, has_set_out_of_range, has_state_out_of_range, has_state_twice, has_unknown_capital, has_wrong_alias, has_wrong_atom, has_wrong_edge_count, has_wrong_proposition, are_out_of_range, is_beyond, is_deep, is_labelled, is_large, is_marked, is_miscounted, is_misnamed, label_total, lacks_acceptance, is_out_of_range, mentioned_count, passes, proposition_count, set_count, size_of_meaning, size_under, some_meaning, state_count}
use Rattle.omega_hoa_automaton.specs.Items.{Accepted, acc_name_in, acceptance_in, alias_in, name_in, propositions_in, start_in, states_in, tool_in, unknown_in}
use Rattle.omega_hoa_automaton.specs.Limits.{most_propositions, most_total_size}
use Rattle.omega_hoa_automaton.specs.declared.edge.Edge.{Edge}
use Rattle.omega_hoa_automaton.specs.declared.state.State.{State}
use Rattle.omega_hoa_automaton.specs.declared.tool.Tool.{Tool}
use Rattle.omega_hoa_round_trips.specs.Written.{acc_name_item, edge_written, items_written, marks_written, name_item, state_written, tool_item, written_automaton}
use Rattle.omega_hoa_round_trips.proofs.meanings.Expressions.{propositions-written, sets-written}
use Rattle.omega_hoa_round_trips.proofs.meanings.Form.{HasForm}
use Rattle.omega_hoa_round_trips.proofs.meanings.Said.{acc_name-said, acceptance-said, aliases-said, name-said, propositions-said, starts-said, states-said, tool-said, unknown-said}
use Rattle.omega_hoa_round_trips.proofs.meanings.Tests.{all-under, any-passes, any-some, none-beyond, none-pass, not-twice, sum-made}

-- a label of an automaton that is not too deep as it is written
pub record IsFine (a : Description) (tree : LabelTree) : Type 0 where
  pub label : automaton.IsLabel a tree
  pub shallow : raw_depth (label_written tree) ≤ most_depth

-- a state whose labels are
pub record IsFineState (a : Description) (state : State) : Type 0 where
  pub label : IfSome state.label (IsFine a)
  pub edges : AllByRecursion (λ edge. IfSome edge.label (IsFine a)) state.edges

-- nothing is found if nothing passes
none-found : {X : Type 0} (test : X → Bool) (items : List X) → AllByRecursion (λ it. test it ≡ false) items → find test items ≡ None
none-found test [] all = refl
none-found test (it ∷ items) all = ap (λ passes. cond passes (Some it) (find test items)) all.0 ∙ none-found test items all.1

-- ---- what does not pass

label-fails : (a : Description) (test : RawLabelTree → Bool) → ((tree : LabelTree) → IsFine a tree → test (label_written tree) ≡ false)
    → (it : Option LabelTree) → IfSome it (IsFine a) → passes test (option_map label_written it) ≡ false
label-fails a test fails None is = refl
label-fails a test fails (Some tree) is = fails tree is

marks-pass : (test : ℕ → Bool) (marks : List ℕ) → passes (list_any test) (marks_written marks) ≡ list_any test marks
marks-pass test [] = refl
marks-pass test (first ∷ others) = refl

marks-fail : (count : ℕ) (marks : List ℕ) → automaton.AreBelow count marks → passes (list_any (nat_le count)) (marks_written marks) ≡ false
marks-fail count marks below =
    marks-pass (nat_le count) marks ∙ none-beyond count marks (recursion_from_All (λ mark. mark < count) marks below)

tool-once : (it : Option Tool) → length (filter_map tool_in (tool_item it)) ≤ 1
tool-once None = omega arith
tool-once (Some tool) = omega arith

name-once : (it : Option (List ℕ)) → length (filter_map name_in (name_item it)) ≤ 1
name-once None = omega arith
name-once (Some bytes) = omega arith

acc_name-once : (it : Option AccName) → length (filter_map acc_name_in (acc_name_item it)) ≤ 1
acc_name-once None = omega arith
acc_name-once (Some name) = omega arith

and-right : (one other : Bool) → other ≡ false → (one && other) ≡ false
and-right false other fails = refl
and-right true other fails = fails

self-equal : (n : ℕ) → (n == n) ≡ true
self-equal n = grind arith

numbers-same : (states : List State) → map (λ (state : RawState). state.number) (map state_written states) ≡ map (λ (state : State). state.number) states
numbers-same [] = refl
numbers-same (state ∷ states) = ap (λ numbers. state.number ∷ numbers) (numbers-same states)

-- ---- each fault

module _ (label_means : WrittenLabelsMean) (formula_means : WrittenFormulasMean) (a : Description) (is : IsAutomaton a) (fine : AllByRecursion (IsFineState a) a.defined)
    (shallow : raw_acc_depth (acc_written a.acceptance) ≤ most_depth) (form : HasForm a) where
  -- labels

  state-fails : (test : RawLabelTree → Bool) → ((tree : LabelTree) → IsFine a tree → test (label_written tree) ≡ false)
      → (state : State) → IsFineState a state → is_labelled test (state_written state) ≡ false
  state-fails test each state are =
      or_from _ _ (label-fails a test each state.label are.label)
      (none-pass (λ edge. passes test edge.label) edge_written (λ edge. IfSome edge.label (IsFine a)) (λ edge here. label-fails a test each edge.label here) state.edges are.edges)

  labels-fail : (test : RawLabelTree → Bool) → ((tree : LabelTree) → IsFine a tree → test (label_written tree) ≡ false)
      → list_any (is_labelled test) (map state_written a.defined) ≡ false
  labels-fail test each = none-pass (is_labelled test) state_written (IsFineState a) (state-fails test each) a.defined fine

  meanings-fail : (test : Option Meaning → Bool) → ((tree : LabelTree) → IsFine a tree → test (Some (record { tree = tree; depth = raw_depth (label_written tree) })) ≡ false)
      → some_meaning test (written_automaton a) ≡ false
  meanings-fail test each =
      ap (λ known. list_any (λ entry. test entry.meaning) (entries_of [] known) || list_any (is_labelled (λ label. test (expansion known label))) (map state_written a.defined)) (aliases-said a)
      ∙ labels-fail (λ label. test (expansion [] label)) (λ tree here. ap test (label_means [] tree).means ∙ each tree here)

  -- 20
  same-version : has_other_version (written_automaton a) ≡ false
  unfolding has_other_version
  same-version = refl

  -- 21
  unrepeated : has_repeated_item (written_automaton a) ≡ false
  unfolding has_repeated_item
  unrepeated =
      let counts = ap length (states-said a) in
      let names = ap length (propositions-said a) in
      let formulas = ap length (acceptance-said a) in
      let kinds = ap length (acc_name-said a) in
      let tools = ap length (tool-said a) in
      let titles = ap length (name-said a) in
      let kind = acc_name-once a.acc_name in
      let tool = tool-once a.tool in
      let title = name-once a.name in
      or_from _ _ (or_from _ _ (or_from _ _ (or_from _ _ (or_from _ _
      (not-twice states_in (items_written a) (omega (arith, counts)))
      (not-twice propositions_in (items_written a) (omega (arith, names))))
      (not-twice acceptance_in (items_written a) (omega (arith, formulas))))
      (not-twice acc_name_in (items_written a) (omega (arith, kinds, kind))))
      (not-twice tool_in (items_written a) (omega (arith, tools, tool))))
      (not-twice name_in (items_written a) (omega (arith, titles, title)))

  -- 22
  accepted : lacks_acceptance (written_automaton a) ≡ false
  unfolding lacks_acceptance
  accepted = ap not (any-some acceptance_in (items_written a) ∙ ap (list_any (λ (it : Accepted). true)) (acceptance-said a))

  -- 23
  small : has_unknown_capital (written_automaton a) ≡ false
  unfolding has_unknown_capital
  small =
      any-passes unknown_in (λ header. begins_capital header.name) (items_written a)
      ∙ (ap (list_any (λ header. begins_capital header.name)) (unknown-said a) ∙ form.small)

  -- 24
  count-written : state_count (written_automaton a) ≡ a.states
  count-written = ap (λ said. unwrap_or (slice_get said 0) (mentioned_count (written_automaton a))) (states-said a)

  targets-range : (targets : List ℕ) → automaton.AreTargets a targets → are_out_of_range a.states targets ≡ false
  targets-range [] are = absurd (let none : 0 < 0 = are.listed in omega (arith, none))
  targets-range (state ∷ states) are = none-beyond a.states (state ∷ states) (recursion_from_All (λ number. number < a.states) (state ∷ states) are.below)

  starts-range : (starts : List (List ℕ)) → AllByRecursion (automaton.AreTargets a) starts → list_any (are_out_of_range a.states) starts ≡ false
  starts-range [] all = refl
  starts-range (start ∷ starts) all = or_from _ _ (targets-range start all.0) (starts-range starts all.1)

  state-range : (state : State) → automaton.IsState a state → is_out_of_range a.states (state_written state) ≡ false
  state-range state here =
      or_from _ _ (lt-leb a.states state.number here.number)
      (none-pass (λ (edge : RawEdge). are_out_of_range a.states edge.targets) edge_written (automaton.IsEdge a)
      (λ edge one. targets-range edge.targets one.targets) state.edges (recursion_from_All (automaton.IsEdge a) state.edges here.edges))

  states-in-range : has_state_out_of_range (written_automaton a) ≡ false
  unfolding has_state_out_of_range
  states-in-range =
      ap (λ count. list_any (λ item. passes (are_out_of_range count) (start_in item)) (items_written a) || list_any (is_out_of_range count) (map state_written a.defined)) count-written
      ∙ or_from _ _
      (any-passes start_in (are_out_of_range a.states) (items_written a)
      ∙ (ap (list_any (are_out_of_range a.states)) (starts-said a) ∙ starts-range a.starts (recursion_from_All (automaton.AreTargets a) a.starts is.starts)))
      (none-pass (is_out_of_range a.states) state_written (automaton.IsState a) state-range a.defined (recursion_from_All (automaton.IsState a) a.defined is.states))

  -- 25
  sets-written-count : set_count (written_automaton a) ≡ a.sets
  sets-written-count = ap (λ said. unwrap_or (option_map (λ accepted. accepted.count) (slice_get said 0)) 0) (acceptance-said a)

  formula-range : has_set_beyond a.sets (record { count = a.sets; formula = acc_written a.acceptance }) ≡ false
  formula-range =
      ap not (ap (list_all (λ set. nat_lt set a.sets)) (sets-written a.acceptance)
      ∙ all-under a.sets (sets_of a.acceptance) (recursion_from_All (λ set. set < a.sets) (sets_of a.acceptance) is.sets))

  state-marks : (state : State) → automaton.IsState a state → is_marked (nat_le a.sets) (state_written state) ≡ false
  state-marks state here =
      or_from _ _ (marks-fail a.sets state.marks here.marks.below)
      (none-pass (λ (edge : RawEdge). passes (list_any (nat_le a.sets)) edge.marks) edge_written (automaton.IsEdge a)
      (λ edge one. marks-fail a.sets edge.marks one.marks.below) state.edges (recursion_from_All (automaton.IsEdge a) state.edges here.edges))

  sets-in-range : has_set_out_of_range (written_automaton a) ≡ false
  unfolding has_set_out_of_range
  sets-in-range =
      ap (λ count. list_any (λ item. passes (has_set_beyond count) (acceptance_in item)) (items_written a) || list_any (is_marked (nat_le count)) (map state_written a.defined)) sets-written-count
      ∙ or_from _ _
      (any-passes acceptance_in (has_set_beyond a.sets) (items_written a) ∙ (ap (list_any (has_set_beyond a.sets)) (acceptance-said a) ∙ or_from _ _ formula-range refl))
      (none-pass (is_marked (nat_le a.sets)) state_written (automaton.IsState a) state-marks a.defined (recursion_from_All (automaton.IsState a) a.defined is.states))

  -- 26
  names-count : proposition_count (written_automaton a) ≡ length a.propositions
  names-count = ap (λ said. unwrap_or (option_map (λ named. named.count) (slice_get said 0)) 0) (propositions-said a)

  named-well : is_misnamed (record { count = length a.propositions; names = a.propositions }) ≡ false
  named-well =
      or_from _ _ (or_from _ _ (ap not (self-equal (length a.propositions))) (le-ltb most_propositions (length a.propositions) is.few_propositions)) is.unlike

  label-range : (tree : LabelTree) → IsFine a tree → is_beyond (length a.propositions) (label_written tree) ≡ false
  label-range tree here =
      ap not (ap (list_all (λ number. nat_lt number (length a.propositions))) (propositions-written tree)
      ∙ all-under (length a.propositions) (propositions tree) (recursion_from_All (λ number. number < length a.propositions) (propositions tree) here.label.below))

  propositions-in-range : has_wrong_proposition (written_automaton a) ≡ false
  unfolding has_wrong_proposition
  propositions-in-range =
      ap (λ count. list_any (λ item. passes is_misnamed (propositions_in item)) (items_written a)
      || list_any (λ item. passes (λ defined. is_beyond count defined.body) (alias_in item)) (items_written a)
      || list_any (is_labelled (is_beyond count)) (map state_written a.defined)) names-count
      ∙ or_from _ _ (or_from _ _
      (any-passes propositions_in is_misnamed (items_written a) ∙ (ap (list_any is_misnamed) (propositions-said a) ∙ or_from _ _ named-well refl))
      (any-passes alias_in (λ defined. is_beyond (length a.propositions) defined.body) (items_written a)
      ∙ ap (list_any (λ (defined : Defined). is_beyond (length a.propositions) defined.body)) (aliases-said a)))
      (labels-fail (is_beyond (length a.propositions)) label-range)

  -- 27
  aliases-known : has_wrong_alias (written_automaton a) ≡ false
  unfolding has_wrong_alias
  aliases-known =
      or_from _ _ (ap (λ known. has_repeat bytes_eq (map (λ (defined : Defined). defined.name) known)) (aliases-said a)) (meanings-fail is_none (λ tree here. refl))

  -- 28
  states-once : has_state_twice (written_automaton a) ≡ false
  unfolding has_state_twice
  states-once = ap (has_repeat nat_eq) (numbers-same a.defined) ∙ is.once

  -- 29
  labels-unmixed : has_mixed_labels (written_automaton a) ≡ false
  unfolding has_mixed_labels
  labels-unmixed = form.unmixed

  -- 30
  edges-counted : has_wrong_edge_count (written_automaton a) ≡ false
  unfolding has_wrong_edge_count
  edges-counted = ap (λ count. list_any (is_miscounted count) (map state_written a.defined)) names-count ∙ form.counted

  -- 31
  atoms-known : has_wrong_atom (written_automaton a) ≡ false
  unfolding has_wrong_atom
  atoms-known =
      any-passes acceptance_in (λ accepted. is_none (acc_meant accepted.formula)) (items_written a)
      ∙ (ap (list_any (λ accepted. is_none (acc_meant accepted.formula))) (acceptance-said a) ∙ or_from _ _ (ap is_none (formula_means a.acceptance).means) refl)

  -- 32
  none-deep : has_deep_expression (written_automaton a) ≡ false
  unfolding has_deep_expression
  none-deep =
      or_from _ _
      (any-passes acceptance_in (λ accepted. nat_lt most_depth (raw_acc_depth accepted.formula)) (items_written a)
      ∙ (ap (list_any (λ accepted. nat_lt most_depth (raw_acc_depth accepted.formula))) (acceptance-said a)
      ∙ or_from _ _ (le-ltb most_depth (raw_acc_depth (acc_written a.acceptance)) shallow) refl))
      (meanings-fail is_deep (λ tree here. le-ltb most_depth (raw_depth (label_written tree)) here.shallow))

  -- 33
  size-same : (it : Option LabelTree) → size_under [] (option_map label_written it) ≡ size_of it
  size-same None = refl
  size-same (Some tree) = ap size_of_meaning (label_means [] tree).means

  total-same : (state : State) → label_total [] (state_written state) ≡ total_size state
  total-same state =
      ap (λ size. size + sum_by (λ edge. size_under [] edge.label) (map edge_written state.edges)) (size-same state.label)
      ∙ ap (λ sizes. size_of state.label + sizes)
      (sum-made (λ (edge : RawEdge). size_under [] edge.label) (λ (edge : Edge). size_of edge.label) edge_written (λ edge. size-same edge.label) state.edges)

  total-small : nat_lt most_total_size (sum_by (label_total (definitions_of (written_automaton a))) (map state_written a.defined)) ≡ false
  total-small =
      ap (λ known. nat_lt most_total_size (sum_by (label_total known) (map state_written a.defined))) (aliases-said a)
      ∙ (ap (nat_lt most_total_size) (sum-made (label_total []) total_size state_written total-same a.defined)
      ∙ le-ltb most_total_size (sum_by total_size a.defined) is.small)

  none-large : has_large_expression (written_automaton a) ≡ false
  unfolding has_large_expression
  none-large =
      or_from _ _ (meanings-fail is_large (λ tree here. le-ltb most_size (label_size tree) here.label.small)) total-small

  -- no fault
  pub faultless : automaton_fault_of (written_automaton a) ≡ None
  faultless =
      none-found (applies (written_automaton a)) faults (
        same-version,
        (
          unrepeated,
          (
            accepted,
            (
              small,
              (
                states-in-range,
                (
                  sets-in-range,
                  (
                    propositions-in-range,
                    (
                      aliases-known,
                      (
                        states-once,
                        (labels-unmixed, (edges-counted, (atoms-known, (none-deep, (none-large, tt))))),
                      ),
                    ),
                  ),
                ),
              ),
            ),
          ),
        ),
      )
