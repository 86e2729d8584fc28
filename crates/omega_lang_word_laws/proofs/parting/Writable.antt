-- A written complement has no other fault than `TooDeep` and `Expansion`: fault by fault.
use Rattle.std.proofs.Common.{◌≡◌, ◌==◌, ℕ, zero, suc, ◌+◌, ◌<◌, ◌≤◌, ◌^◌, ◌⊎◌, inl, inr, Bool, true, false, not, ◌&&◌, ◌||◌, nat_eq, nat_le, nat_lt, List, [], ◌∷◌, ◌++◌, length, map, slice_get, Option, Some, option_map, unwrap_or, is_none, is_some, refl, sym, ap, ap₂, subst, ◌∙◌, arith, eqb-true, eq-eqb, true≢false}
use Rattle.std.specs.Prelude.{codes, slice_index_or}
use Rattle.std.specs.List.{AllZip, filter_map, list_any, range_with_len}
use Rattle.std.specs.Str.{bytes_eq}
use Rattle.std.proofs.lemmas.List.{append-nil, map-append}
use Rattle.omega_text.specs.declared.refusal.automaton.AutomatonFault.{AutomatonFault}
use Rattle.omega_text.specs.declared.refusal.automaton.AutomatonFault.TheVariants.{AcceptanceAtom, Alias, Expansion, ImplicitCount, MissingAcceptance, MixedLabels, Proposition, RepeatedHeader, SetRange, StateRange, StateTwice, TooDeep, UnknownHeader, Version}
use Rattle.omega_hoa_acceptance.specs.Acceptance.{AccTree}
use Rattle.omega_hoa_acceptance.specs.Acceptance as acc
use Rattle.omega_hoa_label.specs.Writing.{label_text}
use Rattle.omega_hoa_acceptance.specs.Writing.{acc_text}
use Rattle.omega_hoa_label.specs.Writing.{grouped, label_written}
use Rattle.omega_hoa_acceptance.specs.Writing.{acc_grouped, acc_written}
use Rattle.omega_hoa_acceptance.specs.Meaning.{acc_meant, acc_sets}
use Rattle.omega_hoa_acceptance.specs.Raw.{RawAccTree}
use Rattle.omega_hoa_label_text.specs.Expanding.{Defined, Entry, entries_of, expansion}
use Rattle.omega_hoa_label.specs.Label.{LabelTree, propositions}
use Rattle.omega_hoa_label.specs.Label as label
use Rattle.omega_hoa_label.specs.Raw.{RawLabelTree, raw_propositions}
use Rattle.omega_hoa_automaton.specs.Automaton.{Description, IsAutomaton, has_repeat, sets_of}
use Rattle.omega_hoa_automaton.specs.Faults.{applies, are_out_of_range, begins_capital, definitions_of, has_label, has_mixed_labels, has_other_version, has_repeated_item, has_set_beyond, has_set_out_of_range, has_state_out_of_range, has_state_twice, has_unknown_capital, has_wrong_alias, has_wrong_atom, has_wrong_edge_count, has_wrong_proposition, is_beyond, is_labelled, is_marked, is_miscounted, is_misnamed, is_mixed, is_out_of_range, lacks_acceptance, mentioned_count, passes, proposition_count, set_count, stands_twice, state_count}
use Rattle.omega_hoa_automaton.specs.Items.{Accepted, Named, acc_name_in, acceptance_in, alias_in, first_said, name_in, propositions_in, start_in, states_in, tool_in, unknown_in}
use Rattle.omega_hoa_automaton.specs.declared.header.Header.{Header}
use Rattle.omega_hoa_automaton.proofs.FaultLemmas.{fault_is_least}
use Rattle.omega_hoa_syntax.specs.declared.raw_automaton.RawAutomaton.{RawAutomaton}
use Rattle.omega_hoa_syntax.specs.declared.raw_edge.RawEdge.{RawEdge}
use Rattle.omega_hoa_syntax.specs.declared.raw_item.RawItem.{RawItem}
use Rattle.omega_hoa_syntax.specs.declared.raw_state.RawState.{RawState}
use Rattle.omega_hoa_edges.specs.Determinism.{IsDeterministic}
use Rattle.omega_hoa_acceptance.specs.Dual.{dual}
use Rattle.omega_hoa_edges.specs.AutomatonLabels.{state_at}
use Rattle.omega_lang_complement.specs.Written.{IsTurned, IsWrittenComplement, complement_acceptance, header, one_if, sinks}
use Rattle.omega_hoa_edges.proofs.StateNumbers.{state_number}
use Rattle.omega_lang_complement.proofs.Turned.{range_push}
use Rattle.omega_acc.proofs.written.Formulas.{acc-means-itself}
use Rattle.omega_acc.proofs.written.Labels.{means-itself}
use Rattle.omega_lang_word_laws.proofs.parting.Meant.{range_at}
use Rattle.omega_lang_word_laws.proofs.parting.Parts.{IsWhole, any_none, are_below, below_pass, joined_below, le_false, lt_true, states_whole}
use Rattle.omega_lang_word_laws.proofs.parting.Plain.{Beginning, IsGood, beginning}
use Rattle.omega_lang_word_laws.specs.Complements.{ComplementsAreWritable}

not_both : (b c : Bool) → b ≡ false → (b || c) ≡ c
not_both true c e = absurd (true≢false e)
not_both false c e = refl

neither : (b c : Bool) → b ≡ false → c ≡ false → (b || c) ≡ false
neither b c e f = not_both b c e ∙ f

and_left : (b c : Bool) → b ≡ false → (b && c) ≡ false
and_left true c e = absurd (true≢false e)
and_left false c e = refl

-- parentheses hide nothing
grouped_over : (within : Bool) (raw : RawLabelTree) → raw_propositions (grouped within raw) ≡ raw_propositions raw
grouped_over true raw = refl
grouped_over false raw = refl

written_over : (tree : LabelTree) → raw_propositions (label_written tree) ≡ propositions tree
written_over (label.constant value) = refl
written_over (label.proposition number) = refl
written_over (label.negation part) = grouped_over (nat_lt (label_text part).rank 3) (label_written part) ∙ written_over part
written_over (label.conjunction left right) =
    ap₂ (λ (x y : List ℕ). x ++ y) (grouped_over (nat_lt (label_text left).rank 2) (label_written left) ∙ written_over left)
    (grouped_over (nat_le (label_text right).rank 2) (label_written right) ∙ written_over right)
written_over (label.disjunction left right) =
    ap₂ (λ (x y : List ℕ). x ++ y) (grouped_over (nat_lt (label_text left).rank 1) (label_written left) ∙ written_over left)
    (grouped_over (nat_le (label_text right).rank 1) (label_written right) ∙ written_over right)

grouped_sets : (within : Bool) (raw : RawAccTree) → acc_sets (acc_grouped within raw) ≡ acc_sets raw
grouped_sets true raw = refl
grouped_sets false raw = refl

written_sets : (tree : AccTree) → acc_sets (acc_written tree) ≡ sets_of tree
written_sets (acc.constant value) = refl
written_sets (acc.inf negated set) = refl
written_sets (acc.fin negated set) = refl
written_sets (acc.conjunction left right) =
    ap₂ (λ (x y : List ℕ). x ++ y) (grouped_sets (nat_lt (acc_text left).rank 2) (acc_written left) ∙ written_sets left)
    (grouped_sets (nat_le (acc_text right).rank 2) (acc_written right) ∙ written_sets right)
written_sets (acc.disjunction left right) =
    ap₂ (λ (x y : List ℕ). x ++ y) (grouped_sets (nat_lt (acc_text left).rank 1) (acc_written left) ∙ written_sets left)
    (grouped_sets (nat_le (acc_text right).rank 1) (acc_written right) ∙ written_sets right)

dual_sets : (tree : AccTree) → sets_of (dual tree) ≡ sets_of tree
dual_sets (acc.constant value) = refl
dual_sets (acc.inf negated set) = refl
dual_sets (acc.fin negated set) = refl
dual_sets (acc.conjunction left right) = ap₂ (λ (x y : List ℕ). x ++ y) (dual_sets left) (dual_sets right)
dual_sets (acc.disjunction left right) = ap₂ (λ (x y : List ℕ). x ++ y) (dual_sets left) (dual_sets right)

below_more : (count : ℕ) (numbers : List ℕ) → are_below count numbers ≡ true → are_below (count + 1) numbers ≡ true
below_more count [] all = refl
below_more count (x ∷ xs) all = go (nat_lt x count) refl (below_more count xs) all
  where
    one : nat_lt x count ≡ true → nat_lt x (count + 1) ≡ true
    one e = grind arith

    both : (b c : Bool) → b ≡ true → c ≡ true → (b && c) ≡ true
    both true c e f = f
    both false c e f = e

    go : (b : Bool) → nat_lt x count ≡ b → (are_below count xs ≡ true → are_below (count + 1) xs ≡ true) → (b && are_below count xs) ≡ true → are_below (count + 1) (x ∷ xs) ≡ true
    go true is rest e = both (nat_lt x (count + 1)) (are_below (count + 1) xs) (one is) (rest e)
    go false is rest e = absurd (true≢false (sym e))

numbers_apart : (first count : ℕ) → has_repeat nat_eq (range_with_len first count) ≡ false
numbers_apart first zero = refl
numbers_apart first (suc count) =
    neither (list_any (λ later. nat_eq later first) (range_with_len (first + 1) count)) (has_repeat nat_eq (range_with_len (first + 1) count))
    (any_none (λ later. nat_eq later first) (range_with_len (first + 1) count) (λ k m e. other m k (range_at (first + 1) count k m e).0))
    (numbers_apart (first + 1) count)
  where
    other : (m k : ℕ) → m ≡ (first + 1) + k → nat_eq m first ≡ false
    other m k e = unlike (nat_eq m first) refl
      where
        unlike : (b : Bool) → nat_eq m first ≡ b → b ≡ false
        unlike true same = let is : m ≡ first = eqb-true m first same in absurd (omega (arith, is, e))
        unlike false same = refl

and_right : (b c : Bool) → c ≡ false → (b && c) ≡ false
and_right true c e = e
and_right false c e = refl

lt_false : (m n : ℕ) → n ≤ m → nat_lt m n ≡ false
lt_false m n past = grind arith

good_below : (a : Description) (b : Bool) (s : ℕ) → IsGood a b s → s < a.states + one_if b
good_below a true s (inl less) = omega (arith, less)
good_below a true s (inr at) = omega (arith, at.0)
good_below a false s (inl less) = omega (arith, less)
good_below a false s (inr at) = absurd (true≢false (sym at.1))

zip_numbers : (a : Description) (ns : List ℕ) (rs : List RawState) → AllZip (λ number. IsTurned (length a.propositions) a.states (state_at a number)) ns rs
    → map (λ (r : RawState). r.number) rs ≡ ns
zip_numbers a [] [] all = refl
zip_numbers a [] (r ∷ rs) all = absurd all
zip_numbers a (n ∷ ns) [] all = absurd all
zip_numbers a (n ∷ ns) (r ∷ rs) all = ap₂ (λ (m : ℕ) (ms : List ℕ). m ∷ ms) (all.0.number ∙ state_number a.defined n) (zip_numbers a ns rs all.1)

-- a state whose edges all have labels is not miscounted
miscounted : (count : ℕ) (r : RawState) → ((k : ℕ) (edge : RawEdge) → slice_get r.edges k ≡ Some edge → has_label edge ≡ true) → is_miscounted count r ≡ false
miscounted count r all = go r.edges all
  where
    go : (edges : List RawEdge) → ((k : ℕ) (edge : RawEdge) → slice_get edges k ≡ Some edge → has_label edge ≡ true)
        → (not (is_some r.label) && not (list_any has_label edges) && nat_lt 0 (length edges) && not (length edges == 2 ^ count)) ≡ false
    go [] labelled =
        and_left (not (is_some r.label) && not (list_any has_label []) && nat_lt 0 0) (not (0 == 2 ^ count))
        (and_right (not (is_some r.label) && not (list_any has_label [])) (nat_lt 0 0) refl)
    go (edge ∷ edges) labelled =
        and_left (not (is_some r.label) && not (list_any has_label (edge ∷ edges)) && nat_lt 0 (length (edge ∷ edges))) (not (length (edge ∷ edges) == 2 ^ count))
        (and_left (not (is_some r.label) && not (list_any has_label (edge ∷ edges))) (nat_lt 0 (length (edge ∷ edges)))
        (and_right (not (is_some r.label)) (not (list_any has_label (edge ∷ edges))) (ap (λ v. not (v || list_any has_label edges)) (labelled 0 edge refl))))

module _ (a : Description) (is_a : IsAutomaton a) (deterministic : IsDeterministic a) (raw : RawAutomaton) (written : IsWrittenComplement a raw) where
  items_are : {X : Type 0} (f : List RawItem → X) → f raw.items ≡ f (header a written.sink)
  items_are f = ap f written.items

  whole : (k : ℕ) (r : RawState) → slice_get raw.states k ≡ Some r → IsWhole (length a.propositions) (a.states + one_if written.sink) (a.sets + one_if written.sink) r
  whole k r e = states_whole a is_a deterministic raw written written.sink refl k r e

  no_definitions : definitions_of raw ≡ []
  no_definitions = items_are (λ items. filter_map alias_in items)

  states_counted : state_count raw ≡ a.states + one_if written.sink
  states_counted = ap (λ (items : List RawItem). unwrap_or (first_said states_in items) (mentioned_count raw)) written.items

  sets_counted : set_count raw ≡ a.sets + one_if written.sink
  sets_counted = ap (λ (items : List RawItem). unwrap_or (option_map (λ (accepted : Accepted). accepted.count) (first_said acceptance_in items)) 0) written.items

  propositions_counted : proposition_count raw ≡ length a.propositions
  propositions_counted = ap (λ (items : List RawItem). unwrap_or (option_map (λ (named : Named). named.count) (first_said propositions_in items)) 0) written.items

  version_right : has_other_version raw ≡ false
  unfolding has_other_version
  version_right = ap (λ (v : List ℕ). not (bytes_eq v (codes "v1"))) written.version

  none_repeated : has_repeated_item raw ≡ false
  unfolding has_repeated_item
  none_repeated =
      items_are (λ items. stands_twice states_in items || stands_twice propositions_in items || stands_twice acceptance_in items || stands_twice acc_name_in items || stands_twice tool_in items || stands_twice name_in items)

  has_acceptance : lacks_acceptance raw ≡ false
  unfolding lacks_acceptance
  has_acceptance = items_are (λ items. not (list_any (λ item. is_some (acceptance_in item)) items))

  no_capital : has_unknown_capital raw ≡ false
  unfolding has_unknown_capital
  no_capital = items_are (λ items. list_any (λ item. passes (λ (header : Header). begins_capital header.name) (unknown_in item)) items)

  start : Beginning a is_a deterministic written.sink
  start = beginning a is_a deterministic written.sink written.needed

  -- a test of labels that none over the propositions passes
  labels_right : (test : RawLabelTree → Bool) → ((tree : LabelTree) → are_below (length a.propositions) (propositions tree) ≡ true → test (label_written tree) ≡ false)
      → list_any (is_labelled test) raw.states ≡ false
  labels_right test none =
      any_none (is_labelled test) raw.states
      (λ k r e.
      neither (passes test r.label) (list_any (λ edge. passes test edge.label) r.edges) (ap (λ (o : Option RawLabelTree). passes test o) (whole k r e).label)
      (any_none (λ edge. passes test edge.label) r.edges
      (λ j edge f.
      let part = (whole k r e).edges j edge f in
      ap (λ (o : Option RawLabelTree). passes test o) part.label ∙ none part.tree part.over)))

  in_range : (states : ℕ) → states ≡ a.states + one_if written.sink
      → (list_any (λ item. passes (are_out_of_range states) (start_in item)) raw.items || list_any (is_out_of_range states) raw.states) ≡ false
  in_range states is =
      neither (list_any (λ item. passes (are_out_of_range states) (start_in item)) raw.items) (list_any (is_out_of_range states) raw.states)
      (items_are (λ items. list_any (λ item. passes (are_out_of_range states) (start_in item)) items)
      ∙ neither (are_out_of_range states (slice_index_or a.starts 0 (a.states ∷ []))) false
      (ap (are_out_of_range states) start.begins ∙ neither (nat_le states start.state) false (le_false states start.state (subst (λ n. start.state < n) (sym is) (good_below a written.sink start.state start.good))) refl)
      refl)
      (any_none (is_out_of_range states) raw.states
      (λ k r e.
      neither (nat_le states r.number) (list_any (λ edge. are_out_of_range states edge.targets) r.edges)
      (le_false states r.number (subst (λ n. r.number < n) (sym is) (whole k r e).within))
      (any_none (λ edge. are_out_of_range states edge.targets) r.edges
      (λ j edge f.
      let part = (whole k r e).edges j edge f in
      ap (are_out_of_range states) part.targets
      ∙ neither (nat_le states part.target) false (le_false states part.target (subst (λ n. part.target < n) (sym is) part.within)) refl))))

  states_in_range : has_state_out_of_range raw ≡ false
  unfolding has_state_out_of_range
  states_in_range = in_range (state_count raw) states_counted

  dual_within : are_below a.sets (sets_of (dual a.acceptance)) ≡ true
  dual_within = ap (are_below a.sets) (dual_sets a.acceptance) ∙ below_pass a.sets (sets_of a.acceptance) is_a.sets

  formula_within : (b : Bool) → are_below (a.sets + one_if b) (sets_of (complement_acceptance a b)) ≡ true
  formula_within false = let plain : a.sets ≡ a.sets + 0 = omega arith in subst (λ n. are_below n (sets_of (dual a.acceptance)) ≡ true) plain dual_within
  formula_within true =
      joined_below (a.sets + 1) (sets_of (dual a.acceptance)) (a.sets ∷ []) (below_more a.sets (sets_of (dual a.acceptance)) dual_within)
      (ap (λ v. v && true) (lt_true a.sets (a.sets + 1) (omega arith)))

  sets_within : (b : Bool) → are_below (a.sets + one_if b) (acc_sets (acc_written (complement_acceptance a b))) ≡ true
  sets_within b = ap (are_below (a.sets + one_if b)) (written_sets (complement_acceptance a b)) ∙ formula_within b

  sets_right : (sets : ℕ) → sets ≡ a.sets + one_if written.sink
      → (list_any (λ item. passes (has_set_beyond sets) (acceptance_in item)) raw.items || list_any (is_marked (nat_le sets)) raw.states) ≡ false
  sets_right sets is =
      neither (list_any (λ item. passes (has_set_beyond sets) (acceptance_in item)) raw.items) (list_any (is_marked (nat_le sets)) raw.states)
      (items_are (λ items. list_any (λ item. passes (has_set_beyond sets) (acceptance_in item)) items)
      ∙ neither (not (are_below sets (acc_sets (acc_written (complement_acceptance a written.sink))))) false
      (ap not (ap (λ n. are_below n (acc_sets (acc_written (complement_acceptance a written.sink)))) is ∙ sets_within written.sink)) refl)
      (any_none (is_marked (nat_le sets)) raw.states
      (λ k r e.
      neither (passes (list_any (nat_le sets)) r.marks) (list_any (λ edge. passes (list_any (nat_le sets)) edge.marks) r.edges)
      (ap (λ (o : Option (List ℕ)). passes (list_any (nat_le sets)) o) (whole k r e).marks)
      (any_none (λ edge. passes (list_any (nat_le sets)) edge.marks) r.edges
      (λ j edge f. ap (λ n. passes (list_any (nat_le n)) edge.marks) is ∙ ((whole k r e).edges j edge f).unmarked))))

  sets_in_range : has_set_out_of_range raw ≡ false
  unfolding has_set_out_of_range
  sets_in_range = sets_right (set_count raw) sets_counted

  named_right : is_misnamed (record { count = length a.propositions; names = a.propositions }) ≡ false
  named_right =
      neither (not (length a.propositions == length a.propositions) || nat_lt 1024 (length a.propositions)) (has_repeat bytes_eq a.propositions)
      (neither (not (length a.propositions == length a.propositions)) (nat_lt 1024 (length a.propositions)) (ap not (eq-eqb (length a.propositions) (length a.propositions) refl))
      (lt_false 1024 (length a.propositions) is_a.few_propositions))
      is_a.unlike

  propositions_right : (count : ℕ) → count ≡ length a.propositions
      → (list_any (λ item. passes is_misnamed (propositions_in item)) raw.items
      || list_any (λ item. passes (λ (defined : Defined). is_beyond count defined.body) (alias_in item)) raw.items
      || list_any (is_labelled (is_beyond count)) raw.states) ≡ false
  propositions_right count is =
      neither (list_any (λ item. passes is_misnamed (propositions_in item)) raw.items || list_any (λ item. passes (λ (defined : Defined). is_beyond count defined.body) (alias_in item)) raw.items)
      (list_any (is_labelled (is_beyond count)) raw.states)
      (neither (list_any (λ item. passes is_misnamed (propositions_in item)) raw.items) (list_any (λ item. passes (λ (defined : Defined). is_beyond count defined.body) (alias_in item)) raw.items)
      (items_are (λ items. list_any (λ item. passes is_misnamed (propositions_in item)) items)
      ∙ neither (is_misnamed (record { count = length a.propositions; names = a.propositions })) false named_right refl)
      (items_are (λ items. list_any (λ item. passes (λ (defined : Defined). is_beyond count defined.body) (alias_in item)) items)))
      (labels_right (is_beyond count)
      (λ tree over. ap not (ap (λ n. are_below n (raw_propositions (label_written tree))) is ∙ ap (are_below (length a.propositions)) (written_over tree) ∙ over)))

  propositions_named : has_wrong_proposition raw ≡ false
  unfolding has_wrong_proposition
  propositions_named = propositions_right (proposition_count raw) propositions_counted

  aliases_right : (ds : List Defined) → ds ≡ []
      → (has_repeat bytes_eq (map (λ (defined : Defined). defined.name) ds)
      || (list_any (λ (entry : Entry). is_none entry.meaning) (entries_of [] ds) || list_any (is_labelled (λ label. is_none (expansion ds label))) raw.states)) ≡ false
  aliases_right ds none =
      subst (λ (ds : List Defined). (has_repeat bytes_eq (map (λ (defined : Defined). defined.name) ds)
      || (list_any (λ (entry : Entry). is_none entry.meaning) (entries_of [] ds) || list_any (is_labelled (λ label. is_none (expansion ds label))) raw.states)) ≡ false) (sym none)
      (labels_right (λ label. is_none (expansion [] label)) (λ tree over. ap is_none (means-itself [] tree).means))

  no_alias : has_wrong_alias raw ≡ false
  unfolding has_wrong_alias
  no_alias = aliases_right (definitions_of raw) no_definitions

  numbers_are : map (λ (r : RawState). r.number) raw.states ≡ range_with_len 0 (a.states + one_if written.sink)
  numbers_are =
      ap (map (λ (r : RawState). r.number)) written.body ∙ map-append (λ (r : RawState). r.number) written.turned (sinks a written.sink)
      ∙ ap (λ (ns : List ℕ). ns ++ map (λ (r : RawState). r.number) (sinks a written.sink)) (zip_numbers a (range_with_len 0 a.states) written.turned written.states)
      ∙ last written.sink
    where
      plain : a.states ≡ a.states + 0
      plain = omega arith

      more : suc a.states ≡ a.states + 1
      more = omega arith

      zero_plus : a.states ≡ 0 + a.states
      zero_plus = omega arith

      last : (b : Bool) → range_with_len 0 a.states ++ map (λ (r : RawState). r.number) (sinks a b) ≡ range_with_len 0 (a.states + one_if b)
      last false = append-nil (range_with_len 0 a.states) ∙ ap (range_with_len 0) plain
      last true = ap (λ n. range_with_len 0 a.states ++ n ∷ []) zero_plus ∙ sym (range_push 0 a.states) ∙ ap (range_with_len 0) more

  states_once : has_state_twice raw ≡ false
  unfolding has_state_twice
  states_once = ap (has_repeat nat_eq) numbers_are ∙ numbers_apart 0 (a.states + one_if written.sink)

  not_mixed : has_mixed_labels raw ≡ false
  unfolding has_mixed_labels
  not_mixed =
      any_none is_mixed raw.states
      (λ k r e.
      and_right (list_any has_label r.edges) (is_some r.label || list_any (λ edge. not (has_label edge)) r.edges)
      (neither (is_some r.label) (list_any (λ edge. not (has_label edge)) r.edges) (ap is_some (whole k r e).label)
      (any_none (λ edge. not (has_label edge)) r.edges (λ j edge f. ap (λ (o : Option RawLabelTree). not (is_some o)) ((whole k r e).edges j edge f).label))))

  counted_right : (count : ℕ) → list_any (is_miscounted count) raw.states ≡ false
  counted_right count =
      any_none (is_miscounted count) raw.states (λ k r e. miscounted count r (λ j edge f. ap is_some ((whole k r e).edges j edge f).label))

  edges_counted : has_wrong_edge_count raw ≡ false
  unfolding has_wrong_edge_count
  edges_counted = counted_right (proposition_count raw)

  atoms_right : has_wrong_atom raw ≡ false
  unfolding has_wrong_atom
  atoms_right =
      items_are (λ items. list_any (λ item. passes (λ (accepted : Accepted). is_none (acc_meant accepted.formula)) (acceptance_in item)) items)
      ∙ neither (is_none (acc_meant (acc_written (complement_acceptance a written.sink)))) false (ap is_none (acc-means-itself (complement_acceptance a written.sink)).means) refl

  fault_is : (fault : AutomatonFault) → applies raw fault ≡ true → (fault ≡ TooDeep) ⊎ (fault ≡ Expansion)
  fault_is Version e = absurd (true≢false (sym e ∙ version_right))
  fault_is RepeatedHeader e = absurd (true≢false (sym e ∙ none_repeated))
  fault_is MissingAcceptance e = absurd (true≢false (sym e ∙ has_acceptance))
  fault_is UnknownHeader e = absurd (true≢false (sym e ∙ no_capital))
  fault_is StateRange e = absurd (true≢false (sym e ∙ states_in_range))
  fault_is SetRange e = absurd (true≢false (sym e ∙ sets_in_range))
  fault_is Proposition e = absurd (true≢false (sym e ∙ propositions_named))
  fault_is Alias e = absurd (true≢false (sym e ∙ no_alias))
  fault_is StateTwice e = absurd (true≢false (sym e ∙ states_once))
  fault_is MixedLabels e = absurd (true≢false (sym e ∙ not_mixed))
  fault_is ImplicitCount e = absurd (true≢false (sym e ∙ edges_counted))
  fault_is AcceptanceAtom e = absurd (true≢false (sym e ∙ atoms_right))
  fault_is TooDeep e = inl refl
  fault_is Expansion e = inr refl

pub complements_writable : ComplementsAreWritable
complements_writable a raw fault is_a deterministic written found =
    fault_is a is_a deterministic raw written fault (fault_is_least (applies raw) fault found).0
