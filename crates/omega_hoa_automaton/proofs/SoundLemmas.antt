-- Labels and acceptances without a fault that applies.
use Rattle.std.proofs.Common.{◌≡◌, ℕ, ◌<◌, Bool, true, false, cond, not, ◌||◌, List, [], ◌∷◌, Option, Some, None, MatchOption, option_map, nat_lt, is_none, is_some, length, get_or, refl, ap, sym, ◌∙◌}
use Rattle.std.specs.List.{cons_option, filter_map, list_any, slice_get}
use Rattle.std.proofs.lemmas.Bool.{false≢true}
use Rattle.std.proofs.lemmas.List.Folds.{list_any_at}
use Rattle.omega_text.specs.declared.refusal.automaton.AutomatonFault.TheVariants.{AcceptanceAtom, Alias, Expansion, MissingAcceptance, TooDeep}
use Rattle.omega_hoa_acceptance.specs.Meaning.{acc_meant, fault_of_meant}
use Rattle.omega_hoa_acceptance.specs.Acceptance.{AccTree}
use Rattle.omega_hoa_label_text.specs.Expanding.{Defined, Meaning, expansion}
use Rattle.omega_hoa_label.specs.Label.{label_size}
use Rattle.omega_hoa_expression.specs.Limits.{most_depth, most_size}
use Rattle.omega_hoa_acceptance.specs.Raw.{raw_acc_depth}
use Rattle.omega_hoa_label.specs.Raw.{RawLabelTree}
use Rattle.omega_hoa_syntax.specs.declared.raw_automaton.RawAutomaton.{RawAutomaton}
use Rattle.omega_hoa_syntax.specs.declared.raw_edge.RawEdge.{RawEdge}
use Rattle.omega_hoa_syntax.specs.declared.raw_item.RawItem.{RawItem}
use Rattle.omega_hoa_syntax.specs.declared.raw_state.RawState.{RawState}
use Rattle.omega_hoa_automaton.specs.Faults.{applies, definitions_of, automaton_fault_of, has_deep_expression, has_large_expression, has_wrong_alias, has_wrong_atom, is_deep, is_labelled, is_large, lacks_acceptance, passes}
use Rattle.omega_hoa_automaton.specs.Items.{Accepted, acceptance_in, first_said}
use Rattle.omega_hoa_automaton.specs.private.layout.Draft.{IsSoundAcceptance}
use Rattle.omega_hoa_automaton.specs.private.layout.Findings.{is_faulty, labels_pass}
use Rattle.omega_hoa_automaton.proofs.FaultLemmas.{no_fault_passes}

-- the first of two tests that both fail
pub or_first : (a b : Bool) → (a || b) ≡ false → a ≡ false
or_first true b h = absurd (false≢true (sym h))
or_first false b h = refl

-- the second of two tests that both fail
pub or_second : (a b : Bool) → (a || b) ≡ false → b ≡ false
or_second true b h = absurd (false≢true (sym h))
or_second false b h = h

-- two tests that both fail
or_none : (a b : Bool) → a ≡ false → b ≡ false → (a || b) ≡ false
or_none true b one other = one
or_none false b one other = other

-- no item of a list passes a test that none passes: the one at a place
none-at : {X : Type 0} (test : X → Bool) (xs : List X) (i : ℕ) (x : X) → list_any test xs ≡ false → i < length xs → x ≡ get_or xs i x → test x ≡ false
none-at test xs i x none within is = by_test (test x) refl
  where
    by_test : (b : Bool) → test x ≡ b → b ≡ false
    by_test false e = refl
    by_test true e = absurd (false≢true (sym none ∙ list_any_at test xs i x within (ap test (sym is) ∙ e)))

-- the same at a turn of a loop over all items
pub none-turn : {X : Type 0} (test : X → Bool) (xs all : List X) (i : ℕ) (x : X) → all ≡ xs → list_any test xs ≡ false
    → (i < length all) × (x ≡ get_or all i x) → test x ≡ false
none-turn test xs all i x same none turn = none-at test all i x (ap (list_any test) same ∙ none) turn.0 turn.1

-- ---- three tests that fail, and a fourth that fails if they do

three-any : {X : Type 0} (a b c t : X → Bool) → ((x : X) → a x ≡ false → b x ≡ false → c x ≡ false → t x ≡ false) → (xs : List X)
    → list_any a xs ≡ false → list_any b xs ≡ false → list_any c xs ≡ false → list_any t xs ≡ false
three-any a b c t each [] one two three = refl
three-any a b c t each (x ∷ xs) one two three =
    or_none (t x) (list_any t xs)
    (each x (or_first (a x) (list_any a xs) one) (or_first (b x) (list_any b xs) two) (or_first (c x) (list_any c xs) three))
    (three-any a b c t each xs (or_second (a x) (list_any a xs) one) (or_second (b x) (list_any b xs) two) (or_second (c x) (list_any c xs) three))

three-passes : {X : Type 0} (a b c t : X → Bool) → ((x : X) → a x ≡ false → b x ≡ false → c x ≡ false → t x ≡ false) → (o : Option X)
    → passes a o ≡ false → passes b o ≡ false → passes c o ≡ false → passes t o ≡ false
three-passes a b c t each None one two three = refl
three-passes a b c t each (Some x) one two three = each x one two three

three-labelled : (a b c t : RawLabelTree → Bool) → ((x : RawLabelTree) → a x ≡ false → b x ≡ false → c x ≡ false → t x ≡ false) → (state : RawState)
    → is_labelled a state ≡ false → is_labelled b state ≡ false → is_labelled c state ≡ false → is_labelled t state ≡ false
three-labelled a b c t each state one two three =
    or_none (passes t state.label) (list_any (λ (edge : RawEdge). passes t edge.label) state.edges)
    (three-passes a b c t each state.label (or_first _ _ one) (or_first _ _ two) (or_first _ _ three))
    (three-any (λ (edge : RawEdge). passes a edge.label) (λ (edge : RawEdge). passes b edge.label) (λ (edge : RawEdge). passes c edge.label) (λ (edge : RawEdge). passes t edge.label)
    (λ edge. three-passes a b c t each edge.label) state.edges (or_second _ _ one) (or_second _ _ two) (or_second _ _ three))

-- a label that means something, not too deep and not too large has no fault
sound_meaning : (meaning : Option Meaning) → is_none meaning ≡ false → is_deep meaning ≡ false → is_large meaning ≡ false → is_faulty meaning ≡ false
sound_meaning None one two three = absurd (false≢true (sym one))
sound_meaning (Some known) one two three = by_tests (nat_lt most_depth known.depth) (nat_lt most_size (label_size known.tree)) two three
  where
    by_tests : (deep large : Bool) → deep ≡ false → large ≡ false → is_some (cond deep (Some TooDeep) (cond large (Some Expansion) None)) ≡ false
    by_tests true large h k = absurd (false≢true (sym h))
    by_tests false true h k = absurd (false≢true (sym k))
    by_tests false false h k = refl

-- if no label is undefined, too deep or too large, none has a fault
pub labels_sound : (definitions : List Defined) (states : List RawState)
    → labels_pass is_none definitions states ≡ false → labels_pass is_deep definitions states ≡ false → labels_pass is_large definitions states ≡ false
    → labels_pass is_faulty definitions states ≡ false
labels_sound definitions states one two three =
    three-any (is_labelled (λ label. is_none (expansion definitions label))) (is_labelled (λ label. is_deep (expansion definitions label)))
    (is_labelled (λ label. is_large (expansion definitions label))) (is_labelled (λ label. is_faulty (expansion definitions label)))
    (three-labelled (λ label. is_none (expansion definitions label)) (λ label. is_deep (expansion definitions label))
    (λ label. is_large (expansion definitions label)) (λ label. is_faulty (expansion definitions label))
    (λ label. sound_meaning (expansion definitions label)))
    states one two three

-- if a test fails another does, of the items of a list
two-any : {X : Type 0} (a t : X → Bool) → ((x : X) → a x ≡ false → t x ≡ false) → (xs : List X) → list_any a xs ≡ false → list_any t xs ≡ false
two-any a t each xs none = three-any a a a t (λ x one two three. each x one) xs none none none

-- a label without a fault means something, is not too deep and not too large
pub faultless_meaning : (meaning : Option Meaning) → is_faulty meaning ≡ false → (is_none meaning ≡ false) × (is_deep meaning ≡ false) × (is_large meaning ≡ false)
faultless_meaning None sound = absurd (false≢true (sym sound))
faultless_meaning (Some known) sound = by_tests (nat_lt most_depth known.depth) (nat_lt most_size (label_size known.tree)) sound
  where
    by_tests : (deep large : Bool) → is_some (cond deep (Some TooDeep) (cond large (Some Expansion) None)) ≡ false
        → (false ≡ false) × (deep ≡ false) × (large ≡ false)
    by_tests true large h = absurd (false≢true (sym h))
    by_tests false true h = absurd (false≢true (sym h))
    by_tests false false h = (refl, refl, refl)

-- if no label has a fault, none passes a test that only faulty ones do
pub labels_fail : (test : Option Meaning → Bool) → ((meaning : Option Meaning) → is_faulty meaning ≡ false → test meaning ≡ false)
    → (definitions : List Defined) (states : List RawState) → labels_pass is_faulty definitions states ≡ false → labels_pass test definitions states ≡ false
labels_fail test each definitions states none =
    two-any (is_labelled (λ label. is_faulty (expansion definitions label))) (is_labelled (λ label. test (expansion definitions label)))
    (λ state sound. three-labelled (λ label. is_faulty (expansion definitions label)) (λ label. is_faulty (expansion definitions label))
    (λ label. is_faulty (expansion definitions label)) (λ label. test (expansion definitions label))
    (λ label one two three. each (expansion definitions label) one) state sound sound sound)
    states none

-- if a label has a fault, and none is undefined or too deep, one is too large
pub label_large : (definitions : List Defined) (states : List RawState) → labels_pass is_faulty definitions states ≡ true
    → labels_pass is_none definitions states ≡ false → labels_pass is_deep definitions states ≡ false → labels_pass is_large definitions states ≡ true
label_large definitions states some one two = by_test (labels_pass is_large definitions states) (labels_sound definitions states one two)
  where
    by_test : (b : Bool) → (b ≡ false → labels_pass is_faulty definitions states ≡ false) → b ≡ true
    by_test true sound = refl
    by_test false sound = absurd (false≢true (sym (sound refl) ∙ some))

-- the labels of what has no fault
pub body_sound : (raw : RawAutomaton) → automaton_fault_of raw ≡ None → labels_pass is_faulty (definitions_of raw) raw.states ≡ false
unfolding has_wrong_alias has_deep_expression has_large_expression
body_sound raw none =
    labels_sound (definitions_of raw) raw.states
    (or_second _ _ (or_second _ _ (no_fault_passes (applies raw) Alias none)))
    (or_second _ _ (or_second _ _ (no_fault_passes (applies raw) TooDeep none)))
    (or_second _ _ (or_first _ _ (no_fault_passes (applies raw) Expansion none)))

-- ---- acceptances

-- the first of what may be there and others, if all fail a test
first_of : {X : Type 0} (test : X → Bool) (o : Option X) (rest : List X) (a b : Bool) → (is_some o || a) ≡ true → (passes test o || b) ≡ false
    → (a ≡ true → b ≡ false → MatchOption (slice_get rest 0) ⊥ (λ x. test x ≡ false))
    → MatchOption (slice_get (cons_option o rest) 0) ⊥ (λ x. test x ≡ false)
first_of test None rest a b one other later = later one other
first_of test (Some x) rest a b one other later = or_first (test x) b other

-- what the first item of a kind says fails a test that none passes
first_sound : {X : Type 0} (says : RawItem → Option X) (test : X → Bool) (items : List RawItem)
    → list_any (λ item. is_some (says item)) items ≡ true → list_any (λ item. passes test (says item)) items ≡ false
    → MatchOption (first_said says items) ⊥ (λ x. test x ≡ false)
first_sound says test [] there none = absurd (false≢true there)
first_sound says test (item ∷ items) there none =
    first_of test (says item) (filter_map says items) (list_any (λ item. is_some (says item)) items) (list_any (λ item. passes test (says item)) items)
    there none (first_sound says test items)

-- a formula that means something and is not too deep has no fault
sound_formula : (o : Option Accepted) → MatchOption o ⊥ (λ accepted. is_none (acc_meant accepted.formula) ≡ false)
    → MatchOption o ⊥ (λ accepted. nat_lt most_depth (raw_acc_depth accepted.formula) ≡ false)
    → IsSoundAcceptance (option_map (λ (accepted : Accepted). accepted.formula) o)
sound_formula None one other = one
sound_formula (Some accepted) one other = by_parts (acc_meant accepted.formula) (raw_acc_depth accepted.formula) one other
  where
    by_parts : (meant : Option AccTree) (depth : ℕ) → is_none meant ≡ false → nat_lt most_depth depth ≡ false → fault_of_meant meant depth ≡ None
    by_parts None depth h k = absurd (false≢true (sym h))
    by_parts (Some tree) depth h k = rw k refl

-- a test that does not fail
not_none : (b : Bool) → not b ≡ false → b ≡ true
not_none true h = refl
not_none false h = absurd (false≢true (sym h))

-- the acceptance of what has no fault
pub acceptance_sound : (raw : RawAutomaton) → automaton_fault_of raw ≡ None → IsSoundAcceptance (option_map (λ (accepted : Accepted). accepted.formula) (first_said acceptance_in raw.items))
unfolding lacks_acceptance has_wrong_atom has_deep_expression
acceptance_sound raw none =
    let there = not_none _ (no_fault_passes (applies raw) MissingAcceptance none) in
    sound_formula (first_said acceptance_in raw.items)
    (first_sound acceptance_in (λ accepted. is_none (acc_meant accepted.formula)) raw.items there (no_fault_passes (applies raw) AcceptanceAtom none))
    (first_sound acceptance_in (λ accepted. nat_lt most_depth (raw_acc_depth accepted.formula)) raw.items there (or_first _ _ (no_fault_passes (applies raw) TooDeep none)))
