-- What an automaton that is written means keeps what each automaton does.
use Rattle.std.proofs.Common.{◌≡◌, ◌≤◌, false, nat_eq, nat_le, length, map, sum_by, All, ap, sym, ◌∙◌, subst}
use Rattle.std.specs.List.{filter_map}
use Rattle.std.specs.Str.{bytes_eq}
use Rattle.std.proofs.lemmas.Bool.{ltb-false}
use Rattle.omega_text.specs.declared.refusal.automaton.AutomatonFault.TheVariants.{Expansion, Proposition, SetRange, StateRange, StateTwice, TooDeep}
use Rattle.omega_hoa_syntax.specs.declared.raw_automaton.RawAutomaton.{RawAutomaton}
use Rattle.omega_hoa_automaton.specs.Automaton.{AreBelow, AreTargets, Description, IsAutomaton, IsState, has_repeat, sets_of}
use Rattle.omega_hoa_automaton.specs.Faults.{applies, definitions_of, has_large_expression, has_set_out_of_range, has_state_out_of_range, has_state_twice, has_wrong_proposition, are_out_of_range, is_beyond, is_labelled, is_marked, label_total, is_out_of_range, names_of, proposition_count, set_count, state_count}
use Rattle.omega_hoa_automaton.specs.Items.{alias_in, start_in}
use Rattle.omega_hoa_automaton.specs.Limits.{most_propositions, most_total_size}
use Rattle.omega_hoa_automaton.specs.Meaning.{IsStateOf, Means}
use Rattle.omega_hoa_automaton.proofs.FaultLemmas.{no_fault_passes}
use Rattle.omega_hoa_automaton.proofs.validity.Acceptance.{IsAcceptance, acceptance_well}
use Rattle.omega_hoa_automaton.proofs.validity.Propositions.{AreNames, names_well}
use Rattle.omega_hoa_automaton.proofs.validity.Sizes.{numbers_same, totals_same}
use Rattle.omega_hoa_automaton.proofs.validity.States.{AreWithin, IsStateWell, state_well, targets_well}
use Rattle.omega_hoa_automaton.proofs.validity.Tests.{all_fail, neither, said_all, zip_all}

-- 24: the states of starts are not out of range
starts_well : (raw : RawAutomaton) → has_state_out_of_range raw ≡ false → All (λ states. are_out_of_range (state_count raw) states ≡ false) (filter_map start_in raw.items)
unfolding has_state_out_of_range
starts_well raw h =
    said_all start_in (are_out_of_range (state_count raw)) (λ states. are_out_of_range (state_count raw) states ≡ false) (λ states fails. fails) raw.items (neither _ _ h).0

-- 24: nor are states of the body
states_well : (raw : RawAutomaton) → has_state_out_of_range raw ≡ false → All (λ state. is_out_of_range (state_count raw) state ≡ false) raw.states
unfolding has_state_out_of_range
states_well raw h = all_fail (is_out_of_range (state_count raw)) raw.states (neither _ _ h).1

-- 25: no mark is beyond the count
marks_well : (raw : RawAutomaton) → has_set_out_of_range raw ≡ false → All (λ state. is_marked (nat_le (set_count raw)) state ≡ false) raw.states
unfolding has_set_out_of_range
marks_well raw h = all_fail (is_marked (nat_le (set_count raw))) raw.states (neither _ _ h).1

-- 26: no alias mentions a proposition beyond the count
aliases_well : (raw : RawAutomaton) → has_wrong_proposition raw ≡ false → AreWithin (proposition_count raw) (definitions_of raw)
unfolding has_wrong_proposition
aliases_well raw h =
    said_all alias_in (λ defined. is_beyond (proposition_count raw) defined.body) (λ defined. is_beyond (proposition_count raw) defined.body ≡ false)
    (λ defined fails. fails) raw.items (neither _ _ (neither _ _ h).0).1

-- 26: nor does a label
labels_well : (raw : RawAutomaton) → has_wrong_proposition raw ≡ false → All (λ state. is_labelled (is_beyond (proposition_count raw)) state ≡ false) raw.states
unfolding has_wrong_proposition
labels_well raw h = all_fail (is_labelled (is_beyond (proposition_count raw))) raw.states (neither _ _ h).1

-- 28: no two states have one number
numbers_well : (raw : RawAutomaton) → has_state_twice raw ≡ false → has_repeat nat_eq (map (λ state. state.number) raw.states) ≡ false
unfolding has_state_twice
numbers_well raw h = h

-- 33: all labels together are small
total_well : (raw : RawAutomaton) → has_large_expression raw ≡ false → sum_by (label_total (definitions_of raw)) raw.states ≤ most_total_size
unfolding has_large_expression
total_well raw h = ltb-false most_total_size (sum_by (label_total (definitions_of raw)) raw.states) (neither _ _ h).1

-- what an automaton that is written means keeps what each automaton does
pub means_is_automaton : (raw : RawAutomaton) (a : Description) → Means raw a → IsAutomaton a
means_is_automaton raw a means =
    let range = no_fault_passes (applies raw) StateRange means.faultless in
    let sets = no_fault_passes (applies raw) SetRange means.faultless in
    let proposition = no_fault_passes (applies raw) Proposition means.faultless in
    let names : AreNames (proposition_count raw) (names_of raw) = names_well raw proposition in
    let acceptance : IsAcceptance (set_count raw) a.acceptance =
    acceptance_well raw a.acceptance sets (no_fault_passes (applies raw) TooDeep means.faultless) means.acceptance in
    let count : proposition_count raw ≡ length a.propositions = names.counted ∙ ap length (sym means.propositions) in
    let bodies : AreWithin (length a.propositions) (definitions_of raw) = subst (λ n. AreWithin n (definitions_of raw)) count (aliases_well raw proposition) in
    let states = subst (λ n. All (λ state. is_out_of_range n state ≡ false) raw.states) (sym means.states) (states_well raw range) in
    let marks = subst (λ n. All (λ state. is_marked (nat_le n) state ≡ false) raw.states) (sym means.sets) (marks_well raw sets) in
    let labels = subst (λ n. All (λ state. is_labelled (is_beyond n) state ≡ false) raw.states) count (labels_well raw proposition) in
    let starts = subst (λ n. All (λ states. are_out_of_range n states ≡ false) (filter_map start_in raw.items)) (sym means.states) (starts_well raw range) in
    record {
      starts = subst (All (AreTargets a)) (sym means.starts) (λ k d within. targets_well a _ (starts k d within));
      few_propositions = subst (λ names. length names ≤ most_propositions) (sym means.propositions) names.few;
      unlike = ap (has_repeat bytes_eq) means.propositions ∙ names.unlike;
      sets = subst (λ n. AreBelow n (sets_of a.acceptance)) (sym means.sets) acceptance.sets;
      shallow = acceptance.shallow;
      states = zip_all (IsStateWell a) (IsStateOf (definitions_of raw)) (IsState a) (state_well a (definitions_of raw) bodies) raw.states a.defined
          (λ k d within. record { states = states k d within; sets = marks k d within; labels = labels k d within }) means.defined;
      once = ap (has_repeat nat_eq) (numbers_same (definitions_of raw) raw.states a.defined means.defined)
          ∙ numbers_well raw (no_fault_passes (applies raw) StateTwice means.faultless);
      small = subst (λ n. n ≤ most_total_size) (sym (totals_same (definitions_of raw) raw.states a.defined means.defined))
          (total_well raw (no_fault_passes (applies raw) Expansion means.faultless));
    }
