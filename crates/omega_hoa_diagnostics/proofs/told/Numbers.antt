-- Where a state or a set is out of range, one is found.
use Rattle.std.proofs.Common.{◌≡◌, ℕ, Bool, true, false, ◌||◌, cond, nat_le, nat_lt, inl, inr, Option, Some, None, is_some, option_and_then, List, [], ◌∷◌, refl, sym, subst, arith}
use Rattle.std.specs.List.{AllByRecursion, list_all, list_any}
use Rattle.std.proofs.lemmas.Bool.{not-true, or_cases}
use Rattle.omega_hoa_acceptance.specs.Meaning.{acc_sets}
use Rattle.omega_hoa_syntax.specs.Grammar.{IsConj, IsRawEdge, IsRawItem, IsRawState}
use Rattle.omega_hoa_syntax.specs.declared.raw_automaton.RawAutomaton.{RawAutomaton}
use Rattle.omega_hoa_syntax.specs.declared.raw_edge.RawEdge.{RawEdge}
use Rattle.omega_hoa_syntax.specs.declared.raw_item.RawItem.{RawItem}
use Rattle.omega_hoa_syntax.specs.declared.raw_item.RawItem.TheVariants as item
use Rattle.omega_hoa_syntax.specs.declared.raw_state.RawState.{RawState}
use Rattle.omega_hoa_automaton.specs.Faults.{are_out_of_range, has_set_beyond, has_set_out_of_range, has_state_out_of_range, is_marked, is_out_of_range, passes, set_count, state_count}
use Rattle.omega_hoa_automaton.specs.Items.{Accepted, acceptance_in, start_in}
use Rattle.omega_hoa_diagnostics.specs.Finding.{first_beyond, first_found}
use Rattle.omega_hoa_diagnostics.specs.Sets.{first_set_beyond, formula_set_beyond, greatest_set, item_set_beyond, mark_beyond, state_set_beyond}
use Rattle.omega_hoa_diagnostics.specs.States.{first_state_beyond, start_beyond, state_beyond, target_beyond}
use Rattle.omega_hoa_diagnostics.specs.declared.sets.SetMention.TheVariants.{Acceptance, Mark}
use Rattle.omega_hoa_diagnostics.specs.declared.states.StateMention.TheVariants.{Edge, Number, Start}
use Rattle.omega_hoa_diagnostics.proofs.told.Found.{all_valid, find_some, found_some, map_some, or_left, or_right}

listed : (count : ℕ) (states : List ℕ) → IsConj states → are_out_of_range count states ≡ true → list_any (nat_le count) states ≡ true
listed count [] some beyond = absurd (omega (arith, some))
listed count (state ∷ states) some beyond = beyond

start_found : (count : ℕ) (it : RawItem) → IsRawItem it → passes (are_out_of_range count) (start_in it) ≡ true → is_some (start_beyond count it) ≡ true
start_found count (item.States n) valid some = absurd (cc)
start_found count (item.Start states) valid some = map_some (λ state. Start state) (first_beyond count states) (find_some (nat_le count) states (listed count states valid some))
start_found count (item.Propositions n names) valid some = absurd (cc)
start_found count (item.Alias name body) valid some = absurd (cc)
start_found count (item.Acceptance n tree) valid some = absurd (cc)
start_found count (item.AccName name) valid some = absurd (cc)
start_found count (item.Tool first second) valid some = absurd (cc)
start_found count (item.Name bytes) valid some = absurd (cc)
start_found count (item.Properties words) valid some = absurd (cc)
start_found count (item.Unknown name values) valid some = absurd (cc)

edge_found : (count source : ℕ) (edge : RawEdge) → IsRawEdge edge → are_out_of_range count edge.targets ≡ true → is_some (target_beyond count source edge) ≡ true
edge_found count source edge valid some =
    map_some (λ target. Edge source target) (first_beyond count edge.targets) (find_some (nat_le count) edge.targets (listed count edge.targets valid some))

state_found : (count : ℕ) (state : RawState) → IsRawState state → is_out_of_range count state ≡ true → is_some (state_beyond count state) ≡ true
state_found count state valid some =
    by_test (nat_le count state.number)
    (found_some IsRawEdge (λ (edge : RawEdge). are_out_of_range count edge.targets) (target_beyond count state.number) state.edges (edge_found count state.number) valid)
    some
  where
    by_test : (b : Bool)
        → (list_any (λ (edge : RawEdge). are_out_of_range count edge.targets) state.edges ≡ true → is_some (first_found (target_beyond count state.number) state.edges) ≡ true)
        → (b || list_any (λ (edge : RawEdge). are_out_of_range count edge.targets) state.edges) ≡ true
        → is_some (cond b (Some (Number state.number)) (first_found (target_beyond count state.number) state.edges)) ≡ true
    by_test true later h = refl
    by_test false later h = later h

-- a state that is out of range is found
pub state_is_found : (raw : RawAutomaton) → AllByRecursion IsRawItem raw.items → AllByRecursion IsRawState raw.states
    → has_state_out_of_range raw ≡ true → is_some (first_state_beyond raw) ≡ true
unfolding has_state_out_of_range
state_is_found raw items states some =
    let starts = first_found (start_beyond (state_count raw)) raw.items in
    let body = first_found (state_beyond (state_count raw)) raw.states in
    elim (or_cases (list_any (λ (it : RawItem). passes (are_out_of_range (state_count raw)) (start_in it)) raw.items) (list_any (is_out_of_range (state_count raw)) raw.states) some) [
      | inl started ↦ or_left starts body
          (found_some IsRawItem (λ (it : RawItem). passes (are_out_of_range (state_count raw)) (start_in it)) (start_beyond (state_count raw)) raw.items (start_found (state_count raw)) items started)
      | inr mentioned ↦ or_right starts body
          (found_some IsRawState (is_out_of_range (state_count raw)) (state_beyond (state_count raw)) raw.states (state_found (state_count raw)) states mentioned)
    ]

accepted_found : (count : ℕ) (accepted : Option Accepted) → passes (has_set_beyond count) accepted ≡ true
    → is_some (option_and_then (λ (it : Accepted). formula_set_beyond count it.formula) accepted) ≡ true
accepted_found count None some = absurd (cc)
accepted_found count (Some accepted) some =
    let P : Bool → Type 0 = λ b. is_some (cond b None (Some (Acceptance (greatest_set accepted.formula)))) ≡ true in
    subst P (sym (not-true (list_all (λ set. nat_lt set count) (acc_sets accepted.formula)) some)) refl

mark_found : (count state : ℕ) (marks : Option (List ℕ)) → passes (list_any (nat_le count)) marks ≡ true → is_some (mark_beyond count state marks) ≡ true
mark_found count state None some = absurd (cc)
mark_found count state (Some marks) some = map_some (λ set. Mark state set) (first_beyond count marks) (find_some (nat_le count) marks some)

marked_found : (count : ℕ) (state : RawState) → is_marked (nat_le count) state ≡ true → is_some (state_set_beyond count state) ≡ true
marked_found count state some =
    let own = mark_beyond count state.number state.marks in
    let edges = first_found (λ (edge : RawEdge). mark_beyond count state.number edge.marks) state.edges in
    elim (or_cases (passes (list_any (nat_le count)) state.marks) (list_any (λ (edge : RawEdge). passes (list_any (nat_le count)) edge.marks) state.edges) some) [
      | inl here ↦ or_left own edges (mark_found count state.number state.marks here)
      | inr later ↦ or_right own edges
          (found_some (λ (edge : RawEdge). Unit {0}) (λ (edge : RawEdge). passes (list_any (nat_le count)) edge.marks) (λ (edge : RawEdge). mark_beyond count state.number edge.marks)
          state.edges (λ edge valid marked. mark_found count state.number edge.marks marked) (all_valid state.edges) later)
    ]

-- a set that is out of range is found
pub set_is_found : (raw : RawAutomaton) → has_set_out_of_range raw ≡ true → is_some (first_set_beyond raw) ≡ true
unfolding has_set_out_of_range
set_is_found raw some =
    let header = first_found (item_set_beyond (set_count raw)) raw.items in
    let body = first_found (state_set_beyond (set_count raw)) raw.states in
    elim (or_cases (list_any (λ (it : RawItem). passes (has_set_beyond (set_count raw)) (acceptance_in it)) raw.items) (list_any (is_marked (nat_le (set_count raw))) raw.states) some) [
      | inl accepted ↦ or_left header body
          (found_some (λ (it : RawItem). Unit {0}) (λ (it : RawItem). passes (has_set_beyond (set_count raw)) (acceptance_in it)) (item_set_beyond (set_count raw)) raw.items
          (λ it valid beyond. accepted_found (set_count raw) (acceptance_in it) beyond) (all_valid raw.items) accepted)
      | inr marked ↦ or_right header body
          (found_some (λ (state : RawState). Unit {0}) (is_marked (nat_le (set_count raw))) (state_set_beyond (set_count raw)) raw.states
          (λ state valid beyond. marked_found (set_count raw) state beyond) (all_valid raw.states) marked)
    ]
