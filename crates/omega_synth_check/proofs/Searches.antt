-- A search that has visited the states so far.
use Rattle.std.proofs.Common.{◌≡◌, ℕ, zero, suc, ◌+◌, ◌<◌, ◌≤◌, inl, inr, true, List, [], ◌∷◌, length, nat_eq, Contains, Option, sym, ◌∙◌, subst, arith}
use Rattle.std.specs.Cmp.{nat_eq_equiv}
use Rattle.std.specs.List.{list_any}
use Rattle.std.proofs.lemmas.Bool.{cases_eq, eq-eqb, eqb-true, false≢true, or_cases, or_left, or_right}
use Rattle.std.proofs.lemmas.List.{get_or_default}
use Rattle.std.proofs.lemmas.Map.Made.{length-le_from_is_member}
use Rattle.omega_text.specs.declared.refusal.task.TaskFault.TheVariants.{TooLarge}
use Rattle.omega_hoa_automaton.specs.Automaton.{Description}
use Rattle.omega_hoa_edges.specs.Limits.{most_states}
use Rattle.omega_synth_check.specs.Judging.{IsReached}
use Rattle.omega_synth_check.specs.Refusing.{HasManyStates, IsLetterFault, many_states}
use Rattle.omega_synth_check.specs.declared.meeting.StateEntry.{StateEntry}
use Rattle.omega_synth_check.specs.private.Meeting.{AreMet, Extends, HasNext, HasStarts, state_at}
use Rattle.omega_synth_check.specs.Lacks.{AreReachedSettled, IsSettled}
use Rattle.omega_synth_check.proofs.MetStates.{has_kept, state_kept}
use Rattle.omega_synth_check.proofs.Reached.{all_reached, reached_met}

-- the starts are met still
pub starts_kept : (a : Description) (states more : List ℕ) → Extends states more → HasStarts a states → HasStarts a more
starts_kept a states more extends starts start begins = has_kept states more start extends (starts start begins)

-- what the states so far lead to is met, with one state more
pub next_more : (a : Description) (states more : List ℕ) (at : ℕ) → Extends states more → at < length states
    → ((place : ℕ) → place < at → HasNext a (state_at states place) states) → HasNext a (state_at states at) more
    → (place : ℕ) → place < at + 1 → HasNext a (state_at more place) more
next_more a states more at extends below before here place low =
    elim (cases_eq place at) [
      | inl same ↦ subst (λ (s : ℕ). HasNext a s more) (sym (state_kept states more place extends (omega (arith, same, below))))
          (subst (λ (p : ℕ). HasNext a (state_at states p) more) (sym same) here)
      | inr apart ↦
          let earlier : place < at = omega (arith, low, apart) in
          subst (λ (s : ℕ). HasNext a s more) (sym (state_kept states more place extends (omega (arith, earlier, below))))
          (λ number next step. has_kept states more next extends (before place earlier number next step))
    ]

-- and what holds of them holds still
pub settled_more : (P : ℕ → Type 0) (states more : List ℕ) (at : ℕ) → Extends states more → at < length states
    → ((place : ℕ) → place < at → P (state_at states place)) → P (state_at states at)
    → (place : ℕ) → place < at + 1 → P (state_at more place)
settled_more P states more at extends below before here place low =
    elim (cases_eq place at) [
      | inl same ↦ subst P (sym (state_kept states more place extends (omega (arith, same, below))))
          (subst (λ (p : ℕ). P (state_at states p)) (sym same) here)
      | inr apart ↦
          let earlier : place < at = omega (arith, low, apart) in
          subst P (sym (state_kept states more place extends (omega (arith, earlier, below)))) (before place earlier)
    ]

-- once all states that are met were visited, it holds of each state that is reached
pub reached_settled : (a : Description) (P : ℕ → Type 0) (states : List ℕ) (at : ℕ) → length states < at + 1 → HasStarts a states
    → ((place : ℕ) → place < at → HasNext a (state_at states place) states)
    → ((place : ℕ) → place < at → P (state_at states place)) → (state : ℕ) → IsReached a state → P state
reached_settled a P states at past starts next settled state reached =
    let has : Contains states state = reached_met a states starts (λ place below. next place (omega (arith, below, past))) state reached in
    subst P (get_or_default states has.0 0 state has.1 ∙ has.2) (settled has.0 (omega (arith, has.1, past)))

-- and there are no more of these than were met
few_reached : (a : Description) (states : List ℕ) → HasStarts a states → ((place : ℕ) → place < length states → HasNext a (state_at states place) states)
    → length states ≤ most_states → HasManyStates a → ⊥
few_reached a states starts next few many =
    omega (
      arith,
      few,
      many.many,
      length-le_from_is_member nat_eq_equiv many.states states many.distinct
          (λ state listed. found_among states state (reached_met a states starts next state (many.reached state (among_found many.states state listed)))),
    )
  where
    found_among : (xs : List ℕ) (x : ℕ) → Contains xs x → list_any (nat_eq x) xs ≡ true
    found_among [] x has = absurd (omega (arith, has.1))
    found_among (y ∷ ys) x (zero, below, here) = or_left (nat_eq x y) (list_any (nat_eq x) ys) (eq-eqb x y (sym here))
    found_among (y ∷ ys) x (suc k, below, here) = or_right (nat_eq x y) (list_any (nat_eq x) ys) (found_among ys x (k, omega arith, here))

    among_found : (xs : List ℕ) (x : ℕ) → list_any (nat_eq x) xs ≡ true → Contains xs x
    among_found [] x found = absurd (false≢true found)
    among_found (y ∷ ys) x found = elim (or_cases (nat_eq x y) (list_any (nat_eq x) ys) found) [
      | inl here ↦ (0, omega arith, sym (eqb-true x y here))
      | inr later ↦ let rest = among_found ys x later in (suc rest.0, omega (arith, rest.1), rest.2)
    ]

-- so the states that are reached are settled
pub all_settled : (a : Description) (controlled states : List ℕ) (at : ℕ) → length states < at + 1 → at ≤ most_states → HasStarts a states
    → ((place : ℕ) → place < at → HasNext a (state_at states place) states)
    → ((place : ℕ) → place < at → IsSettled a controlled (state_at states place)) → AreReachedSettled a controlled
all_settled a controlled states at past few starts next settled = (
  few_reached a states starts (λ place below. next place (omega (arith, below, past))) (omega (arith, past, few)),
  reached_settled a (IsSettled a controlled) states at past starts next settled,
)

-- too many states
pub too_many : (a : Description) (controlled states : List ℕ) (entries : List (Option StateEntry)) → AreMet a states entries → most_states < length states
    → IsLetterFault a controlled TooLarge
too_many a controlled states entries met many =
    many_states (record { states = states; distinct = met.distinct; reached = all_reached a states entries met; many = many })
