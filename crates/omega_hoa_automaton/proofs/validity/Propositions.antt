-- Fault 26: the names of propositions are as many as counted, few, and no two alike.
use Rattle.std.proofs.Common.{◌≡◌, ℕ, ◌≤◌, false, not, ◌||◌, ◌==◌, nat_lt, List, [], length, Option, Some, None, IfSome, option_map, unwrap_or, refl, arith}
use Rattle.std.specs.List.{filter_map, slice_get}
use Rattle.std.specs.Str.{bytes_eq}
use Rattle.std.proofs.lemmas.Bool.{eqb-true, ltb-false, not-false}
use Rattle.omega_hoa_syntax.specs.declared.raw_automaton.RawAutomaton.{RawAutomaton}
use Rattle.omega_hoa_automaton.specs.Automaton.{has_repeat}
use Rattle.omega_hoa_automaton.specs.Faults.{has_wrong_proposition, is_misnamed, names_of, proposition_count}
use Rattle.omega_hoa_automaton.specs.Items.{Named, propositions_in}
use Rattle.omega_hoa_automaton.specs.Limits.{most_propositions}
use Rattle.omega_hoa_automaton.proofs.validity.Tests.{first_of, neither, said_all}

-- names of propositions, and their count
pub record AreNames (count : ℕ) (names : List (List ℕ)) : Type 0 where
  pub counted : count ≡ length names
  pub few : length names ≤ most_propositions
  pub unlike : has_repeat bytes_eq names ≡ false

-- what is not misnamed is named well
named_well : (named : Named) → is_misnamed named ≡ false → AreNames named.count named.names
named_well named h =
    let first = neither (not (named.count == length named.names) || nat_lt most_propositions (length named.names)) (has_repeat bytes_eq named.names) h in
    let second = neither (not (named.count == length named.names)) (nat_lt most_propositions (length named.names)) first.0 in
    record {
      counted = eqb-true named.count (length named.names) (not-false (named.count == length named.names) second.0);
      few = ltb-false most_propositions (length named.names) second.1;
      unlike = first.1;
    }

-- so are those that are there, or none
names_there : (named : Option Named) → IfSome named (λ named. AreNames named.count named.names)
    → AreNames (unwrap_or (option_map (λ named. named.count) named) 0) (unwrap_or (option_map (λ named. named.names) named) [])
names_there None h = record { counted = refl; few = omega arith; unlike = refl }
names_there (Some named) h = h

-- the names of an automaton that is written without the fault
pub names_well : (raw : RawAutomaton) → has_wrong_proposition raw ≡ false → AreNames (proposition_count raw) (names_of raw)
unfolding has_wrong_proposition
names_well raw h =
    let front = neither _ _ h in
    let items = neither _ _ front.0 in
    names_there (slice_get (filter_map propositions_in raw.items) 0)
    (first_of (λ named. AreNames named.count named.names) (filter_map propositions_in raw.items)
    (said_all propositions_in is_misnamed (λ named. AreNames named.count named.names) named_well raw.items items.0))
