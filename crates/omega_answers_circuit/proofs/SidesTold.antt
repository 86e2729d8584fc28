-- What tests of names say of the sides of a circuit.
use Rattle.std.proofs.Common.{◌≡◌, ◌||◌, ◌+◌, ◌≤◌, ℕ, Bool, true, false, not, List, length, take, drop, Contains, refl, sym, ap, subst, ◌∙◌, arith}
use Rattle.std.specs.List.{list_all, list_any}
use Rattle.std.specs.Str.{bytes_eq}
use Rattle.std.proofs.Math.Seq.{drop-append_seam, take-append_seam}
use Rattle.std.proofs.lemmas.Bool.{false≢true}
use Rattle.std.proofs.lemmas.List.{length-append}
use Rattle.std.proofs.lemmas.List.FromFn.{length-map-range_with_len}
use Rattle.std.proofs.lemmas.List.Sums.{AllPass-from_list_all, list_all-from_AllPass}
use Rattle.omega_circuit.specs.Circuit.{CircuitValue}
use Rattle.omega_circuit.specs.Rounds.{name_of}
use Rattle.omega_circuit.specs.declared.symbol.SymbolKind.TheVariants.{Input}
use Rattle.omega_circuit_automaton.specs.Names.{proposition_names}
use Rattle.omega_synth_check.proofs.SystemNames.{found_name, name_found}
use Rattle.omega_answers_circuit.specs.Sides.{AreSided, input_names, output_names}

module _ (names system : List (List ℕ)) where
  -- a name is none of the system's
  abbrev pub is_apart : List ℕ → Bool
  is_apart name = not (list_any (bytes_eq name) system)

  -- or one of the system's, if it is one at all
  abbrev pub is_within : List ℕ → Bool
  is_within name = not (list_any (bytes_eq name) names) || list_any (bytes_eq name) system

  apart_name : (name : List ℕ) → is_apart name ≡ true → ¬ Contains system name
  apart_name name apart has = false≢true (sym (ap not (name_found name system has)) ∙ apart)

  name_apart : (name : List ℕ) → ¬ Contains system name → is_apart name ≡ true
  name_apart name none = go (list_any (bytes_eq name) system) refl
    where
      go : (found : Bool) → list_any (bytes_eq name) system ≡ found → not found ≡ true
      go true e = absurd (none (found_name name system e))
      go false e = refl

  within_name : (name : List ℕ) → is_within name ≡ true → Contains names name → Contains system name
  within_name name within has =
      found_name name system (subst (λ (b : Bool). (not b || list_any (bytes_eq name) system) ≡ true) (name_found name names has) within)

  name_within : (name : List ℕ) → (Contains names name → Contains system name) → is_within name ≡ true
  name_within name within = go (list_any (bytes_eq name) names) refl
    where
      go : (found : Bool) → list_any (bytes_eq name) names ≡ found → (not found || list_any (bytes_eq name) system) ≡ true
      go true e = name_found name system (within (found_name name names e))
      go false e = refl

  module _ (inputs outputs : List (List ℕ)) where
    -- all inputs and outputs are on their sides
    pub sided : list_all is_apart inputs ≡ true → list_all is_within outputs ≡ true → AreSided names system inputs outputs
    sided apart within = record {
      inputs_apart = λ k d low. apart_name _ (AllPass-from_list_all is_apart inputs apart k d low);
      outputs_within = λ k d low. within_name _ (AllPass-from_list_all is_within outputs within k d low);
    }

    pub inputs_sided : AreSided names system inputs outputs → list_all is_apart inputs ≡ true
    inputs_sided are = list_all-from_AllPass is_apart inputs (λ k d low. name_apart _ (are.inputs_apart k d low))

    pub outputs_sided : AreSided names system inputs outputs → list_all is_within outputs ≡ true
    outputs_sided are = list_all-from_AllPass is_within outputs (λ k d low. name_within _ (are.outputs_within k d low))

module _ (c : CircuitValue) where
  inputs_long : length (input_names c) ≡ length c.inputs
  inputs_long = length-map-range_with_len (λ position. name_of Input position c.symbols) 0 (length c.inputs)

  -- the inputs are among the names
  pub inputs_among : length c.inputs ≤ length (proposition_names c)
  inputs_among =
      let all : length (proposition_names c) ≡ length (input_names c) + length (output_names c) = length-append (input_names c) (output_names c) in
      omega (arith, inputs_long, all)

  -- and stand first
  pub first_are_inputs : take (length c.inputs) (proposition_names c) ≡ input_names c
  first_are_inputs =
      ap (λ (n : ℕ). take n (proposition_names c)) (sym inputs_long) ∙ take-append_seam (input_names c) (output_names c)

  pub last_are_outputs : drop (length c.inputs) (proposition_names c) ≡ output_names c
  last_are_outputs =
      ap (λ (n : ℕ). drop n (proposition_names c)) (sym inputs_long) ∙ drop-append_seam (input_names c) (output_names c)
