-- Which automata are not judged as counter-strategies, and for which specifications: those that are not deterministic,
-- those whose acceptance is not `all`, and those whose product or letters cannot be decided.
use Rattle.std.specs.Prelude.{◌≡◌, ℕ, ◌≤◌, true, false, List, [], filter, length, slice_index_or}
use Rattle.std.specs.List.{list_any, range_with_len}
use Rattle.std.specs.Str.{bytes_eq}
use Rattle.omega_text.specs.Cases.{IsMemory}
use Rattle.omega_text.specs.declared.refusal.Refusal.{Refusal}
use Rattle.omega_text.specs.declared.refusal.Refusal.TheVariants.{Memory, Task}
use Rattle.omega_text.specs.declared.refusal.task.TaskFault.TheVariants.{NotParity, UniversalBranch}
use Rattle.omega_hoa_automaton.specs.Automaton.{Description}
use Rattle.omega_hoa_automaton.specs.Branching.{has_universal_branching}
use Rattle.omega_hoa_edges.specs.Refusing.{AreUnjudged, IsStartRefusal}
use Rattle.omega_lang_complement.specs.Complement.{HasComplement, IsComplement}
use Rattle.omega_lang_complement.specs.Refusing.{IsUncomplemented}
use Rattle.omega_lang_product.specs.Product.{IsProduct}
use Rattle.omega_lang_product.specs.Refusing.{IsGraphRefusal, IsProductRefusal}
use Rattle.omega_synth_check.specs.Refusing.{AcceptsAll, IsLetterRefusal, IsReadable}

-- why a specification is not found to be deterministic
pub data IsUndetermined (specification : Description) (refusal : Refusal) : Type 0 where
  branches : has_universal_branching specification ≡ true → refusal ≡ Task UniversalBranch
      → IsUndetermined specification refusal
  two_starts : has_universal_branching specification ≡ false → IsStartRefusal specification refusal
      → IsUndetermined specification refusal
  two_edges : has_universal_branching specification ≡ false → length specification.starts ≤ 1
      → AreUnjudged specification refusal → IsUndetermined specification refusal

-- the numbers of the propositions of an automaton that have some of these names
abbrev pub system_numbers : List (List ℕ) → (controlled : List (List ℕ)) → List ℕ
system_numbers names controlled =
    filter (λ p. list_any (bytes_eq (slice_index_or names p [])) controlled) (range_with_len 0 (length names))

-- the refusal of a specification together with the complement of a strategy: that of their product or of its graph, or
-- that of the search in the product for a state without a letter
pub data IsJointRefusal (specification complement : Description) (controlled : List (List ℕ))
    (refusal : Refusal) : Type 0 where
  not_joined : IsProductRefusal specification complement refusal
      → IsJointRefusal specification complement controlled refusal
  not_graphed : IsGraphRefusal specification complement refusal
      → IsJointRefusal specification complement controlled refusal
  not_searched : (joint : Description) → IsProduct specification complement joint
      → IsLetterRefusal joint (system_numbers joint.propositions controlled) refusal
      → IsJointRefusal specification complement controlled refusal
  no_memory : IsMemory refusal → IsJointRefusal specification complement controlled refusal

-- the refusal of the search for a pair without a letter: that of the complement of the strategy, or else this one
pub data IsLetterlessRefusal (specification strategy : Description) (controlled : List (List ℕ))
    (refusal : Refusal) : Type 0 where
  not_complemented : IsUncomplemented strategy refusal
      → IsLetterlessRefusal specification strategy controlled refusal
  not_decided : (complement : Description) → HasComplement strategy
      → IsComplement strategy complement
      → IsJointRefusal specification complement controlled refusal
      → IsLetterlessRefusal specification strategy controlled refusal

-- the strategy can be read as one, and has a complement
pub record AreCounterJudged (specification strategy : Description) : Type 0 where
  pub readable : IsReadable strategy
  pub given : HasComplement strategy

-- the refusal of the judge, in the order of its steps
pub data IsCounterRefusal (specification strategy : Description) (controlled : List (List ℕ))
    : Refusal → Type 0 where
  branches : has_universal_branching strategy ≡ true
      → IsCounterRefusal specification strategy controlled (Task UniversalBranch)
  not_all : has_universal_branching strategy ≡ false → ¬ AcceptsAll strategy
      → IsCounterRefusal specification strategy controlled (Task NotParity)
  no_memory : IsCounterRefusal specification strategy controlled Memory
  no_letters : (refusal : Refusal) → IsReadable strategy
      → IsLetterlessRefusal specification strategy controlled refusal
      → IsCounterRefusal specification strategy controlled refusal
  not_met : (refusal : Refusal) → IsReadable strategy → HasComplement strategy
      → IsGraphRefusal strategy specification refusal
      → IsCounterRefusal specification strategy controlled refusal
