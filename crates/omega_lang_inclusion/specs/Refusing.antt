-- Which refusal of containment applies: that of the complement of `other`, else that of the graph of the product of
-- `one` with this complement, else want of memory.
use Rattle.std.specs.Prelude.{◌≡◌, false}
use Rattle.omega_text.specs.Cases.{IsMemory}
use Rattle.omega_text.specs.declared.refusal.Refusal.{Refusal}
use Rattle.omega_hoa_automaton.specs.Automaton.{Description}
use Rattle.omega_hoa_automaton.specs.Branching.{has_universal_branching}
use Rattle.omega_lang_complement.specs.Complement.{HasComplement, IsComplement}
use Rattle.omega_lang_complement.specs.Refusing.{IsUncomplemented}
use Rattle.omega_lang_product.specs.Refusing.{IsGraphRefusal}

-- no refusal of the complement applies to `other`, which is so deterministic, and `one` has no universal branching
pub record AreComparable (one other : Description) : Type 0 where
  pub plain : has_universal_branching one ≡ false
  pub given : HasComplement other

-- the refusal of containment
pub data IsContainmentRefusal (one other : Description) (refusal : Refusal) : Type 0 where
  not_complemented : IsUncomplemented other refusal → IsContainmentRefusal one other refusal
  not_met :
      (complement : Description) → HasComplement other → IsComplement other complement
      → IsGraphRefusal one complement refusal → IsContainmentRefusal one other refusal
  no_memory : AreComparable one other → IsMemory refusal → IsContainmentRefusal one other refusal
