-- Whether two automata accept the same words, and if not, a counterexample.
use Rattle.std.specs.Prelude.{◌⊎◌}
use Rattle.omega_text.specs.declared.refusal.Refusal.{Refusal}
use Rattle.omega_hoa_automaton.specs.Automaton.{Description}
use Rattle.omega_lang_inclusion.specs.Containing.{IsContained, IsCounterexample}
use Rattle.omega_lang_inclusion.specs.Refusing.{AreComparable, IsContainmentRefusal}
use Rattle.omega_lang_inclusion.specs.declared.equality.Equality.{Equality}
use Rattle.omega_lang_inclusion.specs.declared.equality.Equality.TheVariants.{Equal, OnlyFirst, OnlySecond}

-- an answer is right: `Equal` only if each accepts the words that the other accepts; any other answer is a
-- counterexample
abbrev pub IsEquality : Description → Description → Equality → Type 0
IsEquality one other Equal = IsContained one other × IsContained other one
IsEquality one other (OnlyFirst example) = IsCounterexample one other example
IsEquality one other (OnlySecond example) =
    IsContained one other × IsCounterexample other one example

-- no refusal of the complement applies to either automaton
abbrev pub AreEquatable : Description → Description → Type 0
AreEquatable one other = AreComparable one other × AreComparable other one

-- the refusal of equality: that of containment of the one in the other, else that of containment the other way
abbrev pub IsEqualityRefusal : Description → Description → Refusal → Type 0
IsEqualityRefusal one other refusal = IsContainmentRefusal one other refusal
    ⊎ (AreComparable one other × IsContainmentRefusal other one refusal)
