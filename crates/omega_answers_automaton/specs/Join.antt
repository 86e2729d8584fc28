-- The answer of `join` for the texts of two automata, that of a file and that of the input: the canonical text of their
-- union; and its refusals.
use Rattle.std.specs.Prelude.{◌≡◌, ℕ, List}
use Rattle.omega_hoa_automaton.specs.Automaton.{Description}
use Rattle.omega_hoa_automaton.specs.Meaning.{Means}
use Rattle.omega_canon.specs.Canonical.{canonical_automaton}
use Rattle.omega_io.specs.declared.refused.Refused.{Refused}
use Rattle.omega_lang_product.specs.Limits.{IsWithin}
use Rattle.omega_lang_product.specs.Refusing.{HaveNoBranch}
use Rattle.omega_lang_trim.specs.Written.{written}
use Rattle.omega_lang_union.specs.Refusing.{IsUnionRefusal}
use Rattle.omega_lang_union.specs.Union.{IsUnion}
use Rattle.omega_answers.specs.TwoAutomata.{IsRefusalOfTexts, OfAutomata}
use Rattle.omega_answers.specs.TwoTexts.{IsAboutNeither}

-- the canonical text of the union of two automata without universal branching
pub record IsUnionText (first second : Description) (output : List ℕ) : Type 0 where
  pub given : HaveNoBranch first second
  pub union : Description
  pub union_is : IsUnion first second union
  pub union_written : Means (written union) union
  pub within : IsWithin union
  pub text : output ≡ canonical_automaton union

-- the answer of `join`: both texts are those of automata, and the canonical text of their union is written, the
-- automaton of the input first
abbrev pub IsJoinAnswer : (file input output : List ℕ) → Type 0
IsJoinAnswer file input output =
    OfAutomata (λ second first. IsUnionText first second output) file input

-- the refusal of `join`: that of one of the texts, or else that of the union, which is about neither
abbrev pub IsJoinRefused : (file input : List ℕ) → Refused → Type 0
IsJoinRefused = IsRefusalOfTexts (λ second first. IsAboutNeither (IsUnionRefusal first second))
