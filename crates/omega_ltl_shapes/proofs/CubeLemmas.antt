-- Cubes by the bits of their words.
use Rattle.std.proofs.Common.{◌≡◌, inl, inr, ℕ, Bool, true, false, refl, sym, subst, ◌∙◌}
use Rattle.std.proofs.lemmas.Bool.{false≢true, true≢false}
use Rattle.omega_ltl_shapes.specs.Covers.{HasLiteral}
use Rattle.omega_ltl_shapes.specs.Terms.{AreContradictory, HasBits, HasBitsOfBoth, HasLiterals, HasOneMore, HaveCommonBit, IsCubeOfBoth, IsCubeWith, IsLiteralCube, no_literals}
use Rattle.omega_ltl_shapes.specs.declared.cube.Cube.{Cube}
use Rattle.omega_ltl_shapes.proofs.BitLemmas.{none_in_zero}

pub bits_literals : (one other : Cube) → HasBits one.positive other.positive → HasBits one.negative other.negative → HasLiterals one other
bits_literals one other p n name false h = p name h
bits_literals one other p n name true h = n name h

pub literals_positive : (one other : Cube) → HasLiterals one other → HasBits one.positive other.positive
literals_positive one other l place h = l place false h

pub literals_negative : (one other : Cube) → HasLiterals one other → HasBits one.negative other.negative
literals_negative one other l place h = l place true h

-- a literal with the sign `true` more, or with `false`
module _ (cube : Cube) (name word : ℕ) where
  pub with_negative : HasOneMore cube.negative name word → IsCubeWith cube name true (record { positive = cube.positive; negative = word })
  with_negative more other false = (λ h. inl h, λ h. elim h [ inl old ↦ old | inr same ↦ absurd (false≢true same.1) ])
  with_negative more other true = (
    λ h. elim ((more other).0 h) [ inl old ↦ inl old | inr same ↦ inr (same, refl) ],
    λ h. elim h [ inl old ↦ (more other).1 (inl old) | inr same ↦ (more other).1 (inr same.0) ],
  )

  pub with_positive : HasOneMore cube.positive name word → IsCubeWith cube name false (record { positive = word; negative = cube.negative })
  with_positive more other true = (λ h. inl h, λ h. elim h [ inl old ↦ old | inr same ↦ absurd (true≢false same.1) ])
  with_positive more other false = (
    λ h. elim ((more other).0 h) [ inl old ↦ inl old | inr same ↦ inr (same, refl) ],
    λ h. elim h [ inl old ↦ (more other).1 (inl old) | inr same ↦ (more other).1 (inr same.0) ],
  )

no_literal : (name : ℕ) (negated : Bool) → HasLiteral no_literals name negated → ⊥
no_literal name false h = false≢true (sym (none_in_zero name) ∙ h)
no_literal name true h = false≢true (sym (none_in_zero name) ∙ h)

pub literal_cube : (empty cube : Cube) (name : ℕ) (negated : Bool) → empty ≡ no_literals → IsCubeWith empty name negated cube → IsLiteralCube name negated cube
literal_cube empty cube name negated none with other sign = (
  λ h. elim ((with other sign).0 h) [
    | inl old ↦ absurd (no_literal other sign (subst (λ (c : Cube). HasLiteral c other sign) none old))
    | inr same ↦ same
  ],
  λ same. (with other sign).1 (inr same),
)

-- two cubes together
pub joined_cube : (one other : Cube) (positive negative : ℕ) → HasBitsOfBoth one.positive other.positive positive → HasBitsOfBoth one.negative other.negative negative
    → IsCubeOfBoth one other (record { positive = positive; negative = negative })
joined_cube one other positive negative p n name false = p name
joined_cube one other positive negative p n name true = n name

pub apart_first : (one other : Cube) → HaveCommonBit one.positive other.negative → AreContradictory one other
apart_first one other common = (common.0, inl (common.1, common.2))

pub apart_second : (one other : Cube) → HaveCommonBit one.negative other.positive → AreContradictory one other
apart_second one other common = (common.0, inr (common.1, common.2))
