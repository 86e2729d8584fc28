-- What can stand between quotes, byte by byte.
use Rattle.std.proofs.Common.{◌≡◌, ◌⊎◌, inl, inr, ℕ, ◌↔◌, Bool, true, false, not, List, [], ◌∷◌, refl, sym, subst, arith}
use Rattle.std.specs.Prelude.{IsTrue, nat_eq}
use Rattle.std.proofs.lemmas.Bool.{cases_lt, false≢true}
use Rattle.omega_circuit.proofs.Places.{other_number, same_number}
use Rattle.omega_text.specs.hoa.Forms.{IsQuotable, empty, escaped, plain}
use Rattle.omega_circuit_automaton.specs.private.Quotable.{Continues}

-- what a quotable text begins with
Begins : List ℕ → Type 0
Begins [] = Unit {0}
Begins (byte ∷ rest) = ((byte ≡ 34 → ⊥) × (byte ≡ 92 → ⊥) × IsQuotable rest) ⊎ ((byte ≡ 92) × Continues true rest)

begins : (text : List ℕ) → IsQuotable text → Begins text
unfolding Begins
begins text empty = tt
begins text (plain byte rest quote backslash q) = inl (quote, backslash, q)
begins text (escaped byte rest q) = inr (refl, q)

-- after each byte
pub after_escaped : (byte : ℕ) (rest : List ℕ) → Continues true (byte ∷ rest) ↔ Continues false rest
after_escaped byte rest = (λ h. h, λ h. h)

pub no_quote : (byte : ℕ) (rest : List ℕ) → byte ≡ 34 → IsQuotable (byte ∷ rest) → ⊥
unfolding Begins
no_quote byte rest is h = elim (begins (byte ∷ rest) h) [
  | inl one ↦ one.0 is
  | inr other ↦ omega (arith, is, other.0)
]

pub after_backslash : (byte : ℕ) (rest : List ℕ) → byte ≡ 92 → IsQuotable (byte ∷ rest) ↔ Continues true rest
unfolding Begins
after_backslash byte rest is = (
  λ h. elim (begins (byte ∷ rest) h) [
    | inl one ↦ absurd (one.1 is)
    | inr other ↦ other.1
  ],
  λ h. subst (λ b. IsQuotable (b ∷ rest)) (sym is) (back rest h),
)
  where
    back : (more : List ℕ) → Continues true more → IsQuotable (92 ∷ more)
    back [] h = absurd h
    back (b ∷ more) h = escaped b more h

pub after_plain : (byte : ℕ) (rest : List ℕ) → (byte ≡ 34 → ⊥) → (byte ≡ 92 → ⊥) → IsQuotable (byte ∷ rest) ↔ Continues false rest
unfolding Begins
after_plain byte rest quote backslash = (
  λ h. elim (begins (byte ∷ rest) h) [
    | inl one ↦ one.2
    | inr other ↦ absurd (backslash other.0)
  ],
  λ h. plain byte rest quote backslash h,
)

-- two numbers are one or not
cases_eq : (x y : ℕ) → (x ≡ y) ⊎ (x ≡ y → ⊥)
cases_eq x y = elim (cases_lt x y) [
  | inl less ↦ inr (λ e. omega (arith, e, less))
  | inr more ↦ elim (cases_lt y x) [ inl less ↦ inr (λ e. omega (arith, e, less)) | inr also ↦ inl (omega (arith, more, also)) ]
]

-- after a byte that is not escaped
pub after_byte : (is_escaped : Bool) (byte : ℕ) → is_escaped ≡ false → (byte ≡ 34 → ⊥) → (rest : List ℕ) → Continues is_escaped (byte ∷ rest) ↔ Continues (nat_eq byte 92) rest
after_byte true byte e quote rest = absurd (false≢true (sym e))
after_byte false byte e quote rest = go (cases_eq byte 92)
  where
    go : (byte ≡ 92) ⊎ (byte ≡ 92 → ⊥) → IsQuotable (byte ∷ rest) ↔ Continues (nat_eq byte 92) rest
    go (inl is) = subst (λ (b : Bool). IsQuotable (byte ∷ rest) ↔ Continues b rest) (sym (same_number byte 92 is)) (after_backslash byte rest is)
    go (inr is) = subst (λ (b : Bool). IsQuotable (byte ∷ rest) ↔ Continues b rest) (sym (other_number byte 92 is)) (after_plain byte rest quote is)

-- at the end
pub at_end : (b : Bool) → Continues b [] ↔ IsTrue (not b)
at_end false = (λ h. refl, λ h. empty)
at_end true = (λ h. absurd h, λ h. absurd (false≢true h))
