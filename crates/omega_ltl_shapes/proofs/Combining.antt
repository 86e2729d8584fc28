-- Combinations say more where their parts do, and their truth values are what they say.
use Rattle.std.proofs.Common.{◌≡◌, ◌⊎◌, inl, inr, ◌<◌, ℕ, Bool, true, false, refl}
use Rattle.std.specs.Prelude.{IsTrue, ◌&&◌}
use Rattle.std.proofs.lemmas.Bool.{and_from, and_parts, or_cases, or_left, or_right}
use Rattle.omega_ltl_shapes.specs.Combinations.{Says, SpeaksBelow, combined}
use Rattle.omega_ltl_shapes.specs.declared.combination.Combination.{Combination}
use Rattle.omega_ltl_shapes.specs.declared.combination.Combination.TheVariants.{Both, Cases, Constant, Either, Literal, Same}

pub says_more : (L M : ℕ → Bool → Type 0) (P Q : ℕ → Type 0) (n : ℕ) (c : Combination) → SpeaksBelow n c
    → ((name : ℕ) (negated : Bool) → L name negated → M name negated) → ((d : ℕ) → d < n → P d → Q d) → Says L P c → Says M Q c
says_more L M P Q n (Constant value) below l p s = s
says_more L M P Q n (Literal name negated) below l p s = l name negated s
says_more L M P Q n (Same d) below l p s = p d below s
says_more L M P Q n (Both d e) below l p s = (p d below.0 s.0, p e below.1 s.1)
says_more L M P Q n (Either d e) below l p (inl s) = inl (p d below.0 s)
says_more L M P Q n (Either d e) below l p (inr s) = inr (p e below.1 s)
says_more L M P Q n (Cases a b c d) below l p (inl s) = inl (p a below.0 s.0, p b below.1 s.1)
says_more L M P Q n (Cases a b c d) below l p (inr s) = inr (p c below.2 s.0, p d below.3 s.1)

-- the same without a bound
pub says_all : (L M : ℕ → Bool → Type 0) (P Q : ℕ → Type 0) (c : Combination)
    → ((name : ℕ) (negated : Bool) → L name negated → M name negated) → ((d : ℕ) → P d → Q d) → Says L P c → Says M Q c
says_all L M P Q (Constant value) l p s = s
says_all L M P Q (Literal name negated) l p s = l name negated s
says_all L M P Q (Same d) l p s = p d s
says_all L M P Q (Both d e) l p s = (p d s.0, p e s.1)
says_all L M P Q (Either d e) l p (inl s) = inl (p d s)
says_all L M P Q (Either d e) l p (inr s) = inr (p e s)
says_all L M P Q (Cases a b c d) l p (inl s) = inl (p a s.0, p b s.1)
says_all L M P Q (Cases a b c d) l p (inr s) = inr (p c s.0, p d s.1)

module _ (l : ℕ → Bool → Bool) (v : ℕ → Bool) where
  pub combined_says : (c : Combination) → IsTrue (combined l v c) → Says (λ name negated. IsTrue (l name negated)) (λ d. IsTrue (v d)) c
  combined_says (Constant value) h = h
  combined_says (Literal name negated) h = h
  combined_says (Same d) h = h
  combined_says (Both d e) h = and_parts (v d) (v e) h
  combined_says (Either d e) h = or_cases (v d) (v e) h
  combined_says (Cases a b c d) h =
      elim (or_cases (v a && v b) (v c && v d) h) [ inl s ↦ inl (and_parts (v a) (v b) s) | inr s ↦ inr (and_parts (v c) (v d) s) ]

  pub says_combined : (c : Combination) → Says (λ name negated. IsTrue (l name negated)) (λ d. IsTrue (v d)) c → IsTrue (combined l v c)
  says_combined (Constant value) h = h
  says_combined (Literal name negated) h = h
  says_combined (Same d) h = h
  says_combined (Both d e) h = and_from (v d) (v e) h.0 h.1
  says_combined (Either d e) (inl h) = or_left (v d) (v e) h
  says_combined (Either d e) (inr h) = or_right (v d) (v e) h
  says_combined (Cases a b c d) (inl h) = or_left (v a && v b) (v c && v d) (and_from (v a) (v b) h.0 h.1)
  says_combined (Cases a b c d) (inr h) = or_right (v a && v b) (v c && v d) (and_from (v c) (v d) h.0 h.1)

  -- so what a combination of truth values says is decided
  pub says_or_not : (c : Combination) → Says (λ name negated. IsTrue (l name negated)) (λ d. IsTrue (v d)) c
      ⊎ (Says (λ name negated. IsTrue (l name negated)) (λ d. IsTrue (v d)) c → ⊥)
  says_or_not c = go (combined l v c) refl
    where
      go : (b : Bool) → combined l v c ≡ b → Says (λ name negated. IsTrue (l name negated)) (λ d. IsTrue (v d)) c
          ⊎ (Says (λ name negated. IsTrue (l name negated)) (λ d. IsTrue (v d)) c → ⊥)
      go true is = inl (combined_says c is)
      go false is = inr (λ h. let said : combined l v c ≡ true = says_combined c h in absurd (cc))
