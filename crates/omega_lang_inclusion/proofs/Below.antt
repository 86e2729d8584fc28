-- A property that none of the first items of a list has.
use Rattle.std.proofs.Common.{◌≡◌, ◌⊎◌, inl, inr, ℕ, ◌+◌, ◌<◌, ◌≤◌, List, length, get_or, Contains, sym, ap, subst, ◌∙◌, arith}
use Rattle.std.proofs.lemmas.Bool.{cases_lt}
use Rattle.std.proofs.lemmas.List.{get_or_default}

-- none of the first `count` items has it
abbrev pub NoneBelow : {X : Type 0} → (X → Type 0) → List X → ℕ → Type 0
NoneBelow {X} P xs count = (k : ℕ) → k < count → (x : X) → get_or xs k x ≡ x → ¬ P x

module _ {X : Type 0} (P : X → Type 0) (xs : List X) where
  -- nor has one item more
  pub none_more : (count : ℕ) (x : X) → NoneBelow P xs count → count < length xs → x ≡ get_or xs count x → ¬ P x → NoneBelow P xs (count + 1)
  none_more count x none below here not k less y there = go (cases_lt k count)
    where
      go : (k < count) ⊎ (count ≤ k) → ¬ P y
      go (inl before) = none k before y there
      go (inr past) =
          let e : k ≡ count = omega arith in
          let same : y ≡ x = sym there ∙ (ap (λ (i : ℕ). get_or xs i y) e ∙ (get_or_default xs count y x below ∙ sym here)) in
          λ p. not (subst P same p)

  -- so none of all
  pub none_at_all : (count : ℕ) → NoneBelow P xs count → length xs ≤ count → (x : X) → Contains xs x → ¬ P x
  none_at_all count none all x has = none has.0 (omega (arith, has.1)) x has.2
