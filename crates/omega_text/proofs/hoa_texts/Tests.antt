-- Choices by a test, one way and the other.
use Rattle.std.proofs.Common.{◌≡◌, ◌⊎◌, inl, inr, refl, Bool, true, false, cond}

-- what holds of a choice holds of one of the two, with the test's answer
pub chosen : {A : Type 0} (P : A → Type 0) (test : Bool) (one other : A) → P (cond test one other) → ((test ≡ true) × P one) ⊎ ((test ≡ false) × P other)
chosen P true one other holds = inl (refl, holds)
chosen P false one other holds = inr (refl, holds)

-- a choice by a test that holds
pub choose : {A : Type 0} (test : Bool) (one other : A) → test ≡ true → cond test one other ≡ one
choose true one other is = refl
choose false one other is = absurd (cc)

-- a choice by a test that fails
pub pass : {A : Type 0} (test : Bool) (one other : A) → test ≡ false → cond test one other ≡ other
pass true one other is = absurd (cc)
pass false one other is = refl

-- what holds of both of two holds of the choice
pub either : {A : Type 0} (P : A → Type 0) (test : Bool) (one other : A) → (test ≡ true → P one) → (test ≡ false → P other) → P (cond test one other)
either P true one other first second = first refl
either P false one other first second = second refl
