-- Values of literals: they depend on the variable alone.
use Rattle.std.proofs.Common.{◌≡◌, ℕ, ◌/◌, ◌%◌, ◌==◌, Bool, true, false, not, ◌&&◌, cond, refl, ap, ap₂}
use Rattle.omega_circuit.specs.Circuit.{is_even}
use Rattle.omega_circuit.specs.Rounds.{gate_value, literal_value}
use Rattle.omega_circuit.specs.declared.gate.Gate.{Gate}

-- of the same literal
pub literal_alike : (one other : ℕ → Bool) (literal : ℕ) → one (literal / 2) ≡ other (literal / 2) → literal_value one literal ≡ literal_value other literal
literal_alike one other literal same = ap (λ (b : Bool). cond (is_even literal) b (not b)) same

-- of two literals with the same sign
pub signs_alike : (one other : ℕ → Bool) (literal number : ℕ) → number % 2 ≡ literal % 2 → one (number / 2) ≡ other (literal / 2)
    → literal_value one number ≡ literal_value other literal
signs_alike one other literal number sign same =
    ap₂ (λ (s : ℕ) (b : Bool). cond (s == 0) b (not b)) sign same

-- of gates
pub gate_alike : (one other : ℕ → Bool) (gate : Gate) → one (gate.left / 2) ≡ other (gate.left / 2) → one (gate.right / 2) ≡ other (gate.right / 2)
    → gate_value one gate ≡ gate_value other gate
gate_alike one other gate left right = ap₂ (λ (a b : Bool). a && b) (literal_alike one other gate.left left) (literal_alike one other gate.right right)

-- a choice between values that are the same in the case of each
pub choice_alike : (b : Bool) (x y z w : Bool) → (b ≡ true → x ≡ z) → (b ≡ false → y ≡ w) → cond b x y ≡ cond b z w
choice_alike true x y z w first second = first refl
choice_alike false x y z w first second = second refl
