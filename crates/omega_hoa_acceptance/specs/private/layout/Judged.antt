-- The truth values that nodes leave on a stack.
use Rattle.std.specs.Prelude.{ℕ, Bool, false, ◌&&◌, ◌||◌, List, [], ◌∷◌}
use Rattle.omega_hoa_acceptance.specs.declared.formula.AccNode.{AccNode}
use Rattle.omega_hoa_acceptance.specs.declared.formula.AccNode.TheVariants.{And, Constant, Fin, Inf, Or}

-- the truth value on top, or false if there is none
abbrev pub top_truth : List Bool → Bool
top_truth [] = false
top_truth (truth ∷ truths) = truth

-- the truth values below the top
abbrev pub truths_below : List Bool → List Bool
truths_below [] = []
truths_below (truth ∷ truths) = truths

-- the truth values that nodes leave of those before them, if these functions say which atoms `Inf` and `Fin` hold
abbrev pub truths_after : (Bool → ℕ → Bool) → (Bool → ℕ → Bool) → List Bool
    → List AccNode → List Bool
truths_after infs fins truths [] = truths
truths_after infs fins truths (Constant value ∷ nodes) =
    truths_after infs fins (value ∷ truths) nodes
truths_after infs fins truths (Inf negated set ∷ nodes) =
    truths_after infs fins (infs negated set ∷ truths) nodes
truths_after infs fins truths (Fin negated set ∷ nodes) =
    truths_after infs fins (fins negated set ∷ truths) nodes
truths_after infs fins truths (And ∷ nodes) = truths_after infs fins
    ((top_truth (truths_below truths) && top_truth truths) ∷ truths_below (truths_below truths)) nodes
truths_after infs fins truths (Or ∷ nodes) = truths_after infs fins
    ((top_truth (truths_below truths) || top_truth truths) ∷ truths_below (truths_below truths)) nodes
