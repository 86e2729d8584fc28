-- Sets that are numbered after others, within the numbers that there are.
use Rattle.std.specs.Prelude.{◌+◌, ◌≤◌, ℕ, All, List}
use Rattle.omega_hoa_automaton.specs.declared.state.State.{State}
use Rattle.omega_lang_product.specs.Limits.{most_joint_sets}

-- each of the sets has a number after `before` others
abbrev pub HaveRoom : ℕ → List ℕ → Type 0
HaveRoom before sets = All (λ set. before + set ≤ most_joint_sets) sets

-- the marks of a state and of its edges have such numbers
pub record HasRoom (before : ℕ) (state : State) : Type 0 where
  pub marks : HaveRoom before state.marks
  pub edges : All (λ edge. HaveRoom before edge.marks) state.edges
