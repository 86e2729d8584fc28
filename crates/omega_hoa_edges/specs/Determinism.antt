-- Deterministic automata: there is at most one start, and of each state at most one edge can be taken at each letter.
use Rattle.std.specs.Prelude.{◌≡◌, ℕ, ◌<◌, ◌≤◌, false, length}
use Rattle.omega_hoa_automaton.specs.Automaton.{Description}
use Rattle.omega_hoa_automaton.specs.Branching.{has_universal_branching}
use Rattle.omega_hoa_edges.specs.AutomatonLabels.{labels_at}
use Rattle.omega_hoa_edges.specs.Letters.{AreExclusive}

-- of each state with a number below `count`, at most one edge can be taken at each letter
abbrev pub AreExclusiveBelow : Description → ℕ → Type 0
AreExclusiveBelow a count = (number : ℕ) → number < count → AreExclusive (labels_at a number)

-- an automaton is deterministic: it has at most one start, and each state at most one edge at each letter
pub record IsDeterministic (a : Description) : Type 0 where
  pub plain : has_universal_branching a ≡ false
  pub one_start : length a.starts ≤ 1
  pub apart : AreExclusiveBelow a a.states
