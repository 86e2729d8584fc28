-- The complement of a deterministic automaton, which accepts exactly the words that the automaton does not. It has the
-- same states and edges, an edge more for the letters that a state lacks, and the dual acceptance.
use Rattle.std.specs.Prelude.{◌≡◌, ℕ, ◌+◌, ◌<◌, Bool, false, ◌||◌, nat_le}
use Rattle.omega_text.specs.Limits.{most_number}
use Rattle.omega_hoa_expression.specs.Limits.{most_depth}
use Rattle.omega_hoa_acceptance.specs.Raw.{raw_acc_depth}
use Rattle.omega_hoa_automaton.specs.Automaton.{Description, edge_count}
use Rattle.omega_hoa_automaton.specs.Meaning.{Means}
use Rattle.omega_hoa_syntax.specs.declared.raw_automaton.RawAutomaton.{RawAutomaton}
use Rattle.omega_lang_complement.specs.Judged.{AreFitting}
use Rattle.omega_hoa_edges.specs.Determinism.{IsDeterministic}
use Rattle.omega_hoa_edges.specs.AutomatonLabels.{is_full_at, labels_at}
use Rattle.omega_lang_complement.specs.Written.{IsWrittenComplement, written_dual}
use Rattle.omega_hoa_edges.specs.Limits.{most_edges, most_states}

-- an automaton is the complement of another: it is the meaning of the written complement
abbrev pub IsComplement : Description → Description → Type 0
IsComplement a complement = (raw : RawAutomaton) × IsWrittenComplement a raw × Means raw complement

-- whether a limit would be passed by one state more, one edge more for each state, one set more, or a written formula
-- one deeper
abbrev pub exceeds_limits : Description → Bool
exceeds_limits a = nat_le most_states a.states || nat_le most_edges (edge_count a + a.states)
    || nat_le most_number a.sets || nat_le most_depth (raw_acc_depth (written_dual a))

-- the labels to be judged and the labels to be written of the state with a number fit the limits
abbrev pub AreFittingAt : Description → ℕ → Type 0
AreFittingAt a number = AreFitting (is_full_at a number) (labels_at a number)

-- of each state with a number below `count`, these labels fit the limits
abbrev pub AreFittingBelow : Description → ℕ → Type 0
AreFittingBelow a count = (number : ℕ) → number < count → AreFittingAt a number

-- no refusal of the automaton applies
pub record HasComplement (a : Description) : Type 0 where
  pub deterministic : IsDeterministic a
  pub limits : exceeds_limits a ≡ false
  pub fitting : AreFittingBelow a a.states
