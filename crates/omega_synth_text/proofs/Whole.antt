-- The parts of a winner make its automaton.
use Rattle.std.proofs.Common.{◌≡◌, ℕ, Bool, List, [], Option, length, ap}
use mathlib.Core.Path.{fun_ext}
use Rattle.omega_hoa_label.specs.Label.{LabelTree}
use Rattle.omega_hoa_automaton.specs.Automaton.{Description}
use Rattle.omega_canon.specs.Canonical.{canonical_automaton}
use Rattle.omega_synth_text.specs.Winner.{is_kept_edge, kept_state, kept_states, winner}

-- flags that tell which edges are kept serve for the kept edges
pub whole_text : (a : Description) (controlled kept : List ℕ) (reached flags : ℕ → Bool) (letters : ℕ → Option LabelTree)
    → ((number : ℕ) → flags number ≡ is_kept_edge a kept number)
    → canonical_automaton (record (winner a controlled [] reached letters) {
      defined = kept_states (kept_state (length a.propositions) flags reached letters) reached 0 a.defined;
    })
    ≡ canonical_automaton (winner a controlled kept reached letters)
whole_text a controlled kept reached flags letters same =
    ap (λ (test : ℕ → Bool). canonical_automaton (record (winner a controlled [] reached letters) {
      defined = kept_states (kept_state (length a.propositions) test reached letters) reached 0 a.defined;
    })) (fun_ext same)
