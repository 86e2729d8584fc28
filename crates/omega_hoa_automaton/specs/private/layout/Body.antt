-- The faults of a written automaton's body that are found without memory, in one walk over its states and their edges.
use Rattle.std.specs.Prelude.{◌≡◌, List, false, nat_le, not}
use Rattle.std.specs.List.{list_any}
use Rattle.omega_hoa_syntax.specs.declared.raw_automaton.RawAutomaton.{RawAutomaton}
use Rattle.omega_hoa_syntax.specs.declared.raw_edge.RawEdge.{RawEdge}
use Rattle.omega_hoa_syntax.specs.Edges.{lengthened}
use Rattle.omega_hoa_syntax.specs.declared.raw_state.RawState.{RawState}
use Rattle.omega_hoa_syntax.specs.declared.short_edge.ShortEdge.{ShortEdge}
use Rattle.omega_hoa_automaton.specs.Faults.{are_out_of_range, has_label, is_beyond, is_labelled}
use Rattle.omega_hoa_automaton.specs.Faults.{is_marked, is_miscounted, is_mixed, is_out_of_range}
use Rattle.omega_hoa_automaton.specs.Faults.{passes, proposition_count, set_count, state_count}
use Rattle.omega_hoa_automaton.specs.declared.judging.body.BodyFound.{BodyFound}
use Rattle.omega_hoa_automaton.specs.declared.judging.counts.Counts.{Counts}
use Rattle.omega_hoa_automaton.specs.declared.judging.edges.EdgesFound.{EdgesFound}

-- the counts of states, of sets and of propositions
pub record AreCountsOf (raw : RawAutomaton) (counts : Counts) : Type 0 where
  pub states : counts.states ≡ state_count raw
  pub sets : counts.sets ≡ set_count raw
  pub propositions : counts.propositions ≡ proposition_count raw

-- what is found of edges, under counts
pub record IsFoundOfEdges (counts : Counts) (edges : List RawEdge) (found : EdgesFound) : Type 0 where
  pub target : found.target ≡ list_any (λ edge. are_out_of_range counts.states edge.targets) edges
  pub mark : found.mark ≡ list_any (λ edge. passes (list_any (nat_le counts.sets)) edge.marks) edges
  pub proposition : found.proposition
      ≡ list_any (λ edge. passes (is_beyond counts.propositions) edge.label) edges
  pub labelled : found.labelled ≡ list_any has_label edges
  pub unlabelled : found.unlabelled ≡ list_any (λ edge. not (has_label edge)) edges

-- the same of edges in compact form
pub record IsFoundOfShort (counts : Counts) (edges : List ShortEdge) (found : EdgesFound) : Type 0 where
  pub target : found.target
      ≡ list_any (λ edge. are_out_of_range counts.states (lengthened edge).targets) edges
  pub mark : found.mark
      ≡ list_any (λ edge. passes (list_any (nat_le counts.sets)) (lengthened edge).marks) edges
  pub proposition : found.proposition ≡ false
  pub labelled : found.labelled ≡ false
  pub unlabelled : found.unlabelled ≡ list_any (λ edge. not (has_label (lengthened edge))) edges

-- what is found of a state and its edges, under counts
pub record IsFoundOfState (counts : Counts) (one : RawState) (found : BodyFound) : Type 0 where
  pub state : found.state ≡ is_out_of_range counts.states one
  pub mark : found.mark ≡ is_marked (nat_le counts.sets) one
  pub proposition : found.proposition ≡ is_labelled (is_beyond counts.propositions) one
  pub mixed : found.mixed ≡ is_mixed one
  pub miscounted : found.miscounted ≡ is_miscounted counts.propositions one

-- what is found of states, under counts
pub record IsFoundOfStates (counts : Counts) (body : List RawState) (found : BodyFound) : Type 0 where
  pub state : found.state ≡ list_any (is_out_of_range counts.states) body
  pub mark : found.mark ≡ list_any (is_marked (nat_le counts.sets)) body
  pub proposition : found.proposition ≡ list_any (is_labelled (is_beyond counts.propositions)) body
  pub mixed : found.mixed ≡ list_any is_mixed body
  pub miscounted : found.miscounted ≡ list_any (is_miscounted counts.propositions) body
