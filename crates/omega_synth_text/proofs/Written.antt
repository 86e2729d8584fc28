-- States and edges that are written one by one: what is written, and what is still owed.
use Rattle.std.proofs.Common.{◌≡◌, ℕ, zero, suc, ◌+◌, ◌<◌, ◌≤◌, Bool, true, false, List, [], ◌∷◌, ◌++◌, length, get_or, drop, ap, sym, ◌∙◌, append_assoc, arith, add-one, drop-cons, length-append}
use Rattle.std.specs.List.{flat_map}
use Rattle.omega_hoa_automaton.specs.Automaton.{edges_from}
use Rattle.omega_hoa_automaton.specs.declared.edge.Edge.{Edge}
use Rattle.omega_hoa_automaton.specs.declared.state.State.{State}
use Rattle.omega_canon.specs.BodyText.{edge_line, state_text}
use Rattle.omega_lang_runs.proofs.Edges.{length-edges_from}
use Rattle.omega_synth_text.specs.Winner.{kept_edges, kept_states}

module _ (kept : ℕ → Bool) (edge_of : ℕ → Edge → Edge) (edges : List Edge) (index number : ℕ) (edge : Edge) where
  split : index < length edges → edge ≡ get_or edges index edge → drop index edges ≡ edge ∷ drop (suc index) edges
  split below here = drop-cons edges index edge below ∙ ap (λ (x : Edge). x ∷ drop (suc index) edges) (sym here)

  -- an edge that is kept is written
  pub edge_written : (next : ℕ) (before after all : List ℕ) → next ≡ number + 1 → index < length edges → edge ≡ get_or edges index edge → kept number ≡ true
      → before ++ flat_map edge_line (kept_edges kept edge_of index number (drop index edges)) ≡ all
      → after ≡ before ++ edge_line (edge_of index edge)
      → after ++ flat_map edge_line (kept_edges kept edge_of (index + 1) next (drop (index + 1) edges)) ≡ all
  edge_written next before after all follows below here kept_is owed is =
      let rest : List ℕ = flat_map edge_line (kept_edges kept edge_of (suc index) (suc number) (drop (suc index) edges)) in
      let line : List ℕ = edge_line (edge_of index edge) in
      let whole : before ++ (line ++ rest) ≡ all = rw kept_is at (rw (split below here) at owed) in
      rw (follows, add-one, add-one) (ap (λ (x : List ℕ). x ++ rest) is ∙ append_assoc before line rest ∙ whole)

  -- one that is not kept is passed over
  pub edge_passed : (next : ℕ) (before all : List ℕ) → next ≡ number + 1 → index < length edges → edge ≡ get_or edges index edge → kept number ≡ false
      → before ++ flat_map edge_line (kept_edges kept edge_of index number (drop index edges)) ≡ all
      → before ++ flat_map edge_line (kept_edges kept edge_of (index + 1) next (drop (index + 1) edges)) ≡ all
  edge_passed next before all follows below here left owed =
      let whole : before ++ flat_map edge_line (kept_edges kept edge_of (suc index) (suc number) (drop (suc index) edges)) ≡ all =
      rw left at (rw (split below here) at owed) in
      rw (follows, add-one, add-one) whole

module _ (state_of : ℕ → State → State) (reached : ℕ → Bool) (states : List State) (index number : ℕ) (state : State) where
  parted : index < length states → state ≡ get_or states index state → drop index states ≡ state ∷ drop (suc index) states
  parted below here = drop-cons states index state below ∙ ap (λ (x : State). x ∷ drop (suc index) states) (sym here)

  -- a state that is reached is written
  pub state_written : (next : ℕ) (before after all : List ℕ) → next ≡ number + length state.edges → index < length states → state ≡ get_or states index state → reached state.number ≡ true
      → before ++ flat_map state_text (kept_states state_of reached number (drop index states)) ≡ all
      → after ≡ before ++ state_text (state_of number state)
      → after ++ flat_map state_text (kept_states state_of reached next (drop (index + 1) states)) ≡ all
  state_written next before after all follows below here kept_is owed is =
      let rest : List ℕ = flat_map state_text (kept_states state_of reached (number + length state.edges) (drop (suc index) states)) in
      let text : List ℕ = state_text (state_of number state) in
      let whole : before ++ (text ++ rest) ≡ all = rw kept_is at (rw (parted below here) at owed) in
      rw (follows, add-one) (ap (λ (x : List ℕ). x ++ rest) is ∙ append_assoc before text rest ∙ whole)

  -- one that is not is passed over
  pub state_passed : (next : ℕ) (before all : List ℕ) → next ≡ number + length state.edges → index < length states → state ≡ get_or states index state → reached state.number ≡ false
      → before ++ flat_map state_text (kept_states state_of reached number (drop index states)) ≡ all
      → before ++ flat_map state_text (kept_states state_of reached next (drop (index + 1) states)) ≡ all
  state_passed next before all follows below here left owed =
      let whole : before ++ flat_map state_text (kept_states state_of reached (number + length state.edges) (drop (suc index) states)) ≡ all =
      rw left at (rw (parted below here) at owed) in
      rw (follows, add-one) whole

  -- the edges of the states that are left
  pub edges_left : (next all : ℕ) → next ≡ number + length state.edges → index < length states → state ≡ get_or states index state
      → number + length (flat_map edges_from (drop index states)) ≡ all
      → next + length (flat_map edges_from (drop (index + 1) states)) ≡ all
  edges_left next all follows below here left =
      let e : number + length (edges_from state ++ flat_map edges_from (drop (suc index) states)) ≡ all = rw (parted below here) at left in
      rw add-one (omega (arith, e, follows, length-append (edges_from state) (flat_map edges_from (drop (suc index) states)), length-edges_from state))

  -- those of the state are among them
  pub edges_here : (all : ℕ) → index < length states → state ≡ get_or states index state
      → number + length (flat_map edges_from (drop index states)) ≡ all → number + length state.edges ≤ all
  edges_here all below here left =
      let e : number + length (edges_from state ++ flat_map edges_from (drop (suc index) states)) ≡ all = rw (parted below here) at left in
      omega (arith, e, length-append (edges_from state) (flat_map edges_from (drop (suc index) states)), length-edges_from state)

-- the edge at an index, whatever stands for none
pub same_edge : (edges : List Edge) (index : ℕ) (none edge : Edge) → index < length edges → edge ≡ get_or edges index none → edge ≡ get_or edges index edge
same_edge [] index none edge below here = absurd (omega arith)
same_edge (x ∷ xs) zero none edge below here = here
same_edge (x ∷ xs) (suc index) none edge below here = same_edge xs index none edge (omega arith) here
