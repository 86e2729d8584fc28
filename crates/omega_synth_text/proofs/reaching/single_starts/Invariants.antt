-- the starts so far
use Rattle.std.proofs.Common.{◌≡◌, ◌<◌, ℕ, [], ◌∷◌, All, map, take}
use Rattle.omega_synth_text.proofs.reaching.single_starts.Given as goal

abbrev pub invariant-loop-start : goal.invariant-loop-start
invariant-loop-start l =
    (take l.start-index l.automaton.starts ≡ map (λ (state : ℕ). state ∷ []) l.starts.items)
    × All (λ state. state < l.automaton.states) l.starts.items
