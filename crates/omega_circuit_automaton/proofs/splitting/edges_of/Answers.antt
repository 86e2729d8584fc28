-- the whole cube, and one cube fewer
use Rattle.std.proofs.Common.{◌≡◌, ◌∷◌, [], List, Bool, length, sym, subst, ap, ◌∙◌}
use Rattle.std.specs.Prelude.{replicate}
use Rattle.omega_hoa_syntax.specs.declared.raw_edge.RawEdge.{RawEdge}
use Rattle.omega_circuit_automaton.specs.declared.ternary.Ternary.{Ternary}
use Rattle.omega_circuit_automaton.specs.declared.ternary.Ternary.TheVariants.{Unknown}
use Rattle.omega_circuit_automaton.specs.private.Written.{IsSplitting}
use Rattle.omega_circuit_automaton.proofs.Growing.{adds_both, adds_none, splitting_none}
use Rattle.omega_circuit_automaton.proofs.splitting.edges_of.Goals as goal

pub loop-cube-init : goal.loop-cube-init
loop-cube-init c =
    let circuit = c.args.circuit.now in
    let valuations : List (List Bool) = c.args.exploration.now.valuations.all.items in
    let pending : c.in_ok-splitting.splitting.pending.items ≡ replicate (length circuit.inputs) Unknown ∷ [] =
    c.in_ok-splitting.ensures.pending ∙ ap (λ n. replicate n Unknown ∷ []) (ap length c.inputs.ensures) in
    record {
      splitting = subst (λ (edges : List RawEdge). IsSplitting circuit valuations c.args.latches.now c.in_ok-splitting.splitting.pending.items edges) (sym c.in_ok-splitting.ensures.edges)
          (subst (λ (cubes : List (List Ternary)). IsSplitting circuit valuations c.args.latches.now cubes []) (sym pending) (splitting_none circuit valuations c.args.latches.now));
      adds = adds_none (length circuit.latches) valuations;
    }

pub loop-cube-preserved : goal.loop-cube-preserved
loop-cube-preserved c = record {
  splitting = c.in_ok-step.ensures.splitting;
  adds = adds_both (length c.args.circuit.now.latches) c.args.exploration.now.valuations.all.items c.loop-cube.exploration.valuations.all.items c.step.new.exploration.valuations.all.items
      c.loop-cube.invariant.adds c.in_ok-step.ensures.adds;
}
