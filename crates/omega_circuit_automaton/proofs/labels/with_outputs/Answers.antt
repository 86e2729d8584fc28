-- one output more
use Rattle.std.proofs.Common.{◌<◌, ◌++◌, ◌+◌, ◌&&◌, ℕ, Bool, List, length, map, take, subst, arith}
use Rattle.std.proofs.lemmas.List.{take_all}
use Rattle.omega_circuit_automaton.specs.declared.ternary.Ternary.{Ternary}
use Rattle.omega_circuit_automaton.specs.private.Cuts.{agrees, fits}
use Rattle.omega_circuit_automaton.specs.private.Labels.{IsConjunction}
use Rattle.omega_circuit_automaton.specs.private.Ternary.{known}
use Rattle.omega_circuit_automaton.proofs.LabelLemmas.{outputs_more}
use Rattle.omega_circuit_automaton.proofs.labels.with_outputs.Goals as goal

pub loop-k-preserved : goal.loop-k-preserved
loop-k-preserved c =
    let outputs : List Bool = c.args.outputs.now in
    let k : ℕ = c.loop-k.k in
    let below : k < length outputs = omega arith in
    outputs_more c.args.cube.now outputs k _ c.in_ok-label.label below
    (subst (λ (v : Ternary). IsConjunction (λ letter. fits (c.args.cube.now ++ map known (take k outputs)) letter && agrees v (letter (length c.args.cube.now + k))) c.in_ok-label.label)
    c.of.ensures (c.in_ok-label.ensures (λ letter. fits (c.args.cube.now ++ map known (take k outputs)) letter) c.loop-k.invariant))

pub returns : goal.returns
returns c = subst (λ (xs : List Bool). IsConjunction (λ letter. fits (c.args.cube.now ++ map known xs) letter) c.loop-k.label)
    (take_all c.loop-k.k c.args.outputs.now (omega arith)) c.loop-k.invariant
