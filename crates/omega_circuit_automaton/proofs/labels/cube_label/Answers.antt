-- one literal more
use Rattle.std.proofs.Common.{◌<◌, ℕ, List, length, take, subst, arith}
use Rattle.std.proofs.lemmas.List.{take_all}
use Rattle.omega_circuit_automaton.specs.declared.ternary.Ternary.{Ternary}
use Rattle.omega_circuit_automaton.specs.private.Cuts.{fits}
use Rattle.omega_circuit_automaton.specs.private.Labels.{IsConjunction}
use Rattle.omega_circuit_automaton.proofs.LabelLemmas.{front_more}
use Rattle.omega_circuit_automaton.proofs.labels.cube_label.Goals as goal

pub loop-k-preserved : goal.loop-k-preserved
loop-k-preserved c =
    let cube : List Ternary = c.args.cube.now in
    let k : ℕ = c.loop-k.k in
    let below : k < length cube = omega arith in
    front_more cube k _ c.in_ok-label.label below (c.in_ok-label.ensures (λ letter. fits (take k cube) letter) c.loop-k.invariant)

pub returns : goal.returns
returns c = subst (λ (xs : List Ternary). IsConjunction (λ letter. fits xs letter) c.loop-k.label) (take_all c.loop-k.k c.args.cube.now (omega arith)) c.loop-k.invariant
