-- The uses of each kind, in turn.
use Rattle.std.proofs.Common.{◌/◌, List, All, Vec, subst, sym, ◌∙◌}
use Rattle.std.specs.Global.{Global}
use Rattle.std.specs.List.{Contains}
use Rattle.std.proofs.lemmas.Bool.{false≢true}
use Rattle.std.proofs.lemmas.Option.{MatchOption-at_none, MatchOption-at_some}
use Rattle.omega_circuit.specs.Faults.{value_of}
use Rattle.omega_circuit.specs.private.Wires.{AreReads}
use Rattle.omega_circuit.specs.declared.gate.Gate.{Gate}
use Rattle.omega_circuit.specs.declared.wiring.Reads.{Reads}
use Rattle.omega_circuit.proofs.Uses.{uses_gates, uses_of_reads, uses_properties}
use Rattle.omega_circuit.proofs.judging.wires_of.Goals as goal

pub returns-then-not-are_properties_defined-clause-fault : goal.returns-then-not-are_properties_defined-clause-fault
returns-then-not-are_properties_defined-clause-fault c = λ uses. false≢true (sym c.if-not-are_properties_defined.true
    ∙ c.are_properties_defined.ensures.1 (uses_properties c.args.parts.now c.args.variables.now.keys c.requires.variables uses))

pub returns-in_default-nets-clause-fault : goal.returns-in_default-nets-clause-fault
returns-in_default-nets-clause-fault c = λ uses.
    let keys = c.args.variables.now.keys in
    MatchOption-at_none (All (λ (gate : Gate). Contains keys (gate.left / 2) × Contains keys (gate.right / 2)) c.as_slice.result.now → ⊥)
    (λ (gates : Vec Gate Global). Unit {0}) c.in_default-nets.is c.in_ok-nets.ensures.none
    (subst (λ (xs : List Gate). All (λ (gate : Gate). Contains keys (gate.left / 2) × Contains keys (gate.right / 2)) xs) (sym c.as_slice.ensures)
    (uses_gates c.args.parts.now keys c.requires.variables uses))

pub returns-clause-uses : goal.returns-clause-uses
returns-clause-uses c =
    let keys = c.args.variables.now.keys in
    let parts = c.args.parts.now in
    uses_of_reads parts keys c.requires.variables c.in-Some.reads
    (MatchOption-at_some (Unit {0}) (λ (reads : Reads). AreReads (value_of parts) reads) c.in-Some.reads c.in-Some.is c.in_ok-reads.ensures.reads)
    (c.are_properties_defined.ensures.0 c.if-not-are_properties_defined.false)
    (subst (λ (xs : List Gate). All (λ (gate : Gate). Contains keys (gate.left / 2) × Contains keys (gate.right / 2)) xs) c.as_slice.ensures
    (MatchOption-at_some (Unit {0}) (λ (gates : Vec Gate Global). All (λ (gate : Gate). Contains keys (gate.left / 2) × Contains keys (gate.right / 2)) c.as_slice.result.now)
    c.in-Some-nets.gates c.in-Some-nets.is c.in_ok-nets.ensures.defined))
