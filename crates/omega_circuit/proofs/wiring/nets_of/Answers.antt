-- One gate more has numbered operands, or one has an operand that is not defined.
use Rattle.std.proofs.Common.{◌+◌, ◌*◌, ◌/◌, List, All, take, refl, sym, subst}
use Rattle.std.specs.List.{Contains}
use Rattle.std.proofs.lemmas.List.{get_or_default, take_all}
use Rattle.std.proofs.lemmas.List.Elements.{All-more}
use Rattle.omega_circuit.specs.private.Numbers.{AreNets, IsNumbered}
use Rattle.omega_circuit.specs.declared.gate.Gate.{Gate}
use Rattle.omega_circuit.proofs.Numbering.{nets_more}
use Rattle.omega_circuit.proofs.wiring.nets_of.Goals as goal

pub returns-in_default-clause-none : goal.returns-in_default-clause-none
returns-in_default-clause-none c = λ all. c.in_default.ensures.none (all c.loop-k.k _ c.loop-k-test.true).0

pub returns-in_default-number_of-clause-none : goal.returns-in_default-number_of-clause-none
returns-in_default-number_of-clause-none c = λ all. c.in_default-number_of.ensures.none (all c.loop-k.k _ c.loop-k-test.true).1

pub loop-k-preserved : goal.loop-k-preserved
loop-k-preserved c =
    let keys = c.args.variables.now.keys in
    let gates = c.args.gates.now in
    let net : Gate = record { literal = 2 * (c.args.first + c.loop-k.k); left = c.in-Some.left; right = c.in-Some-number_of.right } in
    record {
      nets = subst (λ (xs : List Gate). AreNets keys c.args.first (take (c.loop-k.k + 1) gates) xs) (sym c.in_ok-push.ensures.items)
          (nets_more keys c.args.first gates c.loop-k.nets.items c.loop-k.k net c.loop-k-test.true c.loop-k.invariant.nets (record {
            numbered = refl;
            left = subst (λ (g : Gate). IsNumbered keys g.left c.in-Some.left) (get_or_default gates c.loop-k.k _ (record { literal = 0; left = 0; right = 0 }) c.loop-k-test.true) c.in-Some.ensures.some;
            right = subst (λ (g : Gate). IsNumbered keys g.right c.in-Some-number_of.right) (get_or_default gates c.loop-k.k _ (record { literal = 0; left = 0; right = 0 }) c.loop-k-test.true) c.in-Some-number_of.ensures.some;
          }));
      defined = All-more (λ (gate : Gate). Contains keys (gate.left / 2) × Contains keys (gate.right / 2)) gates c.loop-k.k _ c.loop-k-test.true c.loop-k.invariant.defined
          (c.in-Some.ensures.there, c.in-Some-number_of.ensures.there);
    }

pub returns-clause-defined : goal.returns-clause-defined
returns-clause-defined c =
    let keys = c.args.variables.now.keys in
    subst (λ (xs : List Gate). All (λ (gate : Gate). Contains keys (gate.left / 2) × Contains keys (gate.right / 2)) xs) (take_all c.loop-k.k c.args.gates.now c.loop-k-test.false)
    c.loop-k.invariant.defined
