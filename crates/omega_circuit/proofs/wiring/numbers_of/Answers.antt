-- One literal more is numbered, or is not defined.
use Rattle.std.proofs.Common.{rules, ◌+◌, List, ℕ, take, sym, subst, arith}
use Rattle.std.proofs.lemmas.List.{take_all}
use Rattle.omega_circuit.specs.private.Numbers.{AreNumbered}
use Rattle.omega_circuit.proofs.Numbering.{numbered_more}
use Rattle.omega_circuit.proofs.wiring.numbers_of.Goals as goal

pub loop-literal-init : goal.loop-literal-init
loop-literal-init c = record { long = search rules; each = λ k within. absurd (omega (arith, within)) }

pub returns-in_default-clause-none : goal.returns-in_default-clause-none
returns-in_default-clause-none c = λ all. c.in_default.ensures.none (all c.loop-literal.literal-index 0 c.loop-literal-test.true)

pub loop-literal-preserved : goal.loop-literal-preserved
loop-literal-preserved c =
    let keys = c.args.variables.now.keys in
    let literals = c.args.literals.now in
    subst (λ (xs : List ℕ). AreNumbered keys (take (c.loop-literal.literal-index + 1) literals) xs) (sym c.in_ok-push.ensures.items)
    (numbered_more keys literals c.loop-literal.numbers.items c.loop-literal.literal-index c.in-Some.number c.loop-literal-test.true c.loop-literal.invariant c.in-Some.ensures.some)

pub returns-clause-some : goal.returns-clause-some
returns-clause-some c =
    subst (λ (xs : List ℕ). AreNumbered c.args.variables.now.keys xs c.loop-literal.numbers.items)
    (take_all c.loop-literal.literal-index c.args.literals.now c.loop-literal-test.false) c.loop-literal.invariant
