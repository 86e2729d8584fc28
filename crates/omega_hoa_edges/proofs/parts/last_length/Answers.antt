-- The last label is whole once no label is wanted.
use Rattle.std.proofs.Common.{◌≡◌, ◌+◌, ◌-◌, ◌≤◌, ℕ, arith, subst, sym}
use Rattle.omega_hoa_edges.specs.private.Stacked.{AreWanted}
use Rattle.omega_hoa_edges.proofs.Stacks.{begun, few_parts, wanted_gone, wanted_none, wanted_on}
use Rattle.omega_hoa_edges.proofs.parts.last_length.Goals as goal

pub loop-wanted-init : goal.loop-wanted-init
loop-wanted-init c = (begun c.args.nodes.now, omega arith, omega arith, λ e. omega (arith, e))

pub returns-in_default-clause-length : goal.returns-in_default-clause-length
returns-in_default-clause-length c =
    wanted_gone c.args.nodes.now c.loop-wanted.left.now c.loop-wanted.wanted c.loop-wanted-test.true c.in_default.ensures.cases c.loop-wanted.invariant.0

pub returns-clause-length : goal.returns-clause-length
returns-clause-length c =
    let none : c.loop-wanted.wanted ≡ 0 = omega (arith, c.loop-wanted-test.false) in
    wanted_none c.args.nodes.now c.loop-wanted.left.now
    (subst (λ (count : ℕ). AreWanted c.args.nodes.now c.loop-wanted.left.now count) none c.loop-wanted.invariant.0)

pub loop-wanted-preserved : goal.loop-wanted-preserved
loop-wanted-preserved c =
    let cases = c.in-Some.ensures.cases in
    let few : c.parts_of.result ≤ 2 = subst (λ (count : ℕ). count ≤ 2) (sym c.parts_of.ensures) (few_parts c.in-Some.node.now) in
    let wanted : AreWanted c.args.nodes.now c.in-Some.before.now (c.loop-wanted.wanted - 1 + c.parts_of.result) =
    subst (λ (count : ℕ). AreWanted c.args.nodes.now c.in-Some.before.now (c.loop-wanted.wanted - 1 + count)) (sym c.parts_of.ensures)
    (wanted_on c.args.nodes.now c.loop-wanted.left.now c.in-Some.before.now c.in-Some.node.now c.loop-wanted.wanted c.loop-wanted-test.true cases.0
    c.loop-wanted.invariant.0) in (
      wanted,
      omega (arith, c.loop-wanted.invariant.1, cases.1, few, c.loop-wanted-test.true),
      omega (arith, c.loop-wanted.invariant.2, cases.1),
      λ none. omega (arith, c.loop-wanted.invariant.2, cases.1),
    )
