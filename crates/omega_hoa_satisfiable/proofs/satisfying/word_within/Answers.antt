-- There is room for the word of each atom and operator.
use Rattle.std.proofs.Common.{ap, arith, length, refl, rules}
use Rattle.omega_hoa_satisfiable.proofs.WordLemmas.{length-below, peak-atom, peak-grown}
use Rattle.omega_hoa_satisfiable.proofs.satisfying.word_within.Goals as goal

pub push-requires : goal.push-requires
push-requires g c = (search rules, peak-atom g.row.MOST _ c.args.nodes.now _ _ _ c.loop-node-test.true c.in-Constant.is refl c.loop-node.invariant.room)

pub push-requires-in-Proposition : goal.push-requires-in-Proposition
push-requires-in-Proposition g c = (search rules, peak-atom g.row.MOST _ c.args.nodes.now _ _ _ c.loop-node-test.true c.in-Proposition.is refl c.loop-node.invariant.room)

pub push-requires-in-Not : goal.push-requires-in-Not
push-requires-in-Not g c =
    let grown = peak-grown g.row.MOST (length c.loop-node.words) c.args.nodes.now _ _ _ c.loop-node-test.true c.in-Not.is c.loop-node.invariant.room in
    (search rules, omega (arith, grown, ap length c.pop-part.ensures.rest, length-below c.loop-node.words))

pub push-requires-in-And : goal.push-requires-in-And
push-requires-in-And g c =
    let grown = peak-grown g.row.MOST (length c.loop-node.words) c.args.nodes.now _ _ _ c.loop-node-test.true c.in-And.is c.loop-node.invariant.room in (
      search rules,
      omega (arith, grown, ap length c.pop-right.ensures.rest, length-below c.loop-node.words, ap length c.pop-left.ensures.rest, length-below c.pop-right.new.self),
    )

pub push-requires-in-Or : goal.push-requires-in-Or
push-requires-in-Or g c =
    let grown = peak-grown g.row.MOST (length c.loop-node.words) c.args.nodes.now _ _ _ c.loop-node-test.true c.in-Or.is c.loop-node.invariant.room in (
      search rules,
      omega (arith, grown, ap length c.pop-right-in-Or.ensures.rest, length-below c.loop-node.words, ap length c.pop-left-in-Or.ensures.rest, length-below c.pop-right-in-Or.new.self),
    )
