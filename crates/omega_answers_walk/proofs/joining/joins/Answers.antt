-- `joins`: the place before is a node, an edge is missing, or one more place is joined.
use Rattle.std.proofs.Common.{arith, sym, ◌∙◌}
use Rattle.std.proofs.lemmas.Bool.{false≢true}
use Rattle.omega_answers_walk.proofs.Joined.{joined_there, node_before, one_joined}
use Rattle.omega_answers_walk.proofs.joining.joins.Goals as goal

pub has_edge-requires : goal.has_edge-requires
has_edge-requires c =
    node_before c.args.game.now c.args.from c.args.places.now c.loop-place.place-index (omega arith) c.loop-place.at c.loop-place.invariant

pub returns-then-not-has_edge : goal.returns-then-not-has_edge
returns-then-not-has_edge c = (
  (λ holds. absurd (false≢true holds)),
  λ path.
      let edge = joined_there c.args.game.now c.args.from c.args.places.now c.loop-place.place-index (omega arith) c.loop-place.at c.loop-place.invariant.1 path in
      absurd (false≢true (sym c.if-not-has_edge.true ∙ c.has_edge.ensures.1 edge)),
)

pub loop-place-preserved : goal.loop-place-preserved
loop-place-preserved c =
    one_joined c.args.game.now c.args.from c.args.places.now c.loop-place.place-index (omega arith) c.loop-place.at c.loop-place.invariant
    (c.has_edge.ensures.0 c.if-not-has_edge.false) (c.requires.places c.loop-place.place-index 0 (omega arith))
