-- the place of one that the edge may be joined to
use Rattle.std.proofs.Common.{arith}
use Rattle.std.proofs.lemmas.List.Elements.{at_read}
use Rattle.omega_ltl_translation.specs.private.Joining.{IsJoinable}
use Rattle.omega_ltl_translation.proofs.joining.place_of.Goals as goal

pub returns-then-is_joinable : goal.returns-then-is_joinable
returns-then-is_joinable c = λ below. at_read c.args.joined.now (IsJoinable c.args.edge) c.loop-at.at c.index-joined-at.result below c.index-joined-at.is (c.is_joinable.ensures c.if-is_joinable.true)

pub returns : goal.returns
returns c = λ below. absurd (omega arith)
