-- `listed_ids`: the identifiers to list, none where they are 0 to n - 1.
use Rattle.std.proofs.Common.{length, ap, refl}
use Rattle.omega_game_values.proofs.building.Resolutions.{dense_ids, listed_more, listed_all}
use Rattle.omega_game_values.proofs.identifiers.listed_ids.Goals as goal

pub returns-then-ids : goal.returns-then-ids
returns-then-ids c = dense_ids c.args.ids.now c.new.result.keys c.requires.some c.requires.rising c.if-ids.true (ap length c.new.ensures.empty)

pub loop-id-preserved : goal.loop-id-preserved
loop-id-preserved c = listed_more c.args.ids.now c.loop-id.listed.keys c.insert.new.self.keys c.loop-id.id-index _ c.requires.rising c.loop-id-test.true refl c.loop-id.invariant c.in_ok-insert.ensures.keys

pub returns : goal.returns
returns c = listed_all c.args.ids.now c.loop-id.listed.keys c.loop-id.id-index c.requires.some c.loop-id-test.false c.loop-id.invariant
