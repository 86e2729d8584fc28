-- The nodes so far lead on, to where another may begin.
use Rattle.std.proofs.Common.{◌-◌, length}
use Rattle.omega_pg.specs.private.game.reader.Pieces.{BeginsNode, LeadsOn}
use Rattle.omega_pg.proofs.game.reader.GameReader.take_nodes.Given as goal

abbrev pub invariant-loop-head : goal.invariant-loop-head
invariant-loop-head l = record {
  leads : LeadsOn l.source l.from l.at l.fn.self l.self;
  begins : BeginsNode l.self.stage;
}

abbrev pub decreases-loop-head : goal.decreases-loop-head
decreases-loop-head l = length l.source - l.at
