-- One successor more leads on.
use Rattle.omega_pg.proofs.games.Pieces.{leads_on, successor_leads}
use Rattle.omega_pg.specs.private.game.reader.Reader.{game_reader_state}
use Rattle.omega_pg.proofs.game.reader.GameReader.take_successors.Goals as goal

pub loop-successor-preserved : goal.loop-successor-preserved
loop-successor-preserved c =
    let so_far = c.loop-successor.invariant in
    record {
      leads = leads_on _ _ _ _ _ _ _ so_far.leads
          (successor_leads _ _ _ (game_reader_state c.loop-successor.self-inside) c.add_successor.new.self _ so_far.listed so_far.leads.ready
          c.in_ok-add_successor.ensures.ok c.in-Some.ensures.piece);
      listed = so_far.listed;
    }
