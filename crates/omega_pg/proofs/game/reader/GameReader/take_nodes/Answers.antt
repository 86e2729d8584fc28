-- One node more leads on, in part or whole.
use Rattle.std.proofs.Common.{◌+◌, subst, sym}
use Rattle.omega_pg.specs.declared.game.stage.GameStage.TheVariants.{Ended}
use Rattle.omega_pg.specs.private.game.reader.Automaton.{to_stage}
use Rattle.omega_pg.specs.private.game.reader.Pieces.{LeadsOn}
use Rattle.omega_pg.proofs.games.Pieces.{head_leads, leads_on, semicolon_leads}
use Rattle.omega_pg.proofs.game.reader.GameReader.take_nodes.Goals as goal

pub returns-then-not-has_semicolon-clause-leads : goal.returns-then-not-has_semicolon-clause-leads
returns-then-not-has_semicolon-clause-leads c =
    leads_on _ _ _ _ _ _ _ c.loop-head.invariant.leads
    (leads_on _ _ _ _ _ _ _
    (head_leads _ _ _ _ _ _ _ _ _ c.loop-head.invariant.begins c.in_ok-begin_node.ensures.begun c.in-Some.ensures.piece)
    c.in_ok-at.ensures.leads)

pub loop-head-preserved : goal.loop-head-preserved
loop-head-preserved c =
    let listed = c.in_ok-at.ensures.leads in
    record {
      leads = subst (λ state. LeadsOn c.args.source.now c.args.from (c.in_ok-at.at + 1) c.args.self.now (to_stage Ended state)) (sym c.self.view_is)
          (leads_on _ _ _ _ _ _ _ c.loop-head.invariant.leads
          (leads_on _ _ _ _ _ _ _
          (head_leads _ _ _ _ _ _ _ _ _ c.loop-head.invariant.begins c.in_ok-begin_node.ensures.begun c.in-Some.ensures.piece)
          (leads_on _ _ _ _ _ _ _ listed
          (semicolon_leads _ _ _ c.take_successors.new.self c.in_ok-at.ensures.listed listed.ready
          (c.has_semicolon.ensures c.if-not-has_semicolon.false)))));
      begins = tt;
    }
