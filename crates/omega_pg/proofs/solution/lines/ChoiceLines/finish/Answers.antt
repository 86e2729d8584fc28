-- `ChoiceLines::finish`: judged lines come to a solution or to a reason for `BadSolution`.
use Rattle.std.proofs.Common.{◌-◌, ap, refl, sym, ◌∙◌}
use Rattle.omega_game_values.specs.Game.{identifier_at}
use Rattle.omega_pg.proofs.solutions.Outcomes.{other_count, other_number, outcome_kept, wrong_line}
use Rattle.omega_pg.proofs.solution.lines.ChoiceLines.finish.Goals as goal
use Rattle.omega_pg.proofs.solution.lines.ChoiceLines.finish.Goals.{then-not-self-via-then-not-self, then-not-self-via-else-not-self+then-len-nodes, then-not-self-via-else-not-self+else-len-nodes+then-id-greatest}

pub returns-then-not-self : goal.returns-then-not-self
returns-then-not-self c =
    let nodes = c.args.game.now in
    record {
      judged = λ lines judged. (
        refl,
        elim c.then-not-self.branch [
          | then-not-self-via-then-not-self w ↦ wrong_line nodes c.args.greatest lines _ _ _ _ w.if-not-self.true judged
          | then-not-self-via-else-not-self+then-len-nodes w ↦ other_count nodes c.args.greatest lines _ _ _ _ w.if-not-self.false
              (λ e. w.if-len-nodes.true (w.len.ensures ∙ c.args.self.winners.ok.0 ∙ e ∙ sym c.len-nodes.ensures.count)) judged
          | then-not-self-via-else-not-self+else-len-nodes+then-id-greatest w ↦ other_number nodes c.args.greatest lines
              (λ e. w.if-id-greatest.true (w.id.ensures ∙ ap (λ n. identifier_at nodes (n - 1)) c.len-nodes.ensures.count ∙ e))
        ],
      );
    }

pub returns : goal.returns
returns c =
    let nodes = c.args.game.now in
    record {
      judged = λ lines judged.
          outcome_kept nodes c.args.greatest lines _ _ _ _ _ _ _ c.if-not-self.false
          (sym c.args.self.winners.ok.0 ∙ sym c.len.ensures ∙ c.if-len-nodes.false ∙ c.len-nodes.ensures.count)
          (sym c.if-id-greatest.false ∙ c.id.ensures ∙ ap (λ n. identifier_at nodes (n - 1)) c.len-nodes.ensures.count)
          c.from_vec.ensures c.from_vec-2.ensures c.from_vec-3.ensures judged;
    }
