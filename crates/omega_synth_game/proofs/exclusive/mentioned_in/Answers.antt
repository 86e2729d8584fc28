-- the propositions of one label more
use Rattle.std.proofs.Common.{◌+◌, ◌<◌, ◌∙◌, List, ℕ, Some, length, sym, ap, subst, arith}
use Rattle.std.proofs.lemmas.Option.{slice_get-get_or}
use Rattle.omega_synth_game.specs.private.Exclusive.{AreMentionedBelow, HasLabelAt}
use Rattle.omega_synth_game.proofs.ExclusiveStates.{mentioned_more}
use Rattle.omega_synth_game.proofs.exclusive.mentioned_in.Goals as goal

pub loop-at-preserved : goal.loop-at-preserved
loop-at-preserved c =
    let state = c.args.state.now in
    let at : ℕ = c.loop-at.at in
    let below : at < length state.edges = omega (arith, c.loop-at-test.true, c.len-at-end.ensures) in
    let has : HasLabelAt state at c.in-Some.label.now = record {
      edge = c.edge-edge.result;
      there = slice_get-get_or state.edges at c.edge-edge.result below ∙ ap Some (sym c.edge-edge.ensures);
      labelled = sym c.in-Some.ensures;
    } in (
      subst (λ (mentioned : List ℕ). AreMentionedBelow mentioned state (at + 1)) (sym c.in_ok-add_inputs_of-in-Some.ensures.inputs)
          (mentioned_more c.loop-at.mentioned state at c.in-Some.label.now has c.loop-at.invariant.0),
      omega (arith, c.if-len-gt-MOST_MENTIONED.false, c.len.ensures),
    )
