-- one label more
use Rattle.std.proofs.Common.{◌≡◌, ◌<◌, ◌∙◌, List, ℕ, Some, length, sym, ap, subst, arith}
use Rattle.std.proofs.lemmas.Option.{slice_get-get_or}
use Rattle.omega_synth_game.specs.private.Exclusive.{AreApartIn, HasLabelAt}
use Rattle.omega_synth_game.proofs.ExclusiveStates.{apart_more, covered_more}
use Rattle.omega_synth_game.proofs.exclusive.is_apart_in.Goals as goal

pub loop-at-preserved : goal.loop-at-preserved
loop-at-preserved c =
    let state = c.args.state.now in
    let inputs : List ℕ = c.args.mentioned.now in
    let block : ℕ = c.args.block in
    let at : ℕ = c.loop-at.at in
    let label = c.in-Some.label.now in
    let below : at < length state.edges = omega (arith, c.loop-at-test.true, c.len-at-end.ensures) in
    let has : HasLabelAt state at label = record {
      edge = c.edge-edge.result;
      there = slice_get-get_or state.edges at c.edge-edge.result below ∙ ap Some (sym c.edge-edge.ensures);
      labelled = sym c.in-Some.ensures;
    } in (
      apart_more inputs block state at label has c.in_ok-word-in-Some.word c.loop-at.seen c.in_ok-word-in-Some.ensures.word c.if-word-seen-ne0.false c.loop-at.invariant.1 c.loop-at.invariant.0,
      covered_more inputs block state at label has c.in_ok-word-in-Some.word c.loop-at.seen c.in_ok-word-in-Some.ensures.word c.loop-at.invariant.1,
    )

pub returns-clause-apart : goal.returns-clause-apart
returns-clause-apart c =
    let all : c.loop-at.at ≡ length c.args.state.now.edges = omega (arith, c.loop-at-test.false, c.loop-at.auto.at-end, c.len-at-end.ensures) in
    λ _. subst (λ (end : ℕ). AreApartIn c.args.mentioned.now c.args.block c.args.state.now end) all c.loop-at.invariant.0
