-- one block more
use Rattle.std.proofs.Common.{◌≡◌, true, length, below_more, arith, rules}
use Rattle.omega_synth_game.specs.private.Exclusive.{AreApartIn}
use Rattle.omega_synth_game.proofs.ExclusiveStates.{exclusive}
use Rattle.omega_synth_game.proofs.exclusive.is_apart.Goals as goal

pub loop-block-preserved : goal.loop-block-preserved
loop-block-preserved c =
    let seen : c.in_ok-is_apart_in.field-0 ≡ true = search rules in
    below_more (λ block. AreApartIn c.args.mentioned.now block c.args.state.now (length c.args.state.now.edges)) c.loop-block.block c.loop-block.invariant
    (c.in_ok-is_apart_in.ensures.apart seen)

pub returns-clause-apart : goal.returns-clause-apart
returns-clause-apart c =
    λ _. exclusive c.args.mentioned.now c.args.state.now c.requires.mentioned c.requires.plain
    (λ block below. c.loop-block.invariant block (omega (arith, below, c.loop-block-test.false, c.blocks-block-end.ensures)))
