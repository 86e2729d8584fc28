-- a number that is not usable changes nothing, and a usable one is linked
use Rattle.std.proofs.Common.{◌≡◌, ◌≤◌, true, false, arith}
use Rattle.omega_empty.specs.EmptinessGame.{is_usable}
use Rattle.omega_empty.proofs.making.Linking.{passed, taken}
use Rattle.omega_empty.proofs.nodes.add_linked.Goals as goal

pub loop-number-preserved-then-not-here : goal.loop-number-preserved-then-not-here
loop-number-preserved-then-not-here c =
    let ordered : c.args.range.first ≤ c.loop-number.number = omega arith in
    let unusable : is_usable c.args.usable.now c.loop-number.number ≡ false = cc in
    passed c.args.usable.now c.args.range.first c.args.id c.args.first c.loop-number.number c.loop-number.builder c.args.builder.now ordered
    c.loop-number.some unusable c.loop-number.invariant.0 c.loop-number.invariant.1

pub loop-number-preserved : goal.loop-number-preserved
loop-number-preserved c =
    let ordered : c.args.range.first ≤ c.loop-number.number = omega arith in
    let usable : is_usable c.args.usable.now c.loop-number.number ≡ true = cc in
    taken c.args.usable.now c.args.range.first c.args.id c.args.first c.loop-number.number c.loop-number.builder c.args.builder.now ordered
    c.loop-number.some c.link.new.builder usable c.loop-number.invariant.0 c.loop-number.invariant.1 c.in_ok-link.ensures.ok
