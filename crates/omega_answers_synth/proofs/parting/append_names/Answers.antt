-- one name more
use Rattle.std.proofs.Common.{arith}
use Rattle.omega_answers_synth.proofs.Named.{pushed_name}
use Rattle.omega_answers_synth.proofs.parting.append_names.Goals as goal

pub loop-place-preserved : goal.loop-place-preserved
loop-place-preserved c =
    pushed_name c.args.names.now c.args.places.now c.loop-place.place-index c.in_ok-name.name c.args.out.now.items c.loop-place.out.items
    c.push.new.self.items (omega (arith, c.loop-place-test.true)) c.in_ok-name.ensures.name c.loop-place.invariant c.in_ok-push.ensures.items
