-- what is known of a latch
use Rattle.std.proofs.Common.{sym, subst}
use Rattle.omega_circuit_automaton.specs.declared.known.Known.{Known}
use Rattle.omega_circuit_automaton.specs.private.Lanes.{Allows}
use Rattle.omega_circuit_automaton.proofs.lanes.put_latch.Goals as goal

pub returns : goal.returns
returns c = λ other round among sound.
    c.put.ensures other round
    (c.with-value.ensures other (round c.args.variable) among
    (subst (λ (known : Known). Allows known other (round c.args.variable)) (sym c.known_of.ensures) (sound c.args.variable)))
    sound
