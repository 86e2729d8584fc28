-- The tokens that were read are those of a whole segment.
use Rattle.omega_hoa.proofs.Wholly.{front_read}
use Rattle.omega_hoa.proofs.segment.read_front.Goals as goal

pub returns-in-Ok-automaton_of : goal.returns-in-Ok-automaton_of
returns-in-Ok-automaton_of c =
    front_read c.args.bytes.now c.new-tokens.result.1 c.place-end.result c.read_raw.new.source.1 c.new-tokens.result.0 c.read_raw.new.source.0 c.in-Ok.raw c.in-Ok-automaton_of.automaton
    c.new-tokens.ensures c.in-Ok.ensures.ok c.in-Ok.ensures.length c.place-end.ensures c.in-Ok-automaton_of.ensures.ok
