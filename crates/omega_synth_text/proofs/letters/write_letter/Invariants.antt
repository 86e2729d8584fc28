-- the literals so far
use Rattle.std.proofs.Common.{◌≡◌, ◌++◌, take}
use Rattle.omega_graph.specs.Graph.{listed}
use Rattle.omega_synth_text.specs.private.Texts.{literals_after}
use Rattle.omega_synth_text.proofs.letters.write_letter.Given as goal

abbrev pub invariant-loop-input : goal.invariant-loop-input
invariant-loop-input l = l.out.items ≡ l.initial.out.items ++ literals_after (listed l.held) (take l.input-index l.others)
