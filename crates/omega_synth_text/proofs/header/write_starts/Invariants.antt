-- the starts so far
use Rattle.std.proofs.Common.{◌≡◌, ◌++◌, map, take}
use Rattle.std.specs.List.{flat_map}
use Rattle.omega_canon.specs.HeaderText.{start_line}
use Rattle.omega_synth_text.specs.Winner.{number_of}
use Rattle.omega_synth_text.specs.private.Parts.{reached_by}
use Rattle.omega_synth_text.proofs.header.write_starts.Given as goal

abbrev pub invariant-loop-start : goal.invariant-loop-start
invariant-loop-start l =
    l.out.items ≡ l.fn.out.items
    ++ flat_map start_line (map (λ start. map (number_of (reached_by l.winner)) start) (take l.start-index l.winner.automaton.now.starts))
