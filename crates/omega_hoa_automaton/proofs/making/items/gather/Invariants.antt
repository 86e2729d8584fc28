-- What holds in the loop of `gather`: the items so far are gathered.
use Rattle.std.specs.List.{filter_map}
use Rattle.omega_hoa_automaton.specs.Items.{alias_in}
use Rattle.omega_hoa_automaton.specs.private.layout.Definitions.{AreNoted}
use Rattle.omega_hoa_automaton.specs.private.layout.Gathered.{HasGathered}
use Rattle.omega_hoa_automaton.proofs.making.items.gather.Given as goal

abbrev pub invariant-loop-item : goal.invariant-loop-item
invariant-loop-item l = HasGathered l.yielded l.gathered × AreNoted (filter_map alias_in l.yielded) l.definitions
