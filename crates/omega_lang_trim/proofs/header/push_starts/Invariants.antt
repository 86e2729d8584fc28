-- the starts so far that stay
use Rattle.std.proofs.Common.{◌≡◌, ◌++◌, map, take}
use Rattle.omega_lang_trim.specs.Written.{start_item}
use Rattle.omega_lang_trim.specs.Trimmed.{starts_kept}
use Rattle.omega_lang_trim.proofs.header.push_starts.Given as goal

abbrev pub invariant-loop-start : goal.invariant-loop-start
invariant-loop-start l = l.items.items ≡ l.initial.items.items ++ map start_item (starts_kept l.kept.keys (take l.start-index l.automaton.starts))
