-- the starts so far
use Rattle.std.proofs.Common.{◌≡◌, ◌++◌, map, take}
use Rattle.omega_lang_trim.specs.Written.{start_item}
use Rattle.omega_lang_union.specs.Parts.{moved}
use Rattle.omega_lang_union.proofs.header.push_starts.Given as goal

abbrev pub invariant-loop-start : goal.invariant-loop-start
invariant-loop-start l = l.items.items ≡ l.initial.items.items ++ map start_item (map (moved l.before) (take l.start-index l.starts))
