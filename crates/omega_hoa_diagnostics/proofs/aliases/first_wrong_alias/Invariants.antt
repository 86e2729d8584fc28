-- `first_wrong_alias`: the first wrong mention is among those that are left, after the names so far.
use Rattle.std.proofs.Common.{◌≡◌, [], drop, map}
use Rattle.omega_hoa_diagnostics.specs.Aliases.{first_wrong_alias}
use Rattle.omega_hoa_diagnostics.specs.private.AliasReading.{as_said, names_in}
use Rattle.omega_hoa_diagnostics.proofs.aliases.first_wrong_alias.Given as goal

abbrev pub invariant-loop-mention : goal.invariant-loop-mention
invariant-loop-mention l =
    first_wrong_alias (names_in l.names.keys) (drop l.mention-index (map as_said l.mentions)) ≡ first_wrong_alias [] (map as_said l.mentions)
