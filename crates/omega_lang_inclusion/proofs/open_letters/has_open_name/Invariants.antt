-- no name so far is open
use Rattle.omega_lang_inclusion.specs.private.Opened.{IsOpenName}
use Rattle.omega_lang_inclusion.proofs.Below.{NoneBelow}
use Rattle.omega_lang_inclusion.proofs.open_letters.has_open_name.Given as goal

abbrev pub invariant-loop-name : goal.invariant-loop-name
invariant-loop-name l = NoneBelow (IsOpenName l.one) l.names l.name-index
