-- the names so far
use Rattle.std.proofs.Common.{◌≡◌, take}
use Rattle.omega_lang_word_text.specs.private.Names.{names_in}
use Rattle.omega_lang_word_text.proofs.translating.copy_of_names.Given as goal

abbrev pub invariant-loop-name : goal.invariant-loop-name
invariant-loop-name l = l.same.items ≡ names_in (take l.name-index l.names)
