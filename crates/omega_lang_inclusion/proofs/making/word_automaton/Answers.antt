-- too many letters or names, or else the automaton of a word that fits
use Rattle.std.proofs.Common.{refl}
use Rattle.omega_lang_inclusion.proofs.making.word_automaton.Goals as goal

pub returns-then-is_oversized-clause-refused : goal.returns-then-is_oversized-clause-refused
returns-then-is_oversized-clause-refused c = (refl, c.is_oversized.ensures.oversized c.if-is_oversized.true)
