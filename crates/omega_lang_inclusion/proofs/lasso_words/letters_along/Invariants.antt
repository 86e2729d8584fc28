-- the letters of the edges before
use Rattle.std.proofs.Common.{◌≡◌, map, take}
use Rattle.omega_lang_inclusion.specs.private.LassoWords.{edge_conjuncts}
use Rattle.omega_lang_inclusion.proofs.lasso_words.letters_along.Given as goal

abbrev pub invariant-loop-number : goal.invariant-loop-number
invariant-loop-number l = l.letters.items ≡ map (edge_conjuncts l.automaton) (take l.number-index l.numbers)
