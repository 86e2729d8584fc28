-- the words of the set that there is room for, and then empty ones
use Rattle.std.proofs.Common.{◌≡◌, ◌++◌, take, replicate}
use Rattle.omega_ltl_determinization.proofs.letter_sets.LetterSets.push.Given as goal

abbrev pub invariant-loop-index : goal.invariant-loop-index
invariant-loop-index l =
    (l.self-inside.words.items ≡ (l.fn.self.words ++ take l.count l.set) ++ replicate l._index 0)
    × (l.self-inside.width ≡ l.fn.self.width)
