-- `lent_words`: the texts of the words before this one are lent.
use Rattle.std.proofs.Common.{◌≡◌, map, string_bytes, take}
use Rattle.omega_cli.proofs.words.lent_words.Given as goal

abbrev pub invariant-loop-word : goal.invariant-loop-word
invariant-loop-word l = map (λ word. word.now) l.lent.items ≡ map string_bytes (take l.word-index l.words)
