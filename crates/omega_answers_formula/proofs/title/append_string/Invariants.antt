-- `append_string`: the bytes before this one are appended.
use Rattle.std.proofs.Common.{◌≡◌, ◌++◌, take}
use Rattle.omega_answers_formula.specs.Title.{string_of}
use Rattle.omega_answers_formula.proofs.title.append_string.Given as goal

abbrev pub invariant-loop-byte : goal.invariant-loop-byte
invariant-loop-byte l = l.out.items ≡ l.fn.out.items ++ string_of (take l.byte-index l.bytes)
