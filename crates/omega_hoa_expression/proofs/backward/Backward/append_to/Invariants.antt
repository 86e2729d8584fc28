-- What waits and what is written stay the text.
use Rattle.std.proofs.Common.{◌≡◌, [], ◌++◌, length}
use Rattle.omega_hoa_expression.specs.Texts.{before_text}
use Rattle.omega_hoa_expression.proofs.backward.Backward.append_to.Given as goal

abbrev pub invariant-loop-sign : goal.invariant-loop-sign
invariant-loop-sign l = (l.out.items ≡ l.fn.out.items) × (before_text l.self.waiting [] ++ l.self.bytes ≡ before_text l.fn.self.waiting [] ++ l.fn.self.bytes)

abbrev pub decreases-loop-sign : goal.decreases-loop-sign
decreases-loop-sign l = length l.self.waiting
