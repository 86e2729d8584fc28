-- What waits and what is written stay the text.
use Rattle.std.proofs.Common.{◌≡◌, List, ◌++◌, length}
use Rattle.omega_hoa_expression.specs.Writing.{Text}
use Rattle.omega_hoa_expression.specs.Texts.{before_text}
use Rattle.omega_hoa_expression.proofs.backward.Backward.turn.Given as goal

abbrev pub invariant-loop-sign : goal.invariant-loop-sign
invariant-loop-sign l = (texts : List Text) → before_text l.self.waiting texts ++ l.self.bytes ≡ before_text l.fn.self.waiting texts ++ l.fn.self.bytes

abbrev pub decreases-loop-sign : goal.decreases-loop-sign
decreases-loop-sign l = length l.self.waiting
