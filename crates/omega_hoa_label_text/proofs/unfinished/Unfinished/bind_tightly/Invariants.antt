-- The part stays one after which each `!` is put.
use Rattle.std.proofs.Common.{List, length}
use Rattle.omega_hoa_expression.specs.Symbols.{unary}
use Rattle.omega_hoa_label_text.specs.private.Building.{HasIn}
use Rattle.omega_text.specs.Lexeme.{Lexeme}
use Rattle.omega_text.specs.declared.hoa.kind.HoaKind.{HoaKind}
use Rattle.omega_hoa_label_text.proofs.unfinished.Unfinished.bind_tightly.Given as goal

abbrev pub invariant-loop-pending : goal.invariant-loop-pending
invariant-loop-pending l = (whole : List (Lexeme HoaKind)) (left : List (Lexeme HoaKind)) → HasIn unary whole left l.fn.self → HasIn unary whole left l.self

abbrev pub decreases-loop-pending : goal.decreases-loop-pending
decreases-loop-pending l = length l.self.pending
