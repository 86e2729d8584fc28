-- A symbol by its letter.
use Rattle.std.proofs.Common.{◌+◌, ◌∙◌, arith}
use Rattle.std.proofs.lemmas.Result.{err_from_is_err_and}
use Rattle.omega_aiger.specs.Symbols.{ending, symbol_end}
use Rattle.omega_aiger.proofs.Steps.{stops_after}
use Rattle.omega_aiger.proofs.Endings.{none_begins}
use Rattle.omega_aiger.proofs.symbols.symbol_at.Goals as goal

pub returns-in_default-clause-stops : goal.returns-in_default-clause-stops
returns-in_default-clause-stops c =
    none_begins c.args.text.now c.args.at (omega (arith, c.requires, c.if-at-text.false)) c.in_default.ensures.none

pub returns-in_err-symbol-clause-stops : goal.returns-in_err-symbol-clause-stops
returns-in_err-symbol-clause-stops c =
    let p = err_from_is_err_and c.from_residual.result c.from_residual.ensures.1 in rw (p.1, p.2) (λ more parts. stops_after c.args.text.now c.args.at (c.args.at + 1) (ending more parts) (symbol_end c.in-Some.kind more) (c.is_comment.ensures.symbol c.if-is_comment.false c.in-Some.kind c.in-Some.ensures.some more parts) c.in_err-symbol.field-0.0 (c.in_err-symbol.ensures.stops more))

pub returns-clause-read : goal.returns-clause-read
returns-clause-read c =
    λ more parts. c.is_comment.ensures.symbol c.if-is_comment.false c.in-Some.kind c.in-Some.ensures.some more parts ∙ c.in_ok-symbol.ensures.read more

pub returns-then-is_comment-clause-ended : goal.returns-then-is_comment-clause-ended
returns-then-is_comment-clause-ended c = c.is_comment.ensures.comment c.if-is_comment.true
