-- A letter `c`, and a line feed or not.
use Rattle.std.proofs.Common.{sym, ◌∙◌}
use Rattle.omega_aiger.proofs.Endings.{comment_begins, symbol_begins}
use Rattle.omega_aiger.proofs.symbols.is_comment.Goals as goal

pub returns-then-text-at-ne99-clause-symbol : goal.returns-then-text-at-ne99-clause-symbol
returns-then-text-at-ne99-clause-symbol c =
    λ _ kind is. symbol_begins c.args.text.now c.args.at c.requires kind is (λ constraint. absurd (c.if-text-at-ne99.true (sym is ∙ constraint)))

pub returns-clause-comment : goal.returns-clause-comment
returns-clause-comment c =
    λ is. comment_begins c.args.text.now c.args.at c.requires c.if-text-at-ne99.false (c.next_is.ensures.first is)

pub returns-clause-symbol : goal.returns-clause-symbol
returns-clause-symbol c =
    λ none kind is. symbol_begins c.args.text.now c.args.at c.requires kind is (λ constraint. c.next_is.ensures.other none)
