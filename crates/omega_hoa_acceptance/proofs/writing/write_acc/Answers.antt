-- The whole text is put after.
use Rattle.std.proofs.Common.{[], ◌++◌, ap, ◌∙◌}
use Rattle.omega_hoa_expression.specs.Writing.{Text}
use Rattle.omega_hoa_acceptance.specs.private.layout.Texts.{acc_texts_after}
use Rattle.omega_hoa_acceptance.proofs.TextLemmas.{top_of-formula}
use Rattle.omega_hoa_acceptance.proofs.writing.write_acc.Goals as goal

pub returns-clause-ok : goal.returns-clause-ok
returns-clause-ok c =
    c.in_ok-append_to.ensures.ok
    ∙ ap (λ bytes. c.args.out.now.items ++ bytes)
    (c.in_ok-put_formula.ensures.ok
    ∙ (c.new-text.ensures (acc_texts_after [] c.nodes.result.now)
    ∙ ap (λ (text : Text). text.bytes) (top_of-formula c.args.formula.now _ c.nodes.ensures)))
