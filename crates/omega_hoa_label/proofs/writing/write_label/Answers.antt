-- The whole text is put after.
use Rattle.std.proofs.Common.{[], ◌++◌, ap, ◌∙◌}
use Rattle.omega_hoa_label.specs.Postfix.{postfix}
use Rattle.omega_hoa_expression.specs.Texts.{top_text}
use Rattle.omega_hoa_label.specs.private.layout.Texts.{texts_after}
use Rattle.omega_hoa_label.proofs.TextLemmas.{texts_after-label}
use Rattle.omega_hoa_label.proofs.writing.write_label.Goals as goal

pub returns-clause-ok : goal.returns-clause-ok
returns-clause-ok c =
    c.in_ok-append_to.ensures.ok
    ∙ ap (λ bytes. c.args.out.now.items ++ bytes)
    (c.in_ok-put_label.ensures.ok
    ∙ (c.new-text.ensures (texts_after [] (postfix c.args.label.now))
    ∙ ap (λ texts. (top_text texts).bytes) (texts_after-label c.args.label.now)))
