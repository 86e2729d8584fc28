-- the signs are those of the label
use Rattle.std.proofs.Common.{◌++◌, ap, ◌∙◌}
use Rattle.std.proofs.lemmas.Result.{on_ok_weaker}
use Rattle.omega_lang_lasso_word.proofs.Infixes.{words-whole}
use Rattle.omega_lang_lasso_word.proofs.letters.write_part.Goals as goal

pub returns-clause-text : goal.returns-clause-text
returns-clause-text c =
    let names = c.args.names.now in
    on_ok_weaker c.write_signs.result
    (λ is. is ∙ ap (λ words. c.args.out.now.items ++ words)
    (c.in_ok-finish.ensures.ok names ∙ (c.in_ok-put_all.ensures.ok names
    ∙ words-whole c.args.above names c.args.label.now c.nodes.result.now c.in_ok-text.text c.nodes.ensures.nodes (c.in_ok-text.ensures.ok names))))
    c.write_signs.ensures.text
