-- a node makes its words of those before it
use Rattle.std.proofs.Common.{[], ap, ◌∙◌}
use Rattle.omega_lang_lasso_word.specs.private.Infix.{whole_words, words_after}
use Rattle.omega_lang_lasso_word.proofs.Infixes.{words-last}
use Rattle.omega_lang_lasso_word.proofs.letters.put_all.Goals as goal

pub loop-node-preserved : goal.loop-node-preserved
loop-node-preserved c =
    λ names. c.in_ok-put.ensures.ok names (words_after names [] c.in-Some.before.now)
    ∙ (ap (whole_words names c.loop-node.text) (words-last names c.loop-node.left.now c.in-Some.before.now c.in-Some.node.now c.in-Some.ensures.cases)
    ∙ c.loop-node.invariant names)
