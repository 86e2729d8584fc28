-- `lasso_part`: a word or a run follows here, or the search goes on.
use Rattle.omega_lang_lasso_text.proofs.LassoPart.{no_word_here, word_here}
use Rattle.omega_lang_lasso_text.proofs.lines.lasso_part.Goals as goal

pub returns-then-ends_lasso : goal.returns-then-ends_lasso
returns-then-ends_lasso c =
    word_here c.args.bytes.now c.loop-at.at c.loop-at-test.true c.loop-at.invariant c.ends_lasso.result c.ends_lasso.ensures c.if-ends_lasso.true

pub loop-at-preserved : goal.loop-at-preserved
loop-at-preserved c =
    no_word_here c.args.bytes.now c.loop-at.at c.loop-at-test.true c.loop-at.invariant c.ends_lasso.result c.ends_lasso.ensures c.if-ends_lasso.false
