-- `read_lasso`: what a new reader became is the lasso of the text.
use Rattle.omega_lang_lasso_text.proofs.Texts.{lasso_read}
use Rattle.omega_lang_lasso_text.proofs.reading.read_lasso.Goals as goal

pub returns-clause-lasso : goal.returns-clause-lasso
returns-clause-lasso c =
    lasso_read c.args.bytes.now c.new.result c.in_ok-reader.reader c.into_lasso.result c.into_lasso.ensures.stem c.into_lasso.ensures.cycle c.in_ok-reader.ensures.read
