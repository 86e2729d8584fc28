-- the one edge that is met by its index
use Rattle.omega_lang_product.proofs.Alone.{partner_found}
use Rattle.omega_lang_product.proofs.row.Row.partners_of.Goals as goal

pub returns-then-by_index-clause-partners : goal.returns-then-by_index-clause-partners
returns-then-by_index-clause-partners c =
    partner_found c.args.first.now c.args.self.now c.args.at (c.requires c.if-by_index.true) c.row_at.result c.row_at.ensures.edges c.row_at.ensures.numbered
