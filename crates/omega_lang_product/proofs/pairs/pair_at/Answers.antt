-- a pair at a place has no other place
use Rattle.std.proofs.Common.{List, ap, get_or, ◌∙◌}
use Rattle.omega_lang_product.specs.Pairs.{Pair}
use Rattle.omega_lang_product.proofs.Formulas.{same_default}
use Rattle.omega_lang_product.proofs.Places.{own_pair}
use Rattle.omega_lang_product.proofs.pairs.pair_at.Goals as goal

pub returns-clause-number : goal.returns-clause-number
returns-clause-number c =
    let keys = c.args.found.now.keys in
    let pair : Pair = get_or c.as_slice.result.now c.args.number (0, 0) in
    own_pair keys c.args.number pair c.as_slice.ensures.unique c.requires
    (ap (λ (ks : List Pair). get_or ks c.args.number (0, 0)) c.as_slice.ensures.keys ∙ same_default keys c.args.number (0, 0) pair c.requires)
