-- the key is inserted last, or was there already
use Rattle.std.proofs.Common.{sym, ◌∙◌, eqb-true, nat_eq}
use Rattle.std.proofs.lemmas.Option.{get_or_from_slice_get, slice_get_within}
use Rattle.omega_lang_lasso_search.proofs.Names.{grows_insert}
use Rattle.omega_lang_lasso_search.proofs.numbering.number.Goals as goal

pub returns-clause-grows : goal.returns-clause-grows
returns-clause-grows c = grows_insert nat_eq c.args.met.now.keys c.args.state c.insert_full.new.self.keys c.in_ok-placed.ensures.keys

pub returns-clause-within : goal.returns-clause-within
returns-clause-within c =
    let stored = c.in_ok-placed.ensures.stored in
    slice_get_within c.insert_full.new.self.keys c.in_ok-placed.placed.0 stored.0 stored.1

pub returns-clause-name : goal.returns-clause-name
returns-clause-name c =
    let stored = c.in_ok-placed.ensures.stored in
    get_or_from_slice_get c.insert_full.new.self.keys c.in_ok-placed.placed.0 stored.0 0 stored.1 ∙ sym (eqb-true c.args.state stored.0 stored.2)
