-- `identifier_at`: the identifier at a place, which is the place where none is listed.
use Rattle.std.proofs.Common.{arith, ap, ◌∙◌}
use Rattle.omega_game_values.proofs.layout.Columns.{get_or-identifiers_of}
use Rattle.std.specs.Prelude.{unwrap_or}
use Rattle.omega_game_values.proofs.identifiers.identifier_at.Goals as goal

pub returns : goal.returns
returns c = λ n h. c.unwrap_or.ensures ∙ ap (λ o. unwrap_or o c.args.place) c.copied.ensures ∙ c.get.ensures.lookup.4 (omega arith) c.args.place ∙ get_or-identifiers_of n c.args.listed.now c.args.place h
