-- `name_at`: the name at a place, without its quotes.
use Rattle.std.proofs.Common.{[], arith, ap, sym, ◌∙◌}
use Rattle.omega_game_values.specs.private.layout.Columns.{name_in_column}
use Rattle.std.proofs.lemmas.List.{get_or_past}
use Rattle.omega_game_values.proofs.names.name_at.Goals as goal

pub returns-then-place-len : goal.returns-then-place-len
returns-then-place-len c = c.after_quote.ensures ∙ ap name_in_column c.list.ensures

pub returns-else-place-len : goal.returns-else-place-len
returns-else-place-len c = sym (ap name_in_column (get_or_past c.args.quoted.now c.args.place [] (omega arith)))
