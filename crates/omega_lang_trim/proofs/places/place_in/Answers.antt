-- without a place it is the count
use Rattle.std.proofs.Common.{nat_eq, sym, ◌∙◌}
use Rattle.omega_lang_trim.proofs.Among.{none_is_len}
use Rattle.omega_lang_trim.proofs.places.place_in.Goals as goal

pub returns-in-None : goal.returns-in-None
returns-in-None c = c.len.ensures.len ∙ none_is_len (nat_eq c.args.number) c.args.numbers.now.keys (sym c.in-None.ensures.index)
