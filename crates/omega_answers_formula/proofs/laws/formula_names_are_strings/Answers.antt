-- the names are quotable, and so strings
use Rattle.omega_answers_formula.proofs.Strings.{names_are_strings}
use Rattle.omega_answers_formula.proofs.laws.formula_names_are_strings.Goals as goal

pub returns : goal.returns
returns c = names_are_strings c.names_are_quotable.ensures
