use Rattle.omega_lang_runs.proofs.Taken.{edges_are_taken_where_true}
use Rattle.omega_lang_runs.proofs.laws.edges_are_taken_where_true.Goals as goal

pub returns : goal.returns
returns c = edges_are_taken_where_true
