use Rattle.omega_answers_synth.proofs.GivenLetters.{letters_are_true_where_given}
use Rattle.omega_answers_synth.proofs.laws.letters_are_true_where_given.Goals as goal

pub returns : goal.returns
returns c = letters_are_true_where_given
