-- The canonical text of an automaton is that of the automaton as it is written.
use Rattle.omega_hoa_round_trips.proofs.texts.Whole.{canonical-spelled}
use Rattle.omega_hoa_round_trips.proofs.laws.canonical_texts_are_spelled.Goals as goal

pub returns : goal.returns
returns c = canonical-spelled (record {
  join = c.cuts_join.ensures;
  numbers = c.numbers_are_longest.ensures;
  plain = c.numbers_are_plain.ensures;
  words = c.words_are_longest.ensures;
  closed = c.closed_are_longest.ensures;
  labels = c.label_texts_are_labels.ensures;
  label_means = c.written_labels_mean.ensures;
  formulas = c.acc_texts_are_formulas.ensures;
  formula_means = c.written_formulas_mean.ensures;
})
