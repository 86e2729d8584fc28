use Rattle.omega_laws.proofs.reading_back.Written.{written_back}
use Rattle.omega_laws.proofs.written_texts.written_automata_are_read_back.Goals as goal

pub returns : goal.returns
returns c =
    written_back
    (record {
      join = c.cuts_join.ensures;
      numbers = c.numbers_are_longest.ensures;
      plain = c.numbers_are_plain.ensures;
      words = c.words_are_longest.ensures;
      closed = c.closed_are_longest.ensures;
      labels = c.label_texts_are_labels.ensures;
      label_means = c.written_labels_mean.ensures;
      formulas = c.acc_texts_are_formulas.ensures;
      formula_means = c.written_formulas_mean.ensures;
    })
    (record {
      label_means = c.written_labels_mean.ensures;
      formula_means = c.written_formulas_mean.ensures;
      label_depths = c.written_labels_are_shallowest.ensures;
      formula_depths = c.written_formulas_are_shallowest.ensures;
      no_fault = c.meanings_have_no_fault.ensures;
    })
    c.meanings_are_automata.ensures
    c.automata_fill_segments.ensures
