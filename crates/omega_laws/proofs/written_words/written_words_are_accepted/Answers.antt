-- the law, from those that it rests on
use Rattle.omega_laws.proofs.Accepted.{words_accepted}
use Rattle.omega_laws.proofs.written_words.written_words_are_accepted.Goals as goal

pub returns : goal.returns
returns c =
    words_accepted
    (record {
      passed = c.words_and_runs_are_passed_over.ensures.words;
      automata = c.meanings_are_automata.ensures;
      one = c.automata_are_one.ensures;
      unrefused = c.automata_are_unrefused.ensures;
      writable = c.read_automata_are_writable.ensures;
      accepted = c.fitting_words_are_accepted.ensures;
      fit = c.words_fit_where_edges_can_be_taken.ensures;
      read = c.fitting_texts_are_read.ensures;
      words_one = c.words_of_texts_are_one.ensures;
      words_unrefused = c.words_are_not_refused.ensures;
    })
