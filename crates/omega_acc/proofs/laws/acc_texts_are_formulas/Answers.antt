-- The tokens of the text are the formula's.
use Rattle.omega_acc.proofs.written.Formulas.{there-formula}
use Rattle.omega_acc.proofs.laws.acc_texts_are_formulas.Goals as goal

pub returns : goal.returns
returns c tree source following from fit apart stands =
    there-formula (record {
      join = c.cuts_join.ensures;
      numbers = c.numbers_are_longest.ensures;
      plain = c.numbers_are_plain.ensures;
      words = c.words_are_longest.ensures;
      closed = c.closed_are_longest.ensures;
    }) tree source following from fit apart stands
