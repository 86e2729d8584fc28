use Rattle.omega_laws.proofs.saying.Realizing.{Known, winners_said}
use Rattle.omega_laws.proofs.realized_formulas.formula_winners_are_exact.Goals as goal

pub returns : goal.returns
returns c =
    let known : Known = record {
      formulas = c.formulas_of_texts_are_one.ensures;
      automata = c.meanings_are_automata.ensures;
      named = c.words_are_named.ensures;
      exact = c.formula_judgements_are_exact.ensures;
      counter_exact = c.formula_counter_judgements_are_exact.ensures;
      realize = c.controllers_realize_formulas.ensures;
      beat = c.counter_strategies_beat_formulas.ensures;
    } in
    winners_said known
