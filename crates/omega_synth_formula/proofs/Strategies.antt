-- By the answers of a controller for a formula the system realizes it.
use Rattle.omega_lang_word_laws.specs.NamedWords.{part_of}
use Rattle.omega_lang_word_laws.proofs.naming.Named.{accepted_same}
use Rattle.omega_synth_controllers.specs.Strategies.{word_of}
use Rattle.omega_synth_check.proofs.Strategies.{own_strategy}
use Rattle.omega_synth_formula.specs.Laws.{ControllersRealizeFormulas}

pub controllers_realize_formulas : ControllersRealizeFormulas
controllers_realize_formulas formula a controlled automaton all for =
    let own = own_strategy a controlled all for.answers in (
      own.0,
      λ given named same.
          for.satisfying named (accepted_same a automaton (word_of controlled own.0 given) (part_of a.propositions named) same (own.1 given)),
    )
