-- universal branching is judged first
use Rattle.std.proofs.Common.{sym, ◌∙◌}
use Rattle.std.proofs.lemmas.Result.{IfErr-weaker}
use Rattle.omega_ltl_satisfaction.specs.Refusing.{not_decided}
use Rattle.omega_ltl_satisfaction.proofs.words.words_of.Goals as goal

pub returns-else-has_universal_branching-clause-refused : goal.returns-else-has_universal_branching-clause-refused
returns-else-has_universal_branching-clause-refused c =
    IfErr-weaker c.words_of_plain.result _ _
    (λ refusal refused. not_decided (sym c.has_universal_branching.ensures ∙ c.if-has_universal_branching.false) refused)
    c.words_of_plain.ensures.refused
