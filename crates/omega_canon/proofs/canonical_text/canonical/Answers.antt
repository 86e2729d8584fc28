-- `canonical`: the name is its own.
use Rattle.std.proofs.Common.{List, ℕ, Option, ap, ◌∙◌}
use Rattle.std.proofs.lemmas.Result.{IfOk-weaker}
use Rattle.omega_canon.specs.Canonical.{canonical_automaton, titled}
use Rattle.omega_canon.proofs.canonical_text.canonical.Goals as goal

pub returns-clause-text : goal.returns-clause-text
returns-clause-text c =
    IfOk-weaker c.canonical_titled.result _ _
    (λ text is. is ∙ ap (λ (name : Option (List ℕ)). canonical_automaton (titled name c.args.automaton.now)) c.name.ensures)
    c.canonical_titled.ensures.text
