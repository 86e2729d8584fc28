-- The truth value that a formula's nodes leave is that of its tree.
use Rattle.std.proofs.Common.{◌∙◌}
use Rattle.std.proofs.lemmas.Result.{IfOk-weaker}
use Rattle.omega_hoa_acceptance.proofs.JudgedLemmas.{truth-formula}
use Rattle.omega_hoa_acceptance.proofs.formula.Acc.holds_by.Goals as goal

pub returns-clause-ok : goal.returns-clause-ok
returns-clause-ok g c =
    IfOk-weaker c.truth_of.result _ _
    (λ holds is. is ∙ truth-formula (g.J.AtomJudge.infs c.args.judge.now) (g.J.AtomJudge.fins c.args.judge.now) c.args.self.now _ c.nodes.ensures)
    c.truth_of.ensures.ok
