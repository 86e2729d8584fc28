-- without universal branching a union is refused for its size alone
use Rattle.std.proofs.Common.{sym, ◌∙◌}
use Rattle.std.proofs.lemmas.Result.{IfErr-weaker}
use Rattle.omega_hoa_edges.proofs.Refusals.{large_task}
use Rattle.omega_lang_union.specs.Refusing.{IsUnionFault, IsUnionTooLarge}
use Rattle.omega_lang_union.proofs.uniting.union.Goals as goal

pub returns-clause-refused : goal.returns-clause-refused
returns-clause-refused c =
    IfErr-weaker c.union_automaton.result _ _
    (λ refusal is. large_task (IsUnionTooLarge c.args.first.now c.args.second.now) (IsUnionFault c.args.first.now c.args.second.now)
    (λ large. (sym c.branches.ensures ∙ c.if-branches.false, large)) refusal is)
    c.union_automaton.ensures.err
