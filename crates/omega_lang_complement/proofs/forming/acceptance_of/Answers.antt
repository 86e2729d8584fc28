-- there is room for one operator more
use Rattle.std.proofs.Common.{◌<◌, codes, false, ap, ap₂, sym, subst, ◌∙◌}
use Rattle.std.proofs.lemmas.Result.{IfErr-weaker, IfOk-weaker}
use Rattle.omega_hoa_acceptance.specs.Writing.{acc_written}
use Rattle.omega_hoa_expression.specs.Limits.{most_depth}
use Rattle.omega_hoa_acceptance.specs.Raw.{atom, disjunction, raw_acc_depth}
use Rattle.omega_hoa_acceptance.specs.Dual.{dual}
use Rattle.omega_lang_complement.specs.Written.{complement_acceptance}
use Rattle.omega_lang_complement.proofs.Depths.{atom_joins, with_atom}
use Rattle.omega_lang_complement.proofs.LimitTests.{fits}
use Rattle.omega_hoa_edges.proofs.Refusals.{not_deeper}
use Rattle.omega_lang_complement.proofs.forming.acceptance_of.Goals as goal

pub returns-clause-memory : goal.returns-clause-memory
returns-clause-memory c =
    IfErr-weaker c.or.result _ _
    (not_deeper _ (atom_joins _ _ (ap raw_acc_depth c.in_ok-atom.ensures.ok)
    (subst (λ n. n < most_depth) (sym (ap raw_acc_depth c.requires.dual)) (fits c.args.automaton.now c.requires.limits).depth)))
    c.or.ensures.err

pub returns-clause-acceptance : goal.returns-clause-acceptance
returns-clause-acceptance c =
    IfOk-weaker c.or.result _ _
    (λ written is.
    is
    ∙ ap₂ disjunction c.requires.dual (c.in_ok-atom.ensures.ok ∙ ap (λ set. atom (codes "Inf") false set) c.set_count.ensures)
    ∙ sym (with_atom (dual c.args.automaton.now.acceptance) false c.args.automaton.now.sets)
    ∙ ap (λ b. acc_written (complement_acceptance c.args.automaton.now b)) (sym c.if-not-sink.false))
    c.or.ensures.ok
