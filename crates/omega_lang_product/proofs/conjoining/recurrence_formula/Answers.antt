-- the conjunction is not too deep
use Rattle.std.proofs.Common.{◌≡◌, ◌-◌, ℕ, suc, ap, sym, ◌∙◌, max, arith}
use Rattle.omega_hoa_expression.specs.Limits.{most_depth}
use Rattle.omega_hoa_acceptance.specs.Acceptance.{acc_depth}
use Rattle.omega_hoa_acceptance.specs.Kind.{buchi_formula}
use Rattle.omega_hoa_edges.proofs.Refusals.{not_deeper, passed_on}
use Rattle.omega_lang_product.proofs.Recurring.{formula_depth}
use Rattle.omega_lang_product.proofs.conjoining.recurrence_formula.Goals as goal

pub returns-in_err-formula-2-clause-memory : goal.returns-in_err-formula-2-clause-memory
returns-in_err-formula-2-clause-memory c =
    let atom : acc_depth c.in_ok-atom.atom ≡ 1 = ap acc_depth c.in_ok-atom.ensures.ok in
    let count : suc (c.loop-set.set - 1) ≡ c.loop-set.set = omega arith in
    let depth : acc_depth c.loop-set.formula ≡ acc_depth (buchi_formula (suc (c.loop-set.set - 1))) =
    ap acc_depth c.loop-set.invariant ∙ ap (λ (n : ℕ). acc_depth (buchi_formula n)) (sym count) in
    passed_on c.from_residual-in_err-formula-2.result _ _ c.from_residual-in_err-formula-2.ensures.1
    (not_deeper (max (acc_depth c.loop-set.formula) (acc_depth c.in_ok-atom.atom) ≡ most_depth)
    (λ deep. omega (arith, deep, atom, depth, formula_depth (c.loop-set.set - 1), c.requires.few)) _ c.in_err-formula-2.ensures.err)
