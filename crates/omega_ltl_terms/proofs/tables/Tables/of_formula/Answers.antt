-- the terms of a demand are too many
use Rattle.std.proofs.Common.{◌<◌, ℕ, List, length, ap, sym, subst, ◌∙◌}
use Rattle.omega_ltl_shapes.specs.declared.shape.Shape.{Shape}
use Rattle.omega_ltl_terms.specs.Meeting.{HasManyWays}
use Rattle.omega_ltl_shapes.specs.Shapes.{demand}
use Rattle.omega_ltl_terms.specs.Needed.{HaveSets}
use Rattle.omega_ltl_terms.specs.Tables.{HasLargeDemand}
use Rattle.omega_ltl_terms.proofs.Refused.{large_weaker, passed_on}
use Rattle.omega_ltl_terms.proofs.StrongLemmas.{root_low}
use Rattle.omega_ltl_terms.proofs.tables.Tables.of_formula.Goals as goal

pub returns-in_err-terms-clause-refused : goal.returns-in_err-terms-clause-refused
returns-in_err-terms-clause-refused c =
    passed_on c.from_residual-in_err-terms.result _ _ c.from_residual-in_err-terms.ensures.1
    (large_weaker ((d : ℕ) × (d < length c.as_slice-2.result.now) × HasManyWays c.as_slice-2.result.now d) (HasLargeDemand c.args.formula.now.table.nodes)
    (λ found.
    let large = subst (λ (shapes : List Shape). (d : ℕ) × (d < length shapes) × HasManyWays shapes d) c.as_slice-2.ensures found in
    record { shapes = c.in_ok-shapes.shapes; are = c.in_ok-shapes.ensures.shapes; demand = large.0; low = large.1; many = large.2 })
    _ c.in_err-terms.ensures.refused)

pub strongs_of-requires-clause-low : goal.strongs_of-requires-clause-low
strongs_of-requires-clause-low c =
    let formula = c.args.formula.now in
    let low : demand formula.root c.args.negated < length c.in_ok-shapes.shapes =
    root_low formula.table.nodes c.in_ok-shapes.shapes c.in_ok-shapes.ensures.shapes formula.root c.keeps_limits.ensures.rooted c.args.negated in
    subst (λ (xs : List Shape). c.demand-root.result < length xs) (sym c.as_slice.ensures)
    (subst (λ (d : ℕ). d < length c.in_ok-shapes.shapes) (sym (c.demand-root.ensures ∙ ap (λ (n : ℕ). demand n c.args.negated) c.root.ensures)) low)

pub returns-clause-sets : goal.returns-clause-sets
returns-clause-sets c =
    subst (λ (d : ℕ). HaveSets c.in_ok-shapes.shapes d c.in_ok-strongs.strongs) (c.demand-root.ensures ∙ ap (λ (n : ℕ). demand n c.args.negated) c.root.ensures)
    (subst (λ (xs : List Shape). HaveSets xs c.demand-root.result c.in_ok-strongs.strongs) c.as_slice.ensures c.in_ok-strongs.ensures.sets)
