-- one demand, or two
use Rattle.std.proofs.Common.{◌≡◌, ◌<◌, [], ◌∷◌, length, refl, sym, subst, arith}
use Rattle.std.specs.Prelude.{Contains}
use Rattle.omega_ltl_shapes.specs.declared.combination.Combination.{Combination}
use Rattle.omega_ltl_terms.specs.Closing.{combination_parts}
use Rattle.omega_ltl_terms.specs.private.Marking.{MarksMore}
use Rattle.omega_ltl_terms.proofs.ClosingLemmas.{marks_append}
use Rattle.omega_ltl_terms.proofs.closing.mark_combination.Goals as goal

pub mark-requires : goal.mark-requires
mark-requires c = c.requires c.in-Same.d (subst (λ (x : Combination). Contains (combination_parts x) c.in-Same.d) (sym c.in-Same.is) (0, omega arith, refl))

pub mark-requires-in-Both : goal.mark-requires-in-Both
mark-requires-in-Both c = c.requires c.in-Both.d (subst (λ (x : Combination). Contains (combination_parts x) c.in-Both.d) (sym c.in-Both.is) (0, omega arith, refl))

pub mark-requires-in-Both-2 : goal.mark-requires-in-Both-2
mark-requires-in-Both-2 c =
    let low : c.in-Both.e < length c.args.marked.now =
    c.requires c.in-Both.e (subst (λ (x : Combination). Contains (combination_parts x) c.in-Both.e) (sym c.in-Both.is) (1, omega arith, refl)) in
    let long : length c.mark-in-Both.new.marked ≡ length c.args.marked.now = c.mark-in-Both.ensures.long in
    omega arith

pub returns-in-Both : goal.returns-in-Both
returns-in-Both c =
    subst (λ (x : Combination). MarksMore (combination_parts x) c.args.marked.now c.mark-in-Both-2.new.marked) (sym c.in-Both.is)
    (marks_append (c.in-Both.d ∷ []) (c.in-Both.e ∷ []) c.args.marked.now c.mark-in-Both.new.marked c.mark-in-Both-2.new.marked c.mark-in-Both.ensures c.mark-in-Both-2.ensures)
