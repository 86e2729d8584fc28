-- what the goal brings
use Rattle.std.proofs.Common.{◌≡◌, true, sym, subst, ◌∙◌}
use Rattle.std.specs.Prelude.{Contains}
use Rattle.omega_ltl_shapes.specs.declared.combination.Combination.{Combination}
use Rattle.omega_ltl_terms.specs.Closing.{brings, kept_part}
use Rattle.omega_ltl_terms.proofs.ClosingLemmas.{kept_there}
use Rattle.omega_ltl_terms.proofs.closing.mark_kept.Goals as goal

pub mark-requires : goal.mark-requires
mark-requires c =
    let brought : brings c.args.goal c.in-Same.d ≡ true = sym c.brings.ensures ∙ c.if-brings.true in
    c.requires c.in-Same.d (subst (λ (x : Combination). Contains (kept_part c.args.goal x) c.in-Same.d) (sym c.in-Same.is) (kept_there c.args.goal c.in-Same.d brought))
