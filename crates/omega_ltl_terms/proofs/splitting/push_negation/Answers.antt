use Rattle.std.proofs.Common.{◌≡◌, true, false, subst, sym, ◌∙◌}
use Rattle.std.proofs.lemmas.Bool.{both_ways}
use Rattle.omega_ltl_shapes.specs.Covers.{has_literal}
use Rattle.omega_ltl_terms.specs.private.Splitting.{AddsNegation}
use Rattle.omega_ltl_terms.proofs.SplittingLemmas.{negation_added}
use Rattle.omega_ltl_terms.proofs.splitting.push_negation.Goals as goal

pub returns : goal.returns
returns c =
    let sure : c.has.result ≡ true = cc in
    let missing : c.has-else-not-has.result ≡ false = cc in
    subst (AddsNegation c.args.base c.args.other c.args.name c.args.negated c.with-2.result c.args.left.now.items) (sym c.in_ok-push.ensures.items)
    (negation_added c.args.base c.args.other c.with-2.result c.with.result c.args.name c.args.negated c.args.left.now.items (sym c.has.ensures ∙ sure)
    (λ literal. both_ways (has_literal c.args.base c.args.name c.args.negated) (sym c.has-else-not-has.ensures ∙ missing) literal) c.with-2.ensures c.with.ensures)
