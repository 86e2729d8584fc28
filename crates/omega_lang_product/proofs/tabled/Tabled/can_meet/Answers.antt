-- The conjunction of both labels decides.
use Rattle.std.proofs.Common.{ap₂, false, refl}
use Rattle.std.proofs.lemmas.Bool.{false≢true}
use Rattle.omega_hoa_label.specs.Label.{conjunction}
use Rattle.omega_hoa_edges.proofs.Refusals.{passed_on}
use Rattle.omega_lang_product.proofs.Holding.{meets_as_judged}
use Rattle.omega_lang_product.proofs.Unmet.{unjudged_unmet}
use Rattle.omega_lang_product.proofs.tabled.Tabled.can_meet.Goals as goal

pub returns-in_err-possible-clause-err : goal.returns-in_err-possible-clause-err
returns-in_err-possible-clause-err c =
    passed_on c.from_residual.result _ _ c.from_residual.ensures.1
    (unjudged_unmet c.args.self.now c.args.other.now (conjunction c.label-one.result.now c.label-another.result.now) (ap₂ conjunction c.label-one.ensures c.label-another.ensures) _
    c.in_err-possible.ensures.err)

pub returns-then-is_seen_apart-clause-ok : goal.returns-then-is_seen_apart-clause-ok
returns-then-is_seen_apart-clause-ok c =
    meets_as_judged c.args.self.now c.args.other.now (conjunction c.args.self.now.label c.args.other.now.label) false refl
    (λ none. absurd (false≢true none), λ satisfied. absurd (c.is_seen_apart.ensures c.if-is_seen_apart.true satisfied))

pub returns-clause-ok : goal.returns-clause-ok
returns-clause-ok c =
    meets_as_judged c.args.self.now c.args.other.now (conjunction c.label-one.result.now c.label-another.result.now) c.in_ok-possible.possible
    (ap₂ conjunction c.label-one.ensures c.label-another.ensures) c.in_ok-possible.ensures.judged
