-- What is read after the header is what was written.
use Rattle.omega_hoa_acceptance.specs.Raw as acc
use Rattle.omega_text.specs.declared.hoa.kind.HoaKind.TheVariants as kind
use Rattle.omega_hoa_expression.proofs.ClosingLemmas.{plain}
use Rattle.omega_hoa_syntax.proofs.BegunLemmas.{completed, formula_first}
use Rattle.std.proofs.Common.{refl, ap, ◌∙◌, ◌∷◌, ◌≡◌, [], true}
use Rattle.omega_hoa_syntax.proofs.ContentLemmas.{acceptance_known}
use Rattle.omega_hoa_syntax.proofs.StepLemmas.{finds_error, passes_after, passes_then, none_after_token}
use Rattle.omega_hoa_syntax.specs.Symbols.{ReadsSymbols, formula, number}
use Rattle.omega_hoa_syntax.specs.declared.raw_item.RawItem.TheVariants as item
use Rattle.omega_hoa_syntax.proofs.header.known.acceptance.Goals as goal

pub returns-in_err-count-clause-finds : goal.returns-in_err-count-clause-finds
returns-in_err-count-clause-finds g c =
    finds_error c.from_residual.result _ _ _ _ _ _ _ _ _ c.from_residual.ensures.1 refl
    c.in_err-count.ensures.finds
    (λ tokens t. acceptance_known tokens (λ it others rest. ⊥) (λ count tree others rest follow spells.
    t count (formula tree ∷ others) rest tt tt spells))
    (λ before b.
    let d = completed (λ others. formula (acc.constant true) ∷ others) (plain kind.True ∷ []) before tt (λ left others rest ends spells. formula_first left others rest ends spells) b in
    record { more = d.more; it = item.Acceptance d.it (acc.constant true); is = (refl, tt); spells = d.spells })

pub returns-in_err-formula-clause-finds : goal.returns-in_err-formula-clause-finds
returns-in_err-formula-clause-finds g c =
    finds_error c.from_residual-in_err-formula.result _ _ _ _ _ _ _ _ _ c.from_residual-in_err-formula.ensures.1 c.in_ok-count.ensures.length
    (none_after_token _ _ _ _ _ _ _ _ (number c.in_ok-count.count) (λ tokens others rest splits. splits) c.in_ok-count.ensures.finds
    (c.in_ok-count.ensures.gives.spells [] _ refl) c.in_err-formula.ensures.finds)
    (λ tokens t. acceptance_known tokens (λ it others rest. ⊥) (λ count tree others rest follow spells.
    let s1 = t.first count (formula tree ∷ others) rest tt tt spells in
    t.second tree others rest tt tt s1.1))
    (λ before b. record { more = b.more; it = item.Acceptance c.in_ok-count.count b.it; is = (refl, tt); spells = b.spells })

pub returns-clause-gives : goal.returns-clause-gives
returns-clause-gives g c = record { is = (refl, tt); spells = λ others rest spells. c.in_ok-count.ensures.gives.spells (formula c.in_ok-formula.formula ∷ others) rest (c.in_ok-formula.ensures.gives.spells others rest spells) }

pub returns-clause-finds : goal.returns-clause-finds
returns-clause-finds g c =
    passes_then _ _ _ _ (passes_after _ _ _ _ _ c.in_ok-count.ensures.finds c.in_ok-formula.ensures.finds)
    (λ tokens left t. acceptance_known tokens (λ it others rest. ((item.Acceptance c.in_ok-count.count c.in_ok-formula.formula) ≡ it) × ReadsSymbols left others rest) (λ count tree others rest follow spells.
    let s1 = t.first count (formula tree ∷ others) rest tt tt spells in
    let s2 = t.second tree others rest tt tt s1.1 in
    (ap (λ x. item.Acceptance x c.in_ok-formula.formula) s1.0 ∙ ap (λ x. item.Acceptance count x) s2.0, s2.1)))
