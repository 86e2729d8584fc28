-- What is read after the header is what was written.
use Rattle.std.proofs.Common.{refl, ap, ◌∙◌, ◌≡◌, []}
use Rattle.omega_hoa_syntax.proofs.ContentLemmas.{propositions_known}
use Rattle.omega_hoa_syntax.proofs.FollowLemmas.{all_any, strings_end}
use Rattle.omega_hoa_syntax.specs.Symbols.{ReadsSymbols, number}
use Rattle.omega_hoa_syntax.proofs.StepLemmas.{finds_error, passes_after, passes_then, none_after_token}
use Rattle.omega_hoa_syntax.specs.Grammar.{each, string_row}
use Rattle.omega_hoa_syntax.specs.declared.raw_item.RawItem.TheVariants as item
use Rattle.omega_hoa_syntax.proofs.header.known.propositions.Goals as goal

pub returns-in_err-count-clause-finds : goal.returns-in_err-count-clause-finds
returns-in_err-count-clause-finds g c =
    finds_error c.from_residual.result _ _ _ _ _ _ _ _ _ c.from_residual.ensures.1 refl
    c.in_err-count.ensures.finds
    (λ tokens t. propositions_known tokens (λ it others rest. ⊥) (λ count names others rest follow spells.
    t count (each string_row names others) rest tt tt spells))
    (λ before b. record { more = b.more; it = item.Propositions b.it []; is = (refl, tt); spells = b.spells })

pub returns-in_err-names-clause-finds : goal.returns-in_err-names-clause-finds
returns-in_err-names-clause-finds g c =
    finds_error c.from_residual-in_err-names.result _ _ _ _ _ _ _ _ _ c.from_residual-in_err-names.ensures.1 c.in_ok-count.ensures.length
    (none_after_token _ _ _ _ _ _ _ _ (number c.in_ok-count.count) (λ tokens others rest splits. splits) c.in_ok-count.ensures.finds
    (c.in_ok-count.ensures.gives.spells [] _ refl) c.in_err-names.ensures.finds)
    (λ tokens t. propositions_known tokens (λ it others rest. ⊥) (λ count names others rest follow spells.
    let s1 = t.first count (each string_row names others) rest tt tt spells in
    t.second names others rest (all_any names) (strings_end others follow) s1.1))
    (λ before b. record { more = b.more; it = item.Propositions c.in_ok-count.count b.it; is = (refl, tt); spells = b.spells })

pub returns-clause-gives : goal.returns-clause-gives
returns-clause-gives g c = record { is = (refl, tt); spells = λ others rest spells. c.in_ok-count.ensures.gives.spells _ rest (c.in_ok-names.ensures.gives.spells others rest spells) }

pub returns-clause-finds : goal.returns-clause-finds
returns-clause-finds g c =
    passes_then _ _ _ _ (passes_after _ _ _ _ _ c.in_ok-count.ensures.finds c.in_ok-names.ensures.finds)
    (λ tokens left t. propositions_known tokens (λ it others rest. ((item.Propositions c.in_ok-count.count c.in_ok-names.names) ≡ it) × ReadsSymbols left others rest) (λ count names others rest follow spells.
    let s1 = t.first count (each string_row names others) rest tt tt spells in
    let s2 = t.second names others rest (all_any names) (strings_end others follow) s1.1 in
    (ap (λ x. item.Propositions x c.in_ok-names.names) s1.0 ∙ ap (λ x. item.Propositions count x) s2.0, s2.1)))
