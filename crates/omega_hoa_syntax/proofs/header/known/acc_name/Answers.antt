-- What is read after the header is what was written.
use Rattle.std.proofs.Common.{refl, ◌≡◌, []}
use Rattle.omega_hoa_syntax.proofs.ContentLemmas.{acc_name_known, acc_name_same}
use Rattle.omega_hoa_syntax.proofs.FollowLemmas.{all_any, parameters_end}
use Rattle.omega_hoa_syntax.specs.Symbols.{ReadsSymbols, word}
use Rattle.omega_hoa_syntax.proofs.StepLemmas.{finds_error, passes_after, passes_then, none_after_token}
use Rattle.omega_hoa_syntax.specs.Grammar.{each, parameter_row}
use Rattle.omega_hoa_syntax.specs.declared.raw_item.RawItem.TheVariants as item
use Rattle.omega_hoa_syntax.proofs.header.known.acc_name.Goals as goal

pub returns-in_err-name-clause-finds : goal.returns-in_err-name-clause-finds
returns-in_err-name-clause-finds g c =
    finds_error c.from_residual.result _ _ _ _ _ _ _ _ _ c.from_residual.ensures.1 refl
    c.in_err-name.ensures.finds
    (λ tokens t. acc_name_known tokens (λ it others rest. ⊥) (λ name others rest follow spells.
    t name.name (each parameter_row name.parameters others) rest tt tt spells))
    (λ before b. record { more = b.more; it = item.AccName (record { name = b.it; parameters = [] }); is = (refl, tt); spells = b.spells })

pub returns-in_err-parameters-clause-finds : goal.returns-in_err-parameters-clause-finds
returns-in_err-parameters-clause-finds g c =
    finds_error c.from_residual-in_err-parameters.result _ _ _ _ _ _ _ _ _ c.from_residual-in_err-parameters.ensures.1 c.in_ok-name.ensures.length
    (none_after_token _ _ _ _ _ _ _ _ (word c.in_ok-name.name) (λ tokens others rest splits. splits) c.in_ok-name.ensures.finds
    (c.in_ok-name.ensures.gives.spells [] _ refl) c.in_err-parameters.ensures.finds)
    (λ tokens t. acc_name_known tokens (λ it others rest. ⊥) (λ name others rest follow spells.
    let s1 = t.first name.name (each parameter_row name.parameters others) rest tt tt spells in
    t.second name.parameters others rest (all_any name.parameters) (parameters_end others follow) s1.1))
    (λ before b. record { more = b.more; it = item.AccName (record { name = c.in_ok-name.name; parameters = b.it }); is = (refl, tt); spells = b.spells })

pub returns-clause-gives : goal.returns-clause-gives
returns-clause-gives g c = record { is = (refl, tt); spells = λ others rest spells. c.in_ok-name.ensures.gives.spells _ rest (c.in_ok-parameters.ensures.gives.spells others rest spells) }

pub returns-clause-finds : goal.returns-clause-finds
returns-clause-finds g c =
    passes_then _ _ _ _ (passes_after _ _ _ _ _ c.in_ok-name.ensures.finds c.in_ok-parameters.ensures.finds)
    (λ tokens left t. acc_name_known tokens (λ it others rest. ((item.AccName (record { name = c.in_ok-name.name; parameters = c.in_ok-parameters.parameters })) ≡ it) × ReadsSymbols left others rest) (λ name others rest follow spells.
    let s1 = t.first name.name (each parameter_row name.parameters others) rest tt tt spells in
    let s2 = t.second name.parameters others rest (all_any name.parameters) (parameters_end others follow) s1.1 in
    (acc_name_same _ _ name s1.0 s2.0, s2.1)))
