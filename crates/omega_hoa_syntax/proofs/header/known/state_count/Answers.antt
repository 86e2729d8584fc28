-- The count after the header is the one that was written.
use Rattle.std.proofs.Common.{◌≡◌, ap, refl}
use Rattle.omega_hoa_syntax.proofs.ContentLemmas.{state_count_known}
use Rattle.omega_hoa_syntax.proofs.StepLemmas.{finds_error, passes_then}
use Rattle.omega_hoa_syntax.specs.Symbols.{ReadsSymbols}
use Rattle.omega_hoa_syntax.specs.declared.raw_item.RawItem.TheVariants as item
use Rattle.omega_hoa_syntax.proofs.header.known.state_count.Goals as goal

pub returns-in_err-take_int-clause-finds : goal.returns-in_err-take_int-clause-finds
returns-in_err-take_int-clause-finds g c =
    finds_error c.from_residual.result _ _ _ _ _ _ _ _ _ c.from_residual.ensures.1 refl c.in_err-take_int.ensures.finds
    (λ tokens t. state_count_known tokens (λ it others rest. ⊥) (λ count others rest follow spells. t count others rest tt tt spells))
    (λ before b. record { more = b.more; it = item.States b.it; is = (refl, tt); spells = b.spells })

pub returns-clause-finds : goal.returns-clause-finds
returns-clause-finds g c =
    passes_then _ _ _ _ c.in_ok-take_int.ensures.finds
    (λ tokens left t. state_count_known tokens (λ it others rest. (item.States c.in_ok-take_int.field-0 ≡ it) × ReadsSymbols left others rest) (λ count others rest follow spells.
    let s1 = t count others rest tt tt spells in
    (ap item.States s1.0, s1.1)))
