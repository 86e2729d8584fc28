-- What is read after the header is what was written.
use Rattle.std.proofs.Common.{refl, ap, ◌≡◌}
use Rattle.omega_hoa_syntax.proofs.ContentLemmas.{properties_known}
use Rattle.omega_hoa_syntax.proofs.FollowLemmas.{all_any, words_end}
use Rattle.omega_hoa_syntax.specs.Symbols.{ReadsSymbols}
use Rattle.omega_hoa_syntax.proofs.StepLemmas.{finds_error, passes_then}
use Rattle.omega_hoa_syntax.specs.declared.raw_item.RawItem.TheVariants as item
use Rattle.omega_hoa_syntax.proofs.header.known.properties.Goals as goal

pub returns-in_err-words-clause-finds : goal.returns-in_err-words-clause-finds
returns-in_err-words-clause-finds g c =
    finds_error c.from_residual.result _ _ _ _ _ _ _ _ _ c.from_residual.ensures.1 refl
    c.in_err-words.ensures.finds
    (λ tokens t. properties_known tokens (λ it others rest. ⊥) (λ words others rest follow spells.
    t words others rest (all_any words) (words_end others follow) spells))
    (λ before b. record { more = b.more; it = item.Properties b.it; is = (refl, tt); spells = b.spells })

pub returns-clause-gives : goal.returns-clause-gives
returns-clause-gives g c = record { is = (refl, tt); spells = λ others rest spells. c.in_ok-words.ensures.gives.spells others rest spells }

pub returns-clause-finds : goal.returns-clause-finds
returns-clause-finds g c =
    passes_then _ _ _ _ c.in_ok-words.ensures.finds
    (λ tokens left t. properties_known tokens (λ it others rest. ((item.Properties c.in_ok-words.words) ≡ it) × ReadsSymbols left others rest) (λ words others rest follow spells.
    let s1 = t words others rest (all_any words) (words_end others follow) spells in
    (ap item.Properties s1.0, s1.1)))
