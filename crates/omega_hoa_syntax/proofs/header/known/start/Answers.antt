-- The states after the header are those that were written.
use Rattle.std.proofs.Common.{refl, ap, ◌≡◌}
use Rattle.omega_hoa_syntax.proofs.ContentLemmas.{start_known}
use Rattle.omega_hoa_syntax.proofs.FollowLemmas.{start_ends}
use Rattle.omega_hoa_syntax.specs.Symbols.{ReadsSymbols}
use Rattle.omega_hoa_syntax.proofs.StepLemmas.{finds_error, passes_then}
use Rattle.omega_hoa_syntax.specs.declared.raw_item.RawItem.TheVariants as item
use Rattle.omega_hoa_syntax.proofs.header.known.start.Goals as goal

pub returns-in_err-states-clause-finds : goal.returns-in_err-states-clause-finds
returns-in_err-states-clause-finds g c =
    finds_error c.from_residual.result _ _ _ _ _ _ _ _ _ c.from_residual.ensures.1 refl
    c.in_err-states.ensures.finds
    (λ tokens t. start_known tokens (λ it others rest. ⊥) (λ states others rest valid follow spells.
    t states others rest valid (start_ends others follow) spells))
    (λ before b. record { more = b.more; it = item.Start b.it; is = (refl, b.is); spells = b.spells })

pub returns-clause-gives : goal.returns-clause-gives
returns-clause-gives g c = record { is = (refl, c.in_ok-states.ensures.gives.is); spells = λ others rest spells. c.in_ok-states.ensures.gives.spells others rest spells }

pub returns-clause-finds : goal.returns-clause-finds
returns-clause-finds g c =
    passes_then _ _ _ _ c.in_ok-states.ensures.finds
    (λ tokens left t. start_known tokens (λ it others rest. ((item.Start c.in_ok-states.states) ≡ it) × ReadsSymbols left others rest) (λ states others rest valid follow spells.
    let s1 = t states others rest valid (start_ends others follow) spells in
    (ap item.Start s1.0, s1.1)))
