-- The state after `&` is the one that was written.
use Rattle.omega_text.specs.declared.hoa.kind.HoaKind.TheVariants as kind
use Rattle.omega_hoa_expression.proofs.ClosingLemmas.{plain}
use Rattle.omega_hoa_syntax.proofs.BegunLemmas.{completed, number_first}
use Rattle.std.proofs.Common.{◌∷◌, refl, []}
use Rattle.omega_hoa_syntax.proofs.StepLemmas.{finds_error, passes_after, passes_then, none_after_token}
use Rattle.omega_hoa_syntax.specs.Symbols.{number, sign}
use Rattle.omega_hoa_syntax.specs.Grammar.{joined_row}
use Rattle.omega_hoa_syntax.proofs.conj.FurtherStatePart.read.Goals as goal

pub returns-in_err-take_sign-clause-finds : goal.returns-in_err-take_sign-clause-finds
returns-in_err-take_sign-clause-finds g c =
    finds_error c.from_residual.result _ joined_row _ _ (g.S.TokenSource.left c.take_sign.new.source) _ _ _ _ c.from_residual.ensures.1 refl
    c.in_err-take_sign.ensures.finds
    (λ tokens t it others rest valid follow spells. t (number it ∷ others) rest spells)
    (λ before b.
    let d = completed (λ others. number 0 ∷ others) (plain kind.Int ∷ []) before tt (λ left others rest ends spells. number_first left others rest spells) b in
    record { more = d.more; it = 0; is = tt; spells = d.spells })

pub returns-in_err-state-clause-finds : goal.returns-in_err-state-clause-finds
returns-in_err-state-clause-finds g c =
    finds_error c.from_residual-in_err-state.result _ joined_row _ _ (g.S.TokenSource.left c.take_int.new.source) _ _ _ _ c.from_residual-in_err-state.ensures.1 c.in_ok-take_sign.ensures.length
    (none_after_token _ _ _ _ _ _ _ _ (sign kind.And) (λ tokens others rest splits. splits) c.in_ok-take_sign.ensures.finds
    (c.in_ok-take_sign.ensures.gives [] _ refl) c.in_err-state.ensures.finds)
    (λ tokens t it others rest valid follow spells. t.second it others rest tt tt (t.first (number it ∷ others) rest spells))
    (λ before b. record { more = b.more; it = b.it; is = tt; spells = b.spells })

pub returns-clause-gives : goal.returns-clause-gives
returns-clause-gives g c = record { is = tt; spells = λ others rest spells. c.in_ok-take_sign.ensures.gives (number c.in_ok-state.state ∷ others) rest (c.in_ok-state.ensures.gives.spells others rest spells) }

pub returns-clause-finds : goal.returns-clause-finds
returns-clause-finds g c =
    passes_then _ _ _ _ (passes_after _ _ _ _ _ c.in_ok-take_sign.ensures.finds c.in_ok-state.ensures.finds)
    (λ tokens left t it others rest valid follow spells. t.second it others rest tt tt (t.first (number it ∷ others) rest spells))
