-- The label of a part is the one that was written.
use Rattle.omega_hoa_label.specs.Raw as guard
use Rattle.omega_hoa_expression.proofs.ClosingLemmas.{plain}
use Rattle.omega_hoa_syntax.proofs.BegunLemmas.{completed, label_first, sign_first}
use Rattle.std.proofs.Common.{◌∷◌, refl, ◌∙◌, [], true}
use Rattle.omega_hoa_syntax.proofs.StepLemmas.{finds_error, none_after, passes_after, passes_then, none_after_token}
use Rattle.omega_hoa_syntax.specs.Symbols.{label, sign}
use Rattle.omega_text.specs.declared.hoa.kind.HoaKind.TheVariants as kind
use Rattle.omega_hoa_syntax.specs.Grammar.{label_row}
use Rattle.omega_hoa_syntax.proofs.body.guard.GuardPart.read.Goals as goal

pub returns-in_err-take_sign-clause-finds : goal.returns-in_err-take_sign-clause-finds
returns-in_err-take_sign-clause-finds g c =
    finds_error c.from_residual.result _ label_row _ _ (g.S.TokenSource.left c.take_sign.new.source) _ _ _ _ c.from_residual.ensures.1 refl
    c.in_err-take_sign.ensures.finds
    (λ tokens t it others rest valid follow spells.
    t (label it ∷ sign kind.CloseBracket ∷ others) rest spells)
    (λ before b.
    let d = completed (λ others. label (guard.constant true) ∷ sign kind.CloseBracket ∷ others) (plain kind.True ∷ plain kind.CloseBracket ∷ []) before tt
    (λ left others rest ends spells. label_first (plain kind.CloseBracket ∷ left) (sign kind.CloseBracket ∷ others) rest tt (sign_first kind.CloseBracket left others rest spells)) b in
    record { more = d.more; it = guard.constant true; is = tt; spells = d.spells })

pub returns-in_err-label-clause-finds : goal.returns-in_err-label-clause-finds
returns-in_err-label-clause-finds g c =
    finds_error c.from_residual-in_err-label.result _ label_row _ _ (g.S.TokenSource.left c.label_expression.new.source) _ _ _ _ c.from_residual-in_err-label.ensures.1 c.in_ok-take_sign.ensures.length
    (none_after_token _ _ _ _ _ _ _ _ (sign kind.OpenBracket) (λ tokens others rest splits. splits) c.in_ok-take_sign.ensures.finds
    (c.in_ok-take_sign.ensures.gives [] _ refl) c.in_err-label.ensures.finds)
    (λ tokens t it others rest valid follow spells.
    let s1 = t.first (label it ∷ sign kind.CloseBracket ∷ others) rest spells in
    t.second it (sign kind.CloseBracket ∷ others) rest tt tt s1)
    (λ before b.
    let d = completed (λ others. sign kind.CloseBracket ∷ others) (plain kind.CloseBracket ∷ []) before tt (λ left others rest ends spells. sign_first kind.CloseBracket left others rest spells) b in
    record { more = d.more; it = d.it; is = tt; spells = d.spells })

pub returns-in_err-take_sign-2-clause-finds : goal.returns-in_err-take_sign-2-clause-finds
returns-in_err-take_sign-2-clause-finds g c =
    finds_error c.from_residual-in_err-take_sign-2.result _ label_row _ _ (g.S.TokenSource.left c.take_sign-2.new.source) _ _ _ _ c.from_residual-in_err-take_sign-2.ensures.1 (c.in_ok-label.ensures.length ∙ c.in_ok-take_sign.ensures.length)
    (none_after_token _ _ _ _ _ _ _ _ (sign kind.OpenBracket) (λ tokens others rest splits. splits) c.in_ok-take_sign.ensures.finds
    (c.in_ok-take_sign.ensures.gives [] _ refl) (none_after _ _ _ _ _ _ _ _ (λ others. label c.in_ok-label.label ∷ others) c.in_ok-label.ensures.finds (λ others. refl)
    c.in_ok-label.ensures.gives.spells (λ it is. tt) c.in_err-take_sign-2.ensures.finds))
    (λ tokens t it others rest valid follow spells.
    let s1 = t.first (label it ∷ sign kind.CloseBracket ∷ others) rest spells in
    let s2 = t.second.first it (sign kind.CloseBracket ∷ others) rest tt tt s1 in
    t.second.second others rest s2.1)
    (λ before b. record { more = b.more; it = c.in_ok-label.label; is = tt; spells = b.spells })

pub returns-clause-gives : goal.returns-clause-gives
returns-clause-gives g c = record { is = tt; spells = λ others rest spells. c.in_ok-take_sign.ensures.gives (label c.in_ok-label.label ∷ sign kind.CloseBracket ∷ others) rest (c.in_ok-label.ensures.gives.spells (sign kind.CloseBracket ∷ others) rest (c.in_ok-take_sign-2.ensures.gives others rest spells)) }

pub returns-clause-finds : goal.returns-clause-finds
returns-clause-finds g c =
    passes_then _ _ _ _ (passes_after _ _ _ _ _ c.in_ok-take_sign.ensures.finds (passes_after _ _ _ _ _ c.in_ok-label.ensures.finds c.in_ok-take_sign-2.ensures.finds))
    (λ tokens left t it others rest valid follow spells.
    let s1 = t.first (label it ∷ sign kind.CloseBracket ∷ others) rest spells in
    let s2 = t.second.first it (sign kind.CloseBracket ∷ others) rest tt tt s1 in
    let s3 = t.second.second others rest s2.1 in
    (s2.0, s3))
