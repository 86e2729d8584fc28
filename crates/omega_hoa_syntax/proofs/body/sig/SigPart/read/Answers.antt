-- The sets of a part are those that were written.
use Rattle.omega_hoa_syntax.specs.private.steps.Joining.{each_joins}
use Rattle.omega_hoa_expression.proofs.ClosingLemmas.{plain}
use Rattle.omega_hoa_syntax.proofs.BegunLemmas.{completed, sign_first}
use Rattle.std.proofs.Common.{refl, ◌∷◌, ◌∙◌, []}
use Rattle.omega_hoa_syntax.proofs.FollowLemmas.{all_any}
use Rattle.omega_hoa_syntax.proofs.StepLemmas.{finds_error, none_after, passes_after, passes_then, none_after_token}
use Rattle.omega_hoa_syntax.specs.Symbols.{sign}
use Rattle.omega_text.specs.declared.hoa.kind.HoaKind.TheVariants as kind
use Rattle.omega_hoa_syntax.specs.Grammar.{each, int_row, sig_row}
use Rattle.omega_hoa_syntax.proofs.body.sig.SigPart.read.Goals as goal

pub returns-in_err-take_sign-clause-finds : goal.returns-in_err-take_sign-clause-finds
returns-in_err-take_sign-clause-finds g c =
    finds_error c.from_residual.result _ sig_row _ _ (g.S.TokenSource.left c.take_sign.new.source) _ _ _ _ c.from_residual.ensures.1 refl
    c.in_err-take_sign.ensures.finds
    (λ tokens t it others rest valid follow spells.
    t (each int_row it (sign kind.CloseBrace ∷ others)) rest spells)
    (λ before b.
    let d = completed (λ others. sign kind.CloseBrace ∷ others) (plain kind.CloseBrace ∷ []) before tt (λ left others rest ends spells. sign_first kind.CloseBrace left others rest spells) b in
    record { more = d.more; it = []; is = tt; spells = d.spells })

pub returns-in_err-marks-clause-finds : goal.returns-in_err-marks-clause-finds
returns-in_err-marks-clause-finds g c =
    finds_error c.from_residual-in_err-marks.result _ sig_row _ _ (g.S.TokenSource.left c.read_numbers.new.source) _ _ _ _ c.from_residual-in_err-marks.ensures.1 c.in_ok-take_sign.ensures.length
    (none_after_token _ _ _ _ _ _ _ _ (sign kind.OpenBrace) (λ tokens others rest splits. splits) c.in_ok-take_sign.ensures.finds
    (c.in_ok-take_sign.ensures.gives [] _ refl) c.in_err-marks.ensures.finds)
    (λ tokens t it others rest valid follow spells.
    let s1 = t.first (each int_row it (sign kind.CloseBrace ∷ others)) rest spells in
    t.second it (sign kind.CloseBrace ∷ others) rest (all_any it) (refl, tt) s1)
    (λ before b.
    let d = completed (λ others. sign kind.CloseBrace ∷ others) (plain kind.CloseBrace ∷ []) before tt (λ left others rest ends spells. sign_first kind.CloseBrace left others rest spells) b in
    record { more = d.more; it = d.it; is = tt; spells = d.spells })

pub returns-in_err-take_sign-2-clause-finds : goal.returns-in_err-take_sign-2-clause-finds
returns-in_err-take_sign-2-clause-finds g c =
    finds_error c.from_residual-in_err-take_sign-2.result _ sig_row _ _ (g.S.TokenSource.left c.take_sign-2.new.source) _ _ _ _ c.from_residual-in_err-take_sign-2.ensures.1 (c.in_ok-marks.ensures.length ∙ c.in_ok-take_sign.ensures.length)
    (none_after_token _ _ _ _ _ _ _ _ (sign kind.OpenBrace) (λ tokens others rest splits. splits) c.in_ok-take_sign.ensures.finds
    (c.in_ok-take_sign.ensures.gives [] _ refl) (none_after _ _ _ _ _ _ _ _ (each int_row c.in_ok-marks.marks) c.in_ok-marks.ensures.finds (each_joins int_row (λ it others. refl) c.in_ok-marks.marks)
    c.in_ok-marks.ensures.gives.spells (λ it is. tt) c.in_err-take_sign-2.ensures.finds))
    (λ tokens t it others rest valid follow spells.
    let s1 = t.first (each int_row it (sign kind.CloseBrace ∷ others)) rest spells in
    let s2 = t.second.first it (sign kind.CloseBrace ∷ others) rest (all_any it) (refl, tt) s1 in
    t.second.second others rest s2.1)
    (λ before b. record { more = b.more; it = c.in_ok-marks.marks; is = tt; spells = b.spells })

pub returns-clause-gives : goal.returns-clause-gives
returns-clause-gives g c = record { is = tt; spells = λ others rest spells. c.in_ok-take_sign.ensures.gives _ rest (c.in_ok-marks.ensures.gives.spells _ rest (c.in_ok-take_sign-2.ensures.gives others rest spells)) }

pub returns-clause-finds : goal.returns-clause-finds
returns-clause-finds g c =
    passes_then _ _ _ _ (passes_after _ _ _ _ _ c.in_ok-take_sign.ensures.finds (passes_after _ _ _ _ _ c.in_ok-marks.ensures.finds c.in_ok-take_sign-2.ensures.finds))
    (λ tokens left t it others rest valid follow spells.
    let s1 = t.first (each int_row it (sign kind.CloseBrace ∷ others)) rest spells in
    let s2 = t.second.first it (sign kind.CloseBrace ∷ others) rest (all_any it) (refl, tt) s1 in
    let s3 = t.second.second others rest s2.1 in
    (s2.0, s3))
