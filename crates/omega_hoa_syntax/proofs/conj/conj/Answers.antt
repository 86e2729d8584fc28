-- The states of a conj are those that were written.
use Rattle.std.proofs.Common.{ap, ◌∙◌, ◌∷◌, ◌≡◌, refl, [], arith}
use Rattle.omega_hoa_syntax.proofs.FollowLemmas.{all_any, joined_end}
use Rattle.omega_hoa_syntax.proofs.RowLemmas.{conj_known, conj_given}
use Rattle.omega_hoa_syntax.specs.Symbols.{ReadsSymbols, number}
use Rattle.omega_hoa_syntax.proofs.StepLemmas.{finds_error, finds_memory, passes_after, passes_then, none_after_token}
use Rattle.omega_hoa_syntax.specs.Grammar.{each, joined_row}
use Rattle.omega_hoa_syntax.proofs.conj.conj.Goals as goal

pub returns-in_err-first-clause-finds : goal.returns-in_err-first-clause-finds
returns-in_err-first-clause-finds g c =
    finds_error c.from_residual.result _ _ _ _ _ _ _ _ _ c.from_residual.ensures.1 refl
    c.in_err-first.ensures.finds
    (λ tokens t. conj_known tokens (λ it others rest. ⊥) (λ first more others rest follow spells.
    t first (each joined_row more others) rest tt tt spells))
    (λ before b. record { more = b.more; it = b.it ∷ []; is = omega arith; spells = b.spells })

pub returns-in_err-others-clause-finds : goal.returns-in_err-others-clause-finds
returns-in_err-others-clause-finds g c =
    finds_error c.from_residual-in_err-others.result _ _ _ _ _ _ _ _ _ c.from_residual-in_err-others.ensures.1 c.in_ok-first.ensures.length
    (none_after_token _ _ _ _ _ _ _ _ (number c.in_ok-first.first) (λ tokens others rest splits. splits) c.in_ok-first.ensures.finds
    (c.in_ok-first.ensures.gives.spells [] _ refl) c.in_err-others.ensures.finds)
    (λ tokens t. conj_known tokens (λ it others rest. ⊥) (λ first more others rest follow spells.
    let s1 = t.first first (each joined_row more others) rest tt tt spells in
    t.second more others rest (all_any more) (joined_end others follow) s1.1))
    (λ before b. record { more = b.more; it = c.in_ok-first.first ∷ b.it; is = omega arith; spells = b.spells })

pub returns-in_err-states-clause-finds : goal.returns-in_err-states-clause-finds
returns-in_err-states-clause-finds g c = finds_memory c.from_residual-in_err-states.result _ _ _ _ _ _ _ c.from_residual-in_err-states.ensures.1 c.in_err-states.ensures.err

pub returns-clause-gives : goal.returns-clause-gives
returns-clause-gives g c = conj_given _ _ _ _ _ c.in_ok-states.ensures.ok (λ others rest spells. c.in_ok-first.ensures.gives.spells _ rest (c.in_ok-others.ensures.gives.spells others rest spells))

pub returns-clause-finds : goal.returns-clause-finds
returns-clause-finds g c =
    passes_then _ _ _ _ (passes_after _ _ _ _ _ c.in_ok-first.ensures.finds c.in_ok-others.ensures.finds)
    (λ tokens left t. conj_known tokens (λ it others rest. ((c.in_ok-states.states) ≡ it) × ReadsSymbols left others rest) (λ first more others rest follow spells.
    let s1 = t.first first (each joined_row more others) rest tt tt spells in
    let s2 = t.second more others rest (all_any more) (joined_end others follow) s1.1 in
    (c.in_ok-states.ensures.ok ∙ (ap (λ x. x ∷ c.in_ok-others.others) s1.0 ∙ ap (λ x. first ∷ x) s2.0), s2.1)))
