-- What is read after the header is what was written.
use Rattle.std.proofs.Common.{refl, ap, ◌∙◌, ◌≡◌, [], None}
use Rattle.omega_hoa_syntax.proofs.ContentLemmas.{tool_known}
use Rattle.omega_hoa_syntax.proofs.FollowLemmas.{some_any, strings_end}
use Rattle.omega_hoa_syntax.specs.Symbols.{ReadsSymbols, text}
use Rattle.omega_hoa_syntax.proofs.StepLemmas.{finds_error, passes_after, passes_then, none_after_token}
use Rattle.omega_hoa_syntax.specs.Grammar.{optional_row, string_row}
use Rattle.omega_hoa_syntax.specs.declared.raw_item.RawItem.TheVariants as item
use Rattle.omega_hoa_syntax.proofs.header.known.tool.Goals as goal

pub returns-in_err-first-clause-finds : goal.returns-in_err-first-clause-finds
returns-in_err-first-clause-finds g c =
    finds_error c.from_residual.result _ _ _ _ _ _ _ _ _ c.from_residual.ensures.1 refl
    c.in_err-first.ensures.finds
    (λ tokens t. tool_known tokens (λ it others rest. ⊥) (λ first second others rest follow spells.
    t first (optional_row string_row second others) rest tt tt spells))
    (λ before b. record { more = b.more; it = item.Tool b.it None; is = (refl, tt); spells = b.spells })

pub returns-in_err-second-clause-finds : goal.returns-in_err-second-clause-finds
returns-in_err-second-clause-finds g c =
    finds_error c.from_residual-in_err-second.result _ _ _ _ _ _ _ _ _ c.from_residual-in_err-second.ensures.1 c.in_ok-first.ensures.length
    (none_after_token _ _ _ _ _ _ _ _ (text c.in_ok-first.first) (λ tokens others rest splits. splits) c.in_ok-first.ensures.finds
    (c.in_ok-first.ensures.gives.spells [] _ refl) c.in_err-second.ensures.finds)
    (λ tokens t. tool_known tokens (λ it others rest. ⊥) (λ first second others rest follow spells.
    let s1 = t.first first (optional_row string_row second others) rest tt tt spells in
    t.second second others rest (some_any second) (strings_end others follow) s1.1))
    (λ before b. record { more = b.more; it = item.Tool c.in_ok-first.first b.it; is = (refl, tt); spells = b.spells })

pub returns-clause-gives : goal.returns-clause-gives
returns-clause-gives g c = record { is = (refl, tt); spells = λ others rest spells. c.in_ok-first.ensures.gives.spells _ rest (c.in_ok-second.ensures.gives.spells others rest spells) }

pub returns-clause-finds : goal.returns-clause-finds
returns-clause-finds g c =
    passes_then _ _ _ _ (passes_after _ _ _ _ _ c.in_ok-first.ensures.finds c.in_ok-second.ensures.finds)
    (λ tokens left t. tool_known tokens (λ it others rest. ((item.Tool c.in_ok-first.first c.in_ok-second.second) ≡ it) × ReadsSymbols left others rest) (λ first second others rest follow spells.
    let s1 = t.first first (optional_row string_row second others) rest tt tt spells in
    let s2 = t.second second others rest (some_any second) (strings_end others follow) s1.1 in
    (ap (λ x. item.Tool x c.in_ok-second.second) s1.0 ∙ ap (λ x. item.Tool first x) s2.0, s2.1)))
