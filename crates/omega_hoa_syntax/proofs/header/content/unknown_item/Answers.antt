-- The values of an unknown header are those that were written.
use Rattle.std.proofs.Common.{refl, sym, ap, ◌∙◌, ◌≡◌}
use Rattle.omega_hoa_syntax.proofs.ContentLemmas.{unknown_known}
use Rattle.omega_hoa_syntax.proofs.FollowLemmas.{all_any, values_end}
use Rattle.omega_hoa_syntax.specs.Symbols.{ReadsSymbols}
use Rattle.omega_hoa_syntax.proofs.StepLemmas.{finds_error, passes_then}
use Rattle.omega_hoa_syntax.specs.declared.raw_item.RawItem.TheVariants as item
use Rattle.omega_hoa_syntax.proofs.header.content.unknown_item.Goals as goal
use Rattle.omega_hoa_syntax.specs.Grammar.{header_named}

pub returns-in_err-values-clause-finds : goal.returns-in_err-values-clause-finds
returns-in_err-values-clause-finds g c =
    finds_error c.from_residual-in_err-values.result _ _ _ _ _ _ _ _ _ c.from_residual-in_err-values.ensures.1 refl
    c.in_err-values.ensures.finds
    (λ tokens t. unknown_known _ tokens (λ it others rest. ⊥) (λ name values others rest called follow spells.
    t values others rest (all_any values) (values_end others follow) spells))
    (λ before b. record { more = b.more; it = item.Unknown c.in_ok-name.name b.it; is = (record { unknown = refl; called = c.in_ok-name.ensures.ok }, ap header_named c.in_ok-name.ensures.ok ∙ c.requires); spells = b.spells })

pub returns-clause-gives : goal.returns-clause-gives
returns-clause-gives g c = record {
  is = (record { unknown = refl; called = c.in_ok-name.ensures.ok }, ap header_named c.in_ok-name.ensures.ok ∙ c.requires);
  spells = λ others rest spells. c.in_ok-values.ensures.gives.spells others rest spells;
}

pub returns-clause-finds : goal.returns-clause-finds
returns-clause-finds g c =
    passes_then _ _ _ _ c.in_ok-values.ensures.finds
    (λ tokens left t. unknown_known _ tokens (λ it others rest. ((item.Unknown c.in_ok-name.name c.in_ok-values.values) ≡ it) × ReadsSymbols left others rest) (λ name values others rest called follow spells.
    let found = t values others rest (all_any values) (values_end others follow) spells in
    (ap (λ x. item.Unknown x c.in_ok-values.values) (c.in_ok-name.ensures.ok ∙ sym called) ∙ ap (λ x. item.Unknown name x) found.0, found.1)))
