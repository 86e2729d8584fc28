-- The name and the definition of an alias are those that were written.
use Rattle.omega_hoa_label.specs.Raw as guard
use Rattle.omega_text.specs.declared.hoa.kind.HoaKind.TheVariants as kind
use Rattle.omega_hoa_expression.proofs.ClosingLemmas.{plain}
use Rattle.omega_hoa_syntax.proofs.BegunLemmas.{alias_next, completed, label_first}
use Rattle.std.proofs.Common.{◌≡◌, ap, refl, ◌∙◌, ◌∷◌, [], true}
use Rattle.omega_hoa_syntax.proofs.ContentLemmas.{alias_known}
use Rattle.omega_hoa_syntax.proofs.StepLemmas.{alias_missing, alias_passed, finds_error, passes_after, passes_then, none_after_token}
use Rattle.omega_hoa_syntax.specs.Symbols.{ReadsSymbols, label, alias}
use Rattle.omega_hoa_syntax.specs.declared.raw_item.RawItem.TheVariants as item
use Rattle.omega_hoa_syntax.proofs.header.known.alias.Goals as goal

pub returns-in_err-token-clause-finds : goal.returns-in_err-token-clause-finds
returns-in_err-token-clause-finds g c =
    finds_error c.from_residual.result _ _ _ _ _ _ _ _ _ c.from_residual.ensures.1 refl
    (alias_missing _ _ _ c.in_err-token.ensures.err)
    (λ tokens t. alias_known tokens (λ it others rest. ⊥) (λ name definition others rest follow spells. t name (label definition ∷ others) rest tt tt spells))
    (λ before b.
    let d = completed (λ others. label (guard.constant true) ∷ others) (plain kind.True ∷ []) before tt (λ left others rest ends spells. label_first left others rest ends spells) b in
    record { more = d.more; it = item.Alias d.it (guard.constant true); is = (refl, tt); spells = d.spells })

pub returns-in_err-definition-clause-finds : goal.returns-in_err-definition-clause-finds
returns-in_err-definition-clause-finds g c =
    finds_error c.from_residual-in_err-definition.result _ _ _ _ _ _ _ _ _ c.from_residual-in_err-definition.ensures.1 c.in_ok-token.ensures.length
    (none_after_token _ _ _ _ _ _ _ _ (alias c.in_ok-name.name) (λ tokens others rest splits. splits) (alias_passed _ _ _ _ c.in_ok-token.ensures.ok.0 c.in_ok-name.ensures.ok)
    (alias_next _ _ _ _ c.in_ok-token.ensures.ok.0 c.in_ok-token.ensures.ok.1 c.in_ok-name.ensures.ok) c.in_err-definition.ensures.finds)
    (λ tokens t. alias_known tokens (λ it others rest. ⊥) (λ name definition others rest follow spells.
    let s1 = t.first name (label definition ∷ others) rest tt tt spells in
    t.second definition others rest tt tt s1.1))
    (λ before b. record { more = b.more; it = item.Alias c.in_ok-name.name b.it; is = (refl, tt); spells = b.spells })

pub returns-clause-finds : goal.returns-clause-finds
returns-clause-finds g c =
    passes_then _ _ _ _ (passes_after _ _ _ _ _ (alias_passed _ _ _ _ c.in_ok-token.ensures.ok.0 c.in_ok-name.ensures.ok) c.in_ok-definition.ensures.finds)
    (λ tokens left t. alias_known tokens (λ it others rest. (item.Alias c.in_ok-name.name c.in_ok-definition.definition ≡ it) × ReadsSymbols left others rest) (λ name definition others rest follow spells.
    let s1 = t.first name (label definition ∷ others) rest tt tt spells in
    let s2 = t.second definition others rest tt tt s1.1 in
    (ap (λ x. item.Alias x c.in_ok-definition.definition) s1.0 ∙ ap (λ x. item.Alias name x) s2.0, s2.1)))
