-- The bytes are read, or the token is missing.
use Rattle.omega_hoa_syntax.proofs.BegunLemmas.{string_begun}
use Rattle.omega_hoa_syntax.proofs.StepLemmas.{finds_error, token_copied, token_unwritten}
use Rattle.omega_hoa_syntax.specs.Grammar.{string_row}
use Rattle.omega_hoa_syntax.specs.Symbols.{text}
use Rattle.omega_text.specs.declared.hoa.kind.HoaKind.TheVariants as kind
use Rattle.std.proofs.Common.{refl}
use Rattle.omega_hoa_syntax.proofs.taking.take_string.Goals as goal

pub returns-in_err-token-clause-finds : goal.returns-in_err-token-clause-finds
returns-in_err-token-clause-finds g c =
    finds_error c.from_residual.result _ string_row _ _ (g.S.TokenSource.left c.take_kind.new.source) _ _ _ _ c.from_residual.ensures.1 refl
    (token_unwritten string_row text kind.String _ _ _ (λ wanted others rest tokens spells. spells) (λ wanted lexeme shows. shows.0) string_begun c.in_err-token.ensures.err) (λ tokens none. none) (λ before begun. begun)

pub returns-clause-finds : goal.returns-clause-finds
returns-clause-finds g c =
    token_copied string_row text _ _ _ _ c.string_of.result _ (λ wanted others rest tokens spells. spells) (λ wanted shows. shows.1) c.in_ok-token.ensures.ok.0 c.string_of.ensures.ok c.string_of.ensures.err
