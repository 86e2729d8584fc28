-- A number is read, or is missing.
use Rattle.omega_hoa_syntax.proofs.BegunLemmas.{int_begun}
use Rattle.omega_hoa_syntax.proofs.StepLemmas.{finds_error, token_unwritten, token_written}
use Rattle.omega_hoa_syntax.specs.Grammar.{int_row}
use Rattle.omega_hoa_syntax.specs.Symbols.{number}
use Rattle.omega_text.specs.declared.hoa.kind.HoaKind.TheVariants as kind
use Rattle.std.proofs.Common.{refl}
use Rattle.omega_hoa_syntax.proofs.taking.take_int.Goals as goal

pub returns-in_err-take_kind-clause-finds : goal.returns-in_err-take_kind-clause-finds
returns-in_err-take_kind-clause-finds g c =
    finds_error c.from_residual.result _ int_row _ _ (g.S.TokenSource.left c.take_kind.new.source) _ _ _ _ c.from_residual.ensures.1 refl
    (token_unwritten int_row number kind.Int _ _ _ (λ wanted others rest tokens spells. spells) (λ wanted lexeme shows. shows.0) int_begun c.in_err-take_kind.ensures.err) (λ tokens none. none) (λ before begun. begun)

pub returns-clause-finds : goal.returns-clause-finds
returns-clause-finds g c =
    token_written int_row number _ _ _ _ (λ wanted others rest tokens spells. spells) (λ wanted shows. shows.1) c.in_ok-take_kind.ensures.ok.0
