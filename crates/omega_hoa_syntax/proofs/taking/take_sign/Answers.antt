-- A sign is passed, or is missing.
use Rattle.omega_hoa_syntax.proofs.BegunLemmas.{sign_begun}
use Rattle.omega_hoa_syntax.proofs.StepLemmas.{symbol_error, symbol_followed, symbol_missing}
use Rattle.omega_hoa_syntax.specs.Symbols.{sign}
use Rattle.omega_hoa_syntax.proofs.taking.take_sign.Goals as goal

pub returns-in_err-take_kind-clause-finds : goal.returns-in_err-take_kind-clause-finds
returns-in_err-take_kind-clause-finds g c =
    symbol_error c.from_residual.result (sign c.args.kind) (g.S.TokenSource.left c.args.source.now) (g.S.TokenSource.left c.take_kind.new.source) (g.S.TokenSource.length c.args.source.now) _ c.from_residual.ensures.1
    (symbol_missing (sign c.args.kind) c.args.kind _ _ _ (λ others rest tokens spells. spells) (λ lexeme shows. shows) (sign_begun c.args.kind) c.in_err-take_kind.ensures.err)

pub returns-clause-finds : goal.returns-clause-finds
returns-clause-finds g c = symbol_followed (sign c.args.kind) _ _ _ (λ others rest tokens spells. spells) c.in_ok-take_kind.ensures.ok.0
