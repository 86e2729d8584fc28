-- A header of this name is passed, or is missing.
use Rattle.omega_hoa_syntax.proofs.BegunLemmas.{header_begun}
use Rattle.std.proofs.Common.{◌≡◌, false, true, ◌∙◌}
use Rattle.std.proofs.lemmas.Slice.Eq.{bytes_eq-Decides}
use Rattle.omega_hoa_syntax.proofs.StepLemmas.{symbol_error, symbol_followed, symbol_missing, symbol_unshown}
use Rattle.omega_hoa_syntax.specs.Symbols.{header}
use Rattle.omega_text.specs.declared.hoa.kind.HoaKind.TheVariants as kind
use Rattle.omega_hoa_syntax.proofs.taking.take_header.Goals as goal

pub returns-in_err-token-clause-finds : goal.returns-in_err-token-clause-finds
returns-in_err-token-clause-finds g c =
    symbol_error c.from_residual.result (header c.args.name.now) (g.S.TokenSource.left c.args.source.now) (g.S.TokenSource.left c.take_kind.new.source) (g.S.TokenSource.length c.args.source.now) _ c.from_residual.ensures.1
    (symbol_missing (header c.args.name.now) kind.HeaderName _ _ _ (λ others rest tokens spells. spells) (λ lexeme shows. shows.0) (header_begun c.args.name.now) c.in_err-token.ensures.err)

pub returns-then-not-is_name-clause-finds : goal.returns-then-not-is_name-clause-finds
returns-then-not-is_name-clause-finds g c =
    symbol_unshown (header c.args.name.now) _ _ _ _ _ (λ others rest tokens spells. spells)
    (λ shows. let e : false ≡ true = c.if-not-is_name.ensures ∙ (bytes_eq-Decides _ _).1 (c.without_colon.ensures ∙ shows.1) in cc) (header_begun c.args.name.now) c.in_ok-token.ensures.ok.0 c.place-at.ensures

pub returns-clause-finds : goal.returns-clause-finds
returns-clause-finds g c = symbol_followed (header c.args.name.now) _ _ _ (λ others rest tokens spells. spells) c.in_ok-token.ensures.ok.0
