-- The token comes after the gap, or else a fault.
use Rattle.std.proofs.Common.{◌<◌, ap, sym, subst, ◌∙◌, arith, length}
use Rattle.omega_text.specs.Lexeme.{Lexeme, lexeme_of}
use Rattle.omega_ltl_text.specs.Cut.{Follows}
use Rattle.omega_ltl_text.specs.Tokens.{front_token}
use Rattle.omega_ltl_text.specs.declared.kind.FormulaKind.{FormulaKind}
use Rattle.omega_ltl_text.specs.private.Fronts.{front_of}
use Rattle.omega_ltl_text.proofs.Exact.{fault_follows, follows_part, lexeme_follows}
use Rattle.omega_ltl_text.proofs.Tokens.{token_fits}
use Rattle.omega_ltl_text.proofs.token.next_formula_token.Goals as goal

pub tail-bytes-requires : goal.tail-bytes-requires
tail-bytes-requires c = c.gap_end-start.ensures.gap.within

pub token_at-requires-clause-within : goal.token_at-requires-clause-within
token_at-requires-clause-within c =
    (token_fits c.tail-bytes.result.now (front_of c.in-Some.front) (sym c.in-Some.ensures)).within

pub returns-in-None-clause-fault : goal.returns-in-None-clause-fault
returns-in-None-clause-fault c =
    let more : c.gap_end-start.result < length c.args.source.now = omega (arith, c.gap_end-start.ensures.gap.within, c.if-start-source.false) in
    fault_follows c.args.source.now c.args.at c.gap_end-start.result c.gap_end-start.ensures.gap more (c.gap_end-start.ensures.black more)
    (ap front_token (sym c.tail-bytes.ensures) ∙ sym c.in-None.ensures)

pub returns-in-Some-clause-token : goal.returns-in-Some-clause-token
returns-in-Some-clause-token c =
    subst (λ (l : Lexeme FormulaKind). Follows c.args.source.now c.args.at l) (sym c.token_at.ensures)
    (lexeme_follows c.args.source.now c.args.at c.gap_end-start.result c.tail-bytes.result.now (front_of c.in-Some.front) c.gap_end-start.ensures.gap
    c.tail-bytes.ensures (sym c.in-Some.ensures))

pub returns-in-Some-clause-progress : goal.returns-in-Some-clause-progress
returns-in-Some-clause-progress c =
    follows_part c.args.source.now c.args.at (lexeme_of c.token_at.result)
    (subst (λ (l : Lexeme FormulaKind). Follows c.args.source.now c.args.at l) (sym c.token_at.ensures)
    (lexeme_follows c.args.source.now c.args.at c.gap_end-start.result c.tail-bytes.result.now (front_of c.in-Some.front) c.gap_end-start.ensures.gap
    c.tail-bytes.ensures (sym c.in-Some.ensures)))
