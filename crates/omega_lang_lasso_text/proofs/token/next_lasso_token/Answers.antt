-- `next_lasso_token`: a number of a game text; one of the two words if a game text begins no token; or a fault.
use Rattle.std.proofs.Common.{sym, subst}
use Rattle.omega_text.specs.Lexeme.{lexeme_of}
use Rattle.omega_text.specs.pg.Fault.{HasFaultFrom as HasPgFaultFrom}
use Rattle.omega_lang_lasso_text.specs.Fault.{HasFaultFrom}
use Rattle.omega_lang_lasso_text.proofs.Tokens.{lex_faults, lex_follows, other_faults}
use Rattle.omega_lang_lasso_text.proofs.token.next_lasso_token.Goals as goal

pub returns-in_default : goal.returns-in_default
returns-in_default c = record {
  token = tt;
  end = tt;
  fault = other_faults c.args.source.now c.args.at (lexeme_of c.in-Ok-Some.token) (rw c.in-Ok-Some.field-0-is at c.in-Ok-Some.ensures.token) c.in_default.not-Number;
  progress = tt;
}

pub returns-in-Ok-clause-token : goal.returns-in-Ok-clause-token
returns-in-Ok-clause-token c =
    lex_follows c.args.source.now c.args.at c.in-Lex.place (lexeme_of c.in-Ok.word)
    (subst (HasPgFaultFrom c.args.source.now c.args.at) c.in-Lex.is c.in-Err.ensures.fault) c.in-Ok.ensures.token

pub returns-in-Err-word_token-clause-fault : goal.returns-in-Err-word_token-clause-fault
returns-in-Err-word_token-clause-fault c =
    subst (HasFaultFrom c.args.source.now c.args.at) (sym c.in-Err-word_token.ensures.fault.fault_is)
    (lex_faults c.args.source.now c.args.at c.in-Lex.place (subst (HasPgFaultFrom c.args.source.now c.args.at) c.in-Lex.is c.in-Err.ensures.fault)
    c.in-Err-word_token.ensures.fault.no_stem c.in-Err-word_token.ensures.fault.no_cycle)
