-- `next_word_token`: a token of the Hanoi format; a semicolon where that has none; or a fault.
use Rattle.std.proofs.Common.{refl, subst}
use Rattle.omega_text.specs.Lexeme.{lexeme_of}
use Rattle.omega_text.specs.declared.refusal.text.TextFault.TheVariants.{Lex}
use Rattle.omega_text.specs.hoa.Fault.{HasFaultFrom as HasHoaFaultFrom}
use Rattle.omega_lang_word_text.proofs.Semicolons.{lex_place, other_faults, semicolon_follows}
use Rattle.omega_lang_word_text.proofs.token.next_word_token.Goals as goal

pub returns-in-Some-clause-token : goal.returns-in-Some-clause-token
returns-in-Some-clause-token c =
    semicolon_follows c.args.source.now c.args.at c.in-Lex.place (lexeme_of c.in-Some.token)
    (subst (HasHoaFaultFrom c.args.source.now c.args.at) c.in-Lex.is c.in-Err.ensures.fault) c.in-Some.ensures.there c.in-Some.ensures.token

pub returns-in-None-clause-fault : goal.returns-in-None-clause-fault
returns-in-None-clause-fault c =
    other_faults c.args.source.now c.args.at (Lex c.in-Lex.place) (subst (HasHoaFaultFrom c.args.source.now c.args.at) c.in-Lex.is c.in-Err.ensures.fault)
    (λ place is there. c.in-None.ensures.none (lex_place c.args.source.now (Lex c.in-Lex.place) c.in-Lex.place place refl is there))

pub returns-in_default : goal.returns-in_default
returns-in_default c = record {
  token = tt;
  end = tt;
  fault = other_faults c.args.source.now c.args.at c.in-Err.fault c.in-Err.ensures.fault (λ place is there. c.in_default.not-Lex place is);
  lexical = c.in-Err.ensures.lexical;
  progress = tt;
}
