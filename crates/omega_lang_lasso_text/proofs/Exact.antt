-- Lasso texts go on from each place in one way.
use Rattle.std.proofs.Common.{ℕ, List}
use Rattle.omega_text.specs.Format.{GoesOneWay, IsLexical}
use Rattle.omega_text.specs.declared.refusal.text.TextFault.{TextFault}
use Rattle.omega_text.specs.declared.refusal.text.TextFault.TheVariants.{Lex, Number, Syntax, TooLong}
use Rattle.omega_lang_lasso_text.specs.Fault.{IsFaultOf}
use Rattle.omega_lang_lasso_text.specs.Format.{lasso_format}
use Rattle.omega_lang_lasso_text.proofs.Onward.{onward}
use Rattle.omega_lang_lasso_text.proofs.Unique.{fault_or_end, one_faults, one_follows, token_or_end, token_or_fault}

-- a fault of bytes is one of tokens
pub lexical : (bytes : List ℕ) (place : ℕ) (fault : TextFault) → IsFaultOf bytes place fault → IsLexical fault
lexical bytes place (Lex at) is = tt
lexical bytes place (Number at) is = tt
lexical bytes place (Syntax at) is = is
lexical bytes place TooLong is = is

pub lasso_exact : GoesOneWay lasso_format
lasso_exact = record {
  following = λ source from lexeme follows. record { forward = follows.gap.forward; nonempty = follows.token.nonempty; within = follows.within };
  lexical = λ source from fault faults. lexical _ faults.place fault faults.fault_there;
  one_token = one_follows;
  one_fault = one_faults;
  no_token_and_fault = token_or_fault;
  no_token_at_end = token_or_end;
  no_fault_at_end = fault_or_end;
  some_way = onward;
}
