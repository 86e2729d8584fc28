-- Hanoi texts go on from each place in one way.
use Rattle.std.proofs.Common.{ℕ, ◌+◌, List, ◌++◌, length, ap, arith, length-append, length-drop}
use Rattle.omega_text.specs.Format.{GoesOneWay, IsLexical, IsPartAfter}
use Rattle.omega_text.specs.Lexeme.{Lexeme}
use Rattle.omega_text.specs.declared.hoa.kind.HoaKind.{HoaKind}
use Rattle.omega_text.specs.declared.refusal.text.TextFault.{TextFault}
use Rattle.omega_text.specs.declared.refusal.text.TextFault.TheVariants.{Lex, Number, Syntax, TooLong}
use Rattle.omega_text.specs.hoa.Cut.{Follows}
use Rattle.omega_text.specs.hoa.Fault.{IsFaultOf}
use Rattle.omega_text.specs.hoa.Format.{hoa_format}
use Rattle.omega_text.proofs.hoa_texts.Numbers.{spelled_form}
use Rattle.omega_text.proofs.hoa_texts.Onward.{onward}
use Rattle.omega_text.proofs.hoa_texts.Unique.{fault_or_end, form_size, one_faults, one_follows, token_or_end, token_or_fault}

-- a fault of bytes is one of tokens
lexical : (bytes : List ℕ) (place : ℕ) (fault : TextFault) → IsFaultOf bytes place fault → IsLexical fault
lexical bytes place (Lex at) is = tt
lexical bytes place (Number at) is = tt
lexical bytes place (Syntax at) is = is
lexical bytes place TooLong is = is

-- a token is a part of the text after the place
pub follows_after : (source : List ℕ) (from : ℕ) (lexeme : Lexeme HoaKind) → Follows source from lexeme → IsPartAfter source from lexeme.span
follows_after source from lexeme follows =
    let some = form_size lexeme.kind lexeme.text (spelled_form lexeme.kind lexeme.value lexeme.text follows.spells) in
    let size = ap length follows.split in
    let left = length-drop from source in
    let parts = length-append follows.gap (lexeme.text ++ follows.rest) in
    let token = length-append lexeme.text follows.rest in
    let start = follows.start in
    let end = follows.end in
    record { forward = omega arith; nonempty = omega arith; within = omega arith }

pub hoa_exact : GoesOneWay hoa_format
hoa_exact = record {
  following = follows_after;
  lexical = λ source from fault faults. lexical faults.bytes (from + length faults.gap) fault faults.fault_there;
  one_token = one_follows;
  one_fault = one_faults;
  no_token_and_fault = token_or_fault;
  no_token_at_end = token_or_end;
  no_fault_at_end = fault_or_end;
  some_way = onward;
}
