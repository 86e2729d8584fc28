-- The text was read up to the place at which the next token is looked for, and its tokens were taken.
use Rattle.std.proofs.Common.{◌≤◌, ◌-◌, length}
use Rattle.omega_text.specs.private.reader.Taking.{IsReadTo}
use Rattle.omega_text.proofs.token_reader.read_tokens.Given as goal

abbrev pub invariant-loop-reader : goal.invariant-loop-reader
invariant-loop-reader g l = record {
  within : l.at ≤ length l.bytes;
  read : IsReadTo g.K.TokenKind.format (λ lexemes. g.R.TokenReader.becomes l.fn.reader lexemes l.reader) l.bytes l.at;
}

abbrev pub decreases-loop-reader : goal.decreases-loop-reader
decreases-loop-reader g l = length l.bytes - l.at
