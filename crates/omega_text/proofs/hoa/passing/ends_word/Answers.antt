-- A colon, or a unit of its own.
use Rattle.omega_text.proofs.hoa_texts.Passing.{header_ended, word_ended}
use Rattle.omega_text.proofs.hoa.passing.ends_word.Goals as goal

pub returns-then-byte-eq58 : goal.returns-then-byte-eq58
returns-then-byte-eq58 c = λ _. header_ended c.args.byte c.if-byte-eq58.true

pub returns-else-byte-eq58 : goal.returns-else-byte-eq58
returns-else-byte-eq58 c = λ is. word_ended c.args.byte (c.is_single.ensures is)
