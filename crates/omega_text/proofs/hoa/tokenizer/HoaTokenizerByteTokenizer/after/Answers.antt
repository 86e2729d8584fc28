-- The bytes were read, as their tokens say.
use Rattle.std.proofs.Common.{sym, subst, ap, ◌∙◌}
use Rattle.omega_text.specs.private.hoa.scanning.Reading.{Any, IsAt}
use Rattle.omega_text.specs.private.hoa.scanning.Unfinished.{fresh}
use Rattle.omega_text.proofs.hoa_texts.Ended.{closed_read}
use Rattle.omega_text.proofs.hoa.tokenizer.HoaTokenizerByteTokenizer.after.Goals as goal

pub returns-clause-reads : goal.returns-clause-reads
returns-clause-reads c = λ seen lexemes count ends. record {
  place = count;
  kept = subst (IsAt Any seen lexemes) (sym (c.new.ensures ∙ ap fresh count)) (closed_read seen lexemes ends);
}
