-- Nothing was read.
use Rattle.std.proofs.Common.{[], refl, sym, subst}
use Rattle.omega_text.specs.private.hoa.scanning.Reading.{Any, IsAt}
use Rattle.omega_text.proofs.hoa_texts.Pieces.{nothing_read}
use Rattle.omega_text.proofs.hoa.tokenizer.HoaTokenizerByteTokenizer.new.Goals as goal

pub returns-clause-reads : goal.returns-clause-reads
returns-clause-reads c = record { place = refl; kept = subst (IsAt Any [] []) (sym c.new.ensures) nothing_read }
