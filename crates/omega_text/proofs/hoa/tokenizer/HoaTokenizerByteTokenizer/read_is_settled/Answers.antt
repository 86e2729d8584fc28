-- What is kept is settled.
use Rattle.omega_text.proofs.hoa_texts.Pieces.{kept_settled}
use Rattle.omega_text.proofs.hoa.tokenizer.HoaTokenizerByteTokenizer.read_is_settled.Goals as goal

pub returns : goal.returns
returns c = λ seen lexemes read. kept_settled c.args.self.now.fault seen lexemes c.args.self.now.pending read.kept
