-- The law by its lemma.
use Rattle.omega_text.proofs.hoa_texts.Differing.{read_differing}
use Rattle.omega_text.proofs.hoa.tokenizer.HoaTokenizerByteTokenizer.read_forgets_whole_tokens.Goals as goal

pub returns : goal.returns
returns c = λ sound place one other front another rest differs read. read_differing place one other front another rest c.args.self.now sound differs read
