-- one of the texts is refused
use Rattle.omega_hoa.specs.Alone.{IsAutomatonRefusal}
use Rattle.omega_io.specs.declared.refused.Which.TheVariants.{File, Input}
use Rattle.omega_lang_lasso_word.specs.declared.symbolic_word.SymbolicWord.{SymbolicWord}
use Rattle.omega_lang_word_text.specs.Text.{IsWordRefusal, IsWordText}
use Rattle.omega_answers.proofs.About.{of_read}
use Rattle.omega_answers.proofs.Refusals.{text_is_read}
use Rattle.omega_answers_inclusion.proofs.word_and_automaton.read_word_and_automaton.Goals as goal

pub returns-in-Err-clause-refused : goal.returns-in-Err-clause-refused
returns-in-Err-clause-refused c =
    of_read (IsWordRefusal c.args.word.now) (λ refusal. (symbolic : SymbolicWord) × IsWordText c.args.word.now symbolic × IsAutomatonRefusal c.args.text.now refusal)
    File (IsWordRefusal c.args.word.now) (λ refusal is. is) (λ h. h)
    c.in-Err.refusal c.in-Err.ensures.refused c.of-in-Err.result c.of-in-Err.ensures

pub returns-in-Err-read_one-clause-refused : goal.returns-in-Err-read_one-clause-refused
returns-in-Err-read_one-clause-refused c =
    of_read (IsWordRefusal c.args.word.now) (λ refusal. (symbolic : SymbolicWord) × IsWordText c.args.word.now symbolic × IsAutomatonRefusal c.args.text.now refusal)
    Input (IsAutomatonRefusal c.args.text.now) (λ refusal is. (c.in-Ok.symbolic, c.in-Ok.ensures.word, is)) (text_is_read c.args.text.now)
    c.in-Err-read_one.refusal c.in-Err-read_one.ensures.refused c.of.result c.of.ensures
