-- `read_two`: the text that is refused is named.
use Rattle.omega_io.specs.declared.refused.Which.TheVariants.{File, Input}
use Rattle.omega_hoa.specs.Alone.{IsAutomatonRefusal, IsAutomatonText}
use Rattle.omega_hoa_automaton.specs.Automaton.{Description}
use Rattle.omega_answers.proofs.About.{of_read}
use Rattle.omega_answers.proofs.Refusals.{text_is_read}
use Rattle.omega_answers.proofs.two_automata.read_two.Goals as goal

pub returns-in-Err-clause-refused : goal.returns-in-Err-clause-refused
returns-in-Err-clause-refused c =
    of_read (IsAutomatonRefusal c.args.file.now) (λ refusal. (file : Description) × IsAutomatonText c.args.file.now file × IsAutomatonRefusal c.args.input.now refusal)
    File (IsAutomatonRefusal c.args.file.now) (λ refusal is. is) (text_is_read c.args.file.now)
    c.in-Err.refusal c.in-Err.ensures.refused c.of-in-Err.result c.of-in-Err.ensures

pub returns-in-Err-read_one-clause-refused : goal.returns-in-Err-read_one-clause-refused
returns-in-Err-read_one-clause-refused c =
    of_read (IsAutomatonRefusal c.args.file.now) (λ refusal. (file : Description) × IsAutomatonText c.args.file.now file × IsAutomatonRefusal c.args.input.now refusal)
    Input (IsAutomatonRefusal c.args.input.now)
    (λ refusal is. (c.in-Ok.second, c.in-Ok.ensures.automaton, is)) (text_is_read c.args.input.now)
    c.in-Err-read_one.refusal c.in-Err-read_one.ensures.refused c.of.result c.of.ensures
