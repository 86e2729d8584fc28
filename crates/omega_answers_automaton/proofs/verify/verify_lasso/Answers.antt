-- one of the texts is refused, or what is answered or refused is that of the automaton and the lasso
use Rattle.std.proofs.Common.{inl}
use Rattle.omega_hoa_automaton.specs.Automaton.{Description}
use Rattle.omega_io.specs.declared.refused.Which.TheVariants.{File}
use Rattle.omega_lang_lasso_text.specs.Lines.{IsLassoLinesRefusal}
use Rattle.omega_answers.specs.OneAutomaton.{IsRefusalOfText}
use Rattle.omega_answers.proofs.About.{of_read}
use Rattle.omega_answers_automaton.specs.Verify.{IsPlainText, RefusesBranching}
use Rattle.omega_answers_automaton.proofs.Lassos.{file_is_read, judge_refused}
use Rattle.omega_answers_automaton.proofs.verify.verify_lasso.Goals as goal

pub returns-clause-refused : goal.returns-clause-refused
returns-clause-refused c =
    inl (of_read (IsRefusalOfText RefusesBranching c.args.file.now)
    (λ refusal. (automaton : Description) × IsPlainText c.args.file.now automaton × IsLassoLinesRefusal c.args.input.now refusal)
    File (IsRefusalOfText RefusesBranching c.args.file.now) (λ refusal is. is) (file_is_read c.args.file.now)
    c.in-Err.refusal c.in-Err.ensures.refused c.of-in-Err.result c.of-in-Err.ensures)

pub returns-in-Ok-read_lasso_lines-clause-refused : goal.returns-in-Ok-read_lasso_lines-clause-refused
returns-in-Ok-read_lasso_lines-clause-refused c =
    judge_refused c.args.file.now c.args.input.now c.in-Ok.automaton c.in-Ok-read_lasso_lines.lasso c.in-Ok.ensures.automaton
    c.in-Ok-read_lasso_lines.ensures.lasso c.in-Err-verdict_on.refusal c.in-Err-verdict_on.ensures.refused c.of.result c.of.ensures
