-- the dual is too deep
use Rattle.std.proofs.Common.{sym, ◌∙◌}
use Rattle.omega_lang_complement.proofs.Faults.{formula_refused}
use Rattle.omega_lang_complement.proofs.complementing.complement.Goals as goal

pub returns-in-Err-clause-refused : goal.returns-in-Err-clause-refused
returns-in-Err-clause-refused c =
    formula_refused c.args.automaton.now (sym c.has_universal_branching.ensures ∙ c.if-has_universal_branching.false) _ c.in-Err.ensures.err
