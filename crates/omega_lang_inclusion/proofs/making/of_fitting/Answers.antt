-- the written automaton breaks a limit, or it means one
use Rattle.std.proofs.Common.{subst}
use Rattle.std.proofs.lemmas.Result.{IfErr-weaker, IfOk-weaker}
use Rattle.omega_hoa_automaton.specs.Meaning.{Means}
use Rattle.omega_hoa_automaton.specs.Faults.{BreaksLimit}
use Rattle.omega_hoa_edges.proofs.Refusals.{large_weaker}
use Rattle.omega_lang_inclusion.specs.Written.{HasNoAutomaton, breaks_limit}
use Rattle.omega_lang_inclusion.proofs.making.of_fitting.Goals as goal

pub returns-in-Ok-clause-automaton : goal.returns-in-Ok-clause-automaton
returns-in-Ok-clause-automaton c =
    IfOk-weaker c.automaton_of_raw.result _ _ (λ a means. subst (λ raw. Means raw a) c.in-Ok.ensures.written means) c.automaton_of_raw.ensures.means

pub returns-in-Ok-clause-refused : goal.returns-in-Ok-clause-refused
returns-in-Ok-clause-refused c =
    IfErr-weaker c.automaton_of_raw.result _ _
    (λ refusal is. large_weaker (BreaksLimit c.in-Ok.raw) (HasNoAutomaton c.args.word)
    (λ breaks. breaks_limit (subst BreaksLimit c.in-Ok.ensures.written breaks)) refusal is)
    c.automaton_of_raw.ensures.refused
