-- what is written means an automaton with the edges of the graph
use Rattle.std.proofs.Common.{◌≡◌, ◌<◌, Some, length}
use Rattle.std.specs.Prelude.{sum_by}
use Rattle.std.proofs.lemmas.Result.{IfErr-weaker, IfOk-weaker}
use Rattle.omega_text.specs.declared.refusal.automaton.AutomatonFault.TheVariants.{Expansion}
use Rattle.omega_hoa_automaton.specs.Faults.{automaton_fault_of}
use Rattle.omega_ltl_terms.proofs.Refused.{large_weaker}
use Rattle.omega_ltl_translation.specs.Translation.{given_name}
use Rattle.omega_ltl_translation.proofs.Meaning.{automaton_is, buchi_is, header_is}
use Rattle.omega_ltl_translation.proofs.Sizes.{many_edges}
use Rattle.omega_ltl_translation.proofs.forming.automaton_of_graph.Goals as goal

pub returns-clause-graph : goal.returns-clause-graph
returns-clause-graph c = IfOk-weaker c.meaning_of.result _ _
    (λ a means. automaton_is c.written_labels_mean.ensures c.written_formulas_mean.ensures (given_name c.args.name.now) c.args.propositions.now c.args.sets c.args.edges.now
    c.in_ok-raw.raw c.in_ok-raw.ensures.written a means)
    c.meaning_of.ensures.means

pub returns-clause-buchi : goal.returns-clause-buchi
returns-clause-buchi c = IfOk-weaker c.meaning_of.result _ _
    (λ a means. buchi_is c.written_labels_mean.ensures c.written_formulas_mean.ensures (given_name c.args.name.now) c.args.propositions.now c.args.sets c.args.edges.now
    c.in_ok-raw.raw c.in_ok-raw.ensures.written a means)
    c.meaning_of.ensures.means

pub returns-clause-header : goal.returns-clause-header
returns-clause-header c = IfOk-weaker c.meaning_of.result _ _
    (λ a means. header_is c.written_labels_mean.ensures c.written_formulas_mean.ensures (given_name c.args.name.now) c.args.propositions.now c.args.sets c.args.edges.now
    c.in_ok-raw.raw c.in_ok-raw.ensures.written a means)
    c.meaning_of.ensures.means

-- labels past their limits
pub returns-clause-refused : goal.returns-clause-refused
returns-clause-refused c = IfErr-weaker c.meaning_of.result _ _
    (λ refusal large. large_weaker (automaton_fault_of c.in_ok-raw.raw ≡ Some Expansion) (86928 < sum_by length c.args.edges.now)
    (λ fault. many_edges c.written_labels_mean.ensures (given_name c.args.name.now) c.args.propositions.now c.args.sets c.args.edges.now c.in_ok-raw.raw c.in_ok-raw.ensures.written
    (c.faults_are_least.ensures c.in_ok-raw.raw Expansion fault).0)
    refusal large)
    c.meaning_of.ensures.refused
