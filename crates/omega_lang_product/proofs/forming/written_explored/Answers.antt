-- the product by its parts, or a label is too deep
use Rattle.std.proofs.Common.{◌≡◌, ◌≤◌, List, length, map, sym, ap, ap₂, subst, ◌∙◌, arith}
use Rattle.std.specs.Prelude.{sum_by}
use Rattle.std.proofs.lemmas.List.{length-map}
use Rattle.std.proofs.lemmas.Result.{IfErr-weaker, IfOk-weaker}
use Rattle.omega_hoa_syntax.specs.declared.raw_automaton.RawAutomaton.{RawAutomaton}
use Rattle.omega_hoa_syntax.specs.declared.raw_state.RawState.{RawState}
use Rattle.omega_hoa_edges.specs.Limits.{most_edges}
use Rattle.omega_lang_product.specs.Refusing.{HasDeepMeeting, deep_meeting}
use Rattle.omega_lang_product.specs.private.Faults.{IsProductFault}
use Rattle.omega_lang_product.specs.Written.{raw_state_of}
use Rattle.omega_hoa_automaton.specs.Written.{raw_automaton}
use Rattle.omega_lang_product.proofs.Refused.{large_in_product}
use Rattle.omega_hoa_edges.proofs.Refusals.{memory_task, passed_on}
use Rattle.omega_lang_product.proofs.forming.written_explored.Goals as goal

pub returns-in_err-states-clause-refused : goal.returns-in_err-states-clause-refused
returns-in_err-states-clause-refused c =
    let one = c.args.operands.now.one.now in
    let other = c.args.operands.now.other.now in
    passed_on c.from_residual.result _ _ c.from_residual.ensures.1
    (large_in_product one other (HasDeepMeeting one other) deep_meeting _ c.in_err-states.ensures.err)

pub returns-in-Ok-clause-refused : goal.returns-in-Ok-clause-refused
returns-in-Ok-clause-refused c =
    IfErr-weaker c.raw_automaton_of.result _ _ (λ refusal is. memory_task (IsProductFault c.args.operands.now.one.now c.args.operands.now.other.now) refusal is) c.raw_automaton_of.ensures.memory

pub returns-in-Ok-clause-written : goal.returns-in-Ok-clause-written
returns-in-Ok-clause-written c =
    IfOk-weaker c.raw_automaton_of.result _ _
    (λ raw is. record {
      pairs = c.args.explored.now.pairs.keys;
      reached = c.requires.explored.reached;
      name = c.in-Ok.ensures.header.name;
      formula = c.in-Ok.ensures.header.formula;
      accepted = c.in-Ok.ensures.header.accepted;
      is = is ∙ ap₂ raw_automaton c.in-Ok.ensures.header.is c.in_ok-states.ensures.states;
    })
    c.raw_automaton_of.ensures.ok

pub returns-in-Ok-clause-states : goal.returns-in-Ok-clause-states
returns-in-Ok-clause-states c =
    let one = c.args.operands.now.one.now in
    let other = c.args.operands.now.other.now in
    let pairs = c.args.explored.now.pairs.keys in
    IfOk-weaker c.raw_automaton_of.result _ _
    (λ raw is.
    let states : raw.states ≡ map (raw_state_of one other pairs) pairs = ap (λ (raw : RawAutomaton). raw.states) is ∙ c.in_ok-states.ensures.states in
    omega (arith, ap length states, length-map pairs (raw_state_of one other pairs), c.requires.explored.few))
    c.raw_automaton_of.ensures.ok

pub returns-in-Ok-clause-edges : goal.returns-in-Ok-clause-edges
returns-in-Ok-clause-edges c =
    IfOk-weaker c.raw_automaton_of.result _ _
    (λ raw is. subst (λ (states : List RawState). sum_by (λ (state : RawState). length state.edges) states ≤ most_edges)
    (sym (ap (λ (raw : RawAutomaton). raw.states) is)) c.in_ok-states.ensures.edges)
    c.raw_automaton_of.ensures.ok
