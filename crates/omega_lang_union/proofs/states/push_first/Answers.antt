-- the states over the joined names
use Rattle.std.proofs.Common.{◌≡◌, ◌++◌, map, ap, subst, ◌∙◌}
use Rattle.std.proofs.lemmas.Result.{IfErr-weaker, on_ok_weaker}
use Rattle.omega_hoa_automaton.specs.Automaton.{Description}
use Rattle.omega_hoa_edges.proofs.Refusals.{large_weaker}
use Rattle.omega_lang_product.specs.Joining.{places_among}
use Rattle.omega_lang_trim.specs.Written.{state_written}
use Rattle.omega_lang_trim.specs.private.Writing.{StatesHaveDeepLabel}
use Rattle.omega_lang_union.specs.Parts.{Part, states_in}
use Rattle.omega_lang_union.specs.private.Operands.{first_over}
use Rattle.omega_lang_union.proofs.Formed.{first_is, part_with}
use Rattle.omega_lang_union.proofs.states.push_first.Goals as goal

pub returns-clause-states : goal.returns-clause-states
returns-clause-states c =
    let one : Description = c.args.one.now in
    let places : c.as_slice.result.now ≡ places_among c.args.names.now one.propositions =
    c.as_slice.ensures.value ∙ c.in_ok-places.ensures.ok ∙ ap (places_among c.args.names.now) c.propositions.ensures in
    let is = first_is c.args.sharing.now c.args.names.now one c.as_slice.result.now places in
    on_ok_weaker c.push_states.result
    (λ pushed. subst (λ (p : Part). c.push_states.new.states.items ≡ c.args.states.now.items ++ map state_written (states_in p one.defined)) is pushed)
    c.push_states.ensures.states

pub returns-clause-err : goal.returns-clause-err
returns-clause-err c =
    let one : Description = c.args.one.now in
    let places : c.as_slice.result.now ≡ places_among c.args.names.now one.propositions =
    c.as_slice.ensures.value ∙ c.in_ok-places.ensures.ok ∙ ap (places_among c.args.names.now) c.propositions.ensures in
    let is = first_is c.args.sharing.now c.args.names.now one c.as_slice.result.now places in
    IfErr-weaker c.push_states.result _ _
    (λ refusal is_large. large_weaker (StatesHaveDeepLabel (states_in (part_with c.as_slice.result.now 0 0 c.args.sharing.now.first) one.defined))
    (StatesHaveDeepLabel (states_in (first_over c.args.sharing.now c.args.names.now one) one.defined))
    (λ deep. subst (λ (p : Part). StatesHaveDeepLabel (states_in p one.defined)) is deep) refusal is_large)
    c.push_states.ensures.err
