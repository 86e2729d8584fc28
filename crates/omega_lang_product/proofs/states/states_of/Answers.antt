-- one state more
use Rattle.std.proofs.Common.{◌<◌, ◌≤◌, List, [], ◌∷◌, ◌++◌, length, map, get_or, ap, sym, ◌∙◌, arith}
use Rattle.std.proofs.lemmas.List.{map_more, take_all}
use Rattle.omega_hoa_syntax.specs.declared.raw_state.RawState.{RawState}
use Rattle.omega_lang_product.specs.private.Operands.{state_in}
use Rattle.omega_lang_product.proofs.Counting.{states_light}
use Rattle.omega_lang_product.proofs.states.states_of.Goals as goal

pub loop-at-preserved : goal.loop-at-preserved
loop-at-preserved c =
    let pairs = c.args.explored.now.pairs.keys in
    let below : c.loop-at.at < length pairs = omega (arith, c.loop-at-test.true, c.len-at-end.ensures.len) in
    c.in_ok-push.ensures.items
    ∙ ap (λ (state : RawState). c.loop-at.states.items ++ state ∷ []) c.in_ok-state.ensures.ok
    ∙ ap (λ (states : List RawState). states ++ state_in c.args.operands.now pairs (get_or pairs c.loop-at.at (0, 0)) ∷ []) c.loop-at.invariant
    ∙ sym (map_more (state_in c.args.operands.now pairs) pairs c.loop-at.at (0, 0) below)

pub returns-clause-states : goal.returns-clause-states
returns-clause-states c =
    let pairs = c.args.explored.now.pairs.keys in
    let past : length pairs ≤ c.loop-at.at = omega (arith, c.loop-at-test.false, c.len-at-end.ensures.len) in
    c.loop-at.invariant ∙ ap (map (state_in c.args.operands.now pairs)) (take_all c.loop-at.at pairs past)

pub returns-clause-edges : goal.returns-clause-edges
returns-clause-edges c =
    let pairs = c.args.explored.now.pairs.keys in
    let past : length pairs ≤ c.loop-at.at = omega (arith, c.loop-at-test.false, c.len-at-end.ensures.len) in
    states_light c.args.operands.now.one.now c.args.operands.now.other.now pairs c.args.explored.now.edges c.requires.explored.edges c.requires.explored.light c.loop-at.states.items
    (c.loop-at.invariant ∙ ap (map (state_in c.args.operands.now pairs)) (take_all c.loop-at.at pairs past))
