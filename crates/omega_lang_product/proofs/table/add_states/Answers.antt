use Rattle.std.proofs.Common.{◌≡◌, ◌<◌, ◌+◌, ℕ, List, [], ◌∷◌, ◌++◌, None, length, take, sym, ap, subst, ◌∙◌, arith, get_or}
use Rattle.std.proofs.lemmas.List.{replicate_more, take_all}
use Rattle.omega_hoa_automaton.specs.declared.state.State.{State}
use Rattle.omega_lang_product.specs.private.Tables.{AreNumbered}
use Rattle.omega_lang_product.proofs.Rows.{edges_more, numbered_more}
use Rattle.omega_hoa_edges.proofs.NewNumbers.{number_is_new}
use Rattle.omega_lang_product.proofs.table.add_states.Goals as goal

pub add_number-requires : goal.add_number-requires
add_number-requires c =
    let here : c.state-item.result ≡ get_or c.args.automaton.now.defined c.loop-state.state-index c.state-item.result = cc in
    let below : c.loop-state.state-index < length c.args.automaton.now.defined = omega (arith, ap length c.defined-state-items.ensures) in
    rw c.loop-state.invariant.0.numbers_are
    (number_is_new (λ (state : State). state.number) c.args.automaton.now.defined c.loop-state.state-index c.state-item.result below here c.keeps_limits.ensures.once)

pub loop-state-preserved : goal.loop-state-preserved
loop-state-preserved c =
    let states : List State = c.args.automaton.now.defined in
    let at = c.loop-state.state-index in
    let state : State = c.state-item.result in
    let here : state ≡ get_or states at state = cc in
    let below : at < length states = omega (arith, ap length c.defined-state-items.ensures) in
    let numbers = c.loop-state.numbers.keys in
    let firsts = c.loop-state.firsts.items in
    let more = numbered_more states at state numbers firsts c.loop-state.first below here c.loop-state.invariant.0 c.loop-state.invariant.2 in (
      subst (λ (ns : List ℕ). AreNumbered (take (at + 1) states) ns c.push.new.self.items) (sym c.in_ok-add_number.ensures.ok)
          (subst (λ (fs : List ℕ). AreNumbered (take (at + 1) states) (numbers ++ state.number ∷ []) fs) (sym c.in_ok-push.ensures.items) more),
      c.in_ok-push-2.ensures.items ∙ ap (λ rows. rows ++ None ∷ []) c.loop-state.invariant.1 ∙ replicate_more at None,
      c.in_ok-first.ensures.ok ∙ ap (λ n. c.loop-state.first + n) c.len.ensures ∙ ap (λ n. n + length state.edges) c.loop-state.invariant.2
          ∙ sym (edges_more states at state below here),
    )

pub returns-clause-numbered : goal.returns-clause-numbered
returns-clause-numbered c =
    let states : List State = c.args.automaton.now.defined in
    let all : take c.loop-state.state-index states ≡ states = take_all c.loop-state.state-index states (omega (arith, ap length c.defined-state-items.ensures)) in
    subst (λ (some : List State). AreNumbered some c.loop-state.numbers.keys c.loop-state.firsts.items) all c.loop-state.invariant.0
