-- `states_of`: one more state, and all at the end.
use Rattle.std.proofs.Common.{◌≡◌, refl, sym, ◌∙◌}
use Rattle.std.proofs.lemmas.Iterator.Adapters.{YieldsList-from_vec}
use Rattle.std.proofs.lemmas.Iterator.Consumers.{YieldsList-end, YieldsList-turn}
use Rattle.std.proofs.lemmas.List.Folds.{map_fixed}
use Rattle.omega_hoa_label_text.specs.Expanding.{expansion}
use Rattle.omega_hoa_automaton.specs.Faults.{is_labelled}
use Rattle.omega_hoa_automaton.specs.Meaning.{IsStateOf}
use Rattle.omega_hoa_automaton.specs.private.layout.Findings.{is_faulty}
use Rattle.omega_hoa_automaton.proofs.SoundLemmas.{none-turn}
use Rattle.omega_hoa_automaton.proofs.Zipped.{zipped_push}
use Rattle.omega_hoa_automaton.proofs.making.states.states_of.Goals as goal

pub loop-state-preserved : goal.loop-state-preserved
loop-state-preserved c =
    zipped_push (IsStateOf c.args.aliases.now) c.loop-state.yielded c.loop-state.made.items c.push.new.self.items c.in-Some.state _ c.loop-state.invariant c.in_ok-state.ensures.ok c.in_ok-push.ensures.items

pub returns-clause-ok : goal.returns-clause-ok
returns-clause-ok c =
    let taken = c.into_iter-state-iterator.ensures.into_iter_gives in
    let gives = YieldsList-from_vec {s = c.into_iter-state-iterator.result} c.into_vec-state-items.result.items taken.0 (taken.1 ∙ c.into_vec-state-items.result.ok.0) in
    let all = YieldsList-end gives c.loop-state.yielded c.loop-state.state-iterator c.loop-state.yielded_by c.next.result c.next.new.self c.in-None.is c.next.ensures.steps in
    let same : c.loop-state.yielded ≡ c.args.states = sym (map_fixed (λ x. x) c.loop-state.yielded (λ k d h. refl)) ∙ (all.0 ∙ c.into_vec-state-items.ensures) in
    rw (sym same) (rw c.from_vec.ensures c.loop-state.invariant)

pub state_of-requires : goal.state_of-requires
state_of-requires c =
    let taken = c.into_iter-state-iterator.ensures.into_iter_gives in
    let gives = YieldsList-from_vec {s = c.into_iter-state-iterator.result} c.into_vec-state-items.result.items taken.0 (taken.1 ∙ c.into_vec-state-items.result.ok.0) in
    let turn = YieldsList-turn gives c.loop-state.yielded c.loop-state.state-iterator c.loop-state.yielded_by c.next.result c.next.new.self c.in-Some.state c.in-Some.is c.next.ensures.steps in
    none-turn (is_labelled (λ label. is_faulty (expansion c.args.aliases.now label))) c.args.states c.into_vec-state-items.result.items _ c.in-Some.state c.into_vec-state-items.ensures c.requires turn
