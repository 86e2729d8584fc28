-- one state more, and all at the end
use Rattle.std.proofs.Common.{◌≡◌, [], ◌∷◌, ◌++◌, List, length, sym, ap, refl, ◌∙◌, arith}
use Rattle.std.proofs.lemmas.Iterator.Adapters.{YieldsList-from_vec}
use Rattle.std.proofs.lemmas.Iterator.Consumers.{YieldsList-end, YieldsList-turn}
use Rattle.std.proofs.lemmas.List.Folds.{map_fixed}
use Rattle.omega_hoa_label.specs.Raw.{RawLabelTree}
use Rattle.omega_lang_inclusion.specs.Written.{letter_states}
use Rattle.omega_lang_inclusion.proofs.Rows.{state_fits, states_more}
use Rattle.omega_lang_inclusion.proofs.states.append_states.Goals as goal

pub loop-letter-preserved : goal.loop-letter-preserved
loop-letter-preserved c =
    states_more c.args.row.count c.args.row.back c.args.states.now.items c.loop-letter.states.items c.loop-letter.yielded c.loop-letter.invariant c.append_state.new.states.items (c.in-Some.letter ∷ [])
    c.in_ok-append_state.ensures.states

pub append_state-requires : goal.append_state-requires
append_state-requires c =
    let taken = c.into_iter-letter-iterator.ensures.into_iter_gives in
    let gives = YieldsList-from_vec {s = c.into_iter-letter-iterator.result} c.args.letters.items taken.0 (taken.1 ∙ c.args.letters.ok.0) in
    let turn = YieldsList-turn gives c.loop-letter.yielded c.loop-letter.letter-iterator c.loop-letter.yielded_by c.next.result c.next.new.self c.in-Some.letter c.in-Some.is c.next.ensures.steps in
    let fits = state_fits c.args.row.count c.args.row.back c.args.states.now.items c.loop-letter.states.items c.loop-letter.yielded c.loop-letter.invariant c.args.letters.items turn.0 c.requires in
    omega (arith, fits)

pub returns-clause-states : goal.returns-clause-states
returns-clause-states c =
    let taken = c.into_iter-letter-iterator.ensures.into_iter_gives in
    let gives = YieldsList-from_vec {s = c.into_iter-letter-iterator.result} c.args.letters.items taken.0 (taken.1 ∙ c.args.letters.ok.0) in
    let all = YieldsList-end gives c.loop-letter.yielded c.loop-letter.letter-iterator c.loop-letter.yielded_by c.next.result c.next.new.self c.in-None.is c.next.ensures.steps in
    let same : c.loop-letter.yielded ≡ c.args.letters.items = sym (map_fixed (λ x. x) c.loop-letter.yielded (λ k d h. refl)) ∙ all.0 in
    c.loop-letter.invariant ∙ ap (λ (l : List RawLabelTree). c.args.states.now.items ++ letter_states c.args.row.count c.args.row.back (length c.args.states.now.items) l) same
