-- of the state that was found
use Rattle.std.proofs.Common.{◌≡◌, ◌↔◌, ℕ, List, ap, length, subst, ◌∙◌}
use Rattle.std.specs.Prelude.{IfErr, IfOk, IsTrue, OnOk}
use Rattle.omega_hoa_automaton.specs.Automaton.{Description}
use Rattle.omega_hoa_automaton.specs.declared.state.State.{State}
use Rattle.omega_lang_complement.specs.Judged.{AreFitting}
use Rattle.omega_lang_complement.specs.Letters.{LacksLetter}
use Rattle.omega_lang_complement.specs.Written.{IsTurned}
use Rattle.omega_lang_complement.specs.declared.turning.Turned.{Turned}
use Rattle.omega_lang_complement.specs.private.Turned.{IsStateRefusal}
use Rattle.omega_hoa_edges.specs.AutomatonLabels.{labels_at, labels_of, state_at, undefined}
use Rattle.omega_hoa_edges.specs.Letters.{AreExclusive}
use Rattle.omega_hoa_edges.proofs.StateNumbers.{found_or, state_number}
use Rattle.omega_hoa_edges.specs.Labels.{is_full}
use Rattle.omega_lang_complement.proofs.states.turned_at.Goals as goal

pub returns-clause-turned : goal.returns-clause-turned
returns-clause-turned c =
    let found : c.unwrap_or-state.result.now ≡ state_at c.args.automaton.now c.args.number =
    ap (λ r. r.now) c.unwrap_or-state.ensures
    ∙ found_or (λ r. r.now) c.find.result _ (state_at c.args.found.now c.args.number) (undefined c.args.number) c.find.ensures.some c.find.ensures.none
    c.undefined_state-spare.ensures
    ∙ ap (λ (a : Description). state_at a c.args.number) c.requires in
    subst (λ (sink : ℕ). IfOk c.turned_state.result (λ (t : Turned). IsTurned (length c.args.automaton.now.propositions) sink (state_at c.args.automaton.now c.args.number) t.state)) c.state_count-sink.ensures
    (subst (λ (s : State). IfOk c.turned_state.result (λ (t : Turned). IsTurned (length c.args.automaton.now.propositions) c.state_count-sink.result s t.state)) found
    (subst (λ (ps : List (List ℕ)). IfOk c.turned_state.result (λ (t : Turned). IsTurned (length ps) c.state_count-sink.result c.unwrap_or-state.result.now t.state)) c.propositions-count.ensures
    c.turned_state.ensures.turned))

pub returns-clause-lacks : goal.returns-clause-lacks
returns-clause-lacks c =
    let found : c.unwrap_or-state.result.now ≡ state_at c.args.automaton.now c.args.number =
    ap (λ r. r.now) c.unwrap_or-state.ensures
    ∙ found_or (λ r. r.now) c.find.result _ (state_at c.args.found.now c.args.number) (undefined c.args.number) c.find.ensures.some c.find.ensures.none
    c.undefined_state-spare.ensures
    ∙ ap (λ (a : Description). state_at a c.args.number) c.requires in
    subst (λ (s : State). IfOk c.turned_state.result (λ (t : Turned). IsTrue t.lacks ↔ LacksLetter (labels_of (length c.args.automaton.now.propositions) s))) found
    (subst (λ (ps : List (List ℕ)). IfOk c.turned_state.result (λ (t : Turned). IsTrue t.lacks ↔ LacksLetter (labels_of (length ps) c.unwrap_or-state.result.now))) c.propositions-count.ensures
    c.turned_state.ensures.lacks)

pub returns-clause-apart : goal.returns-clause-apart
returns-clause-apart c =
    let found : c.unwrap_or-state.result.now ≡ state_at c.args.automaton.now c.args.number =
    ap (λ r. r.now) c.unwrap_or-state.ensures
    ∙ found_or (λ r. r.now) c.find.result _ (state_at c.args.found.now c.args.number) (undefined c.args.number) c.find.ensures.some c.find.ensures.none
    c.undefined_state-spare.ensures
    ∙ ap (λ (a : Description). state_at a c.args.number) c.requires in
    subst (λ (s : State). OnOk c.turned_state.result (AreExclusive (labels_of (length c.args.automaton.now.propositions) s))) found
    (subst (λ (ps : List (List ℕ)). OnOk c.turned_state.result (AreExclusive (labels_of (length ps) c.unwrap_or-state.result.now))) c.propositions-count.ensures
    c.turned_state.ensures.apart)

pub returns-clause-fitting : goal.returns-clause-fitting
returns-clause-fitting c =
    let found : c.unwrap_or-state.result.now ≡ state_at c.args.automaton.now c.args.number =
    ap (λ r. r.now) c.unwrap_or-state.ensures
    ∙ found_or (λ r. r.now) c.find.result _ (state_at c.args.found.now c.args.number) (undefined c.args.number) c.find.ensures.some c.find.ensures.none
    c.undefined_state-spare.ensures
    ∙ ap (λ (a : Description). state_at a c.args.number) c.requires in
    subst (λ (s : State). OnOk c.turned_state.result (AreFitting (is_full (length c.args.automaton.now.propositions) s) (labels_of (length c.args.automaton.now.propositions) s))) found
    (subst (λ (ps : List (List ℕ)). OnOk c.turned_state.result (AreFitting (is_full (length ps) c.unwrap_or-state.result.now) (labels_of (length ps) c.unwrap_or-state.result.now))) c.propositions-count.ensures
    c.turned_state.ensures.fitting)

pub returns-clause-err : goal.returns-clause-err
returns-clause-err c =
    let found : c.unwrap_or-state.result.now ≡ state_at c.args.automaton.now c.args.number =
    ap (λ r. r.now) c.unwrap_or-state.ensures
    ∙ found_or (λ r. r.now) c.find.result _ (state_at c.args.found.now c.args.number) (undefined c.args.number) c.find.ensures.some c.find.ensures.none
    c.undefined_state-spare.ensures
    ∙ ap (λ (a : Description). state_at a c.args.number) c.requires in
    subst (λ (n : ℕ). IfErr c.turned_state.result (IsStateRefusal (is_full (length c.args.automaton.now.propositions) (state_at c.args.automaton.now c.args.number)) (labels_at c.args.automaton.now c.args.number) n)) (state_number c.args.automaton.now.defined c.args.number)
    (subst (λ (s : State). IfErr c.turned_state.result (IsStateRefusal (is_full (length c.args.automaton.now.propositions) s) (labels_of (length c.args.automaton.now.propositions) s) s.number)) found
    (subst (λ (ps : List (List ℕ)). IfErr c.turned_state.result (IsStateRefusal (is_full (length ps) c.unwrap_or-state.result.now) (labels_of (length ps) c.unwrap_or-state.result.now) c.unwrap_or-state.result.now.number)) c.propositions-count.ensures
    c.turned_state.ensures.err))
