-- of the state that was found
use Rattle.std.proofs.Common.{◌≡◌, ℕ, ap, length, subst, ◌∙◌}
use Rattle.std.specs.Prelude.{IfErr, OnOk}
use Rattle.omega_text.specs.Cases.{never, or_memory, or_task}
use Rattle.omega_hoa_automaton.specs.declared.state.State.{State}
use Rattle.omega_hoa_edges.specs.AutomatonLabels.{is_full_at, labels_at, labels_of, state_at, undefined}
use Rattle.omega_hoa_edges.specs.Letters.{AreExclusive}
use Rattle.omega_hoa_edges.specs.private.Refused.{IsPartialFault, IsUnjudgedOf}
use Rattle.omega_hoa_edges.proofs.StateNumbers.{found_or, state_number}
use Rattle.omega_hoa_edges.proofs.determinism.check_state.Goals as goal

pub returns-clause-apart : goal.returns-clause-apart
returns-clause-apart c =
    let found : c.unwrap_or-state.result.now ≡ state_at c.args.states.now c.args.number =
    ap (λ r. r.now) c.unwrap_or-state.ensures
    ∙ found_or (λ r. r.now) c.find.result _ (state_at c.args.states.now c.args.number) (undefined c.args.number) c.find.ensures.some c.find.ensures.none
    c.undefined_state-spare.ensures in
    subst (λ (s : State). OnOk c.check_edges.result (AreExclusive (labels_of (length c.args.states.now.propositions) s))) found
    (subst (λ (n : ℕ). OnOk c.check_edges.result (AreExclusive (labels_of n c.unwrap_or-state.result.now))) c.requires c.check_edges.ensures.apart)

pub returns-clause-err : goal.returns-clause-err
returns-clause-err c =
    let found : c.unwrap_or-state.result.now ≡ state_at c.args.states.now c.args.number =
    ap (λ r. r.now) c.unwrap_or-state.ensures
    ∙ found_or (λ r. r.now) c.find.result _ (state_at c.args.states.now c.args.number) (undefined c.args.number) c.find.ensures.some c.find.ensures.none
    c.undefined_state-spare.ensures in
    subst (λ (n : ℕ). IfErr c.check_edges.result (or_task (IsPartialFault (is_full_at c.args.states.now c.args.number) (labels_at c.args.states.now c.args.number) n) (or_memory never)))
    (state_number c.args.states.now.defined c.args.number)
    (subst (λ (s : State). IfErr c.check_edges.result (IsUnjudgedOf (length c.args.states.now.propositions) s)) found
    (subst (λ (n : ℕ). IfErr c.check_edges.result (IsUnjudgedOf n c.unwrap_or-state.result.now)) c.requires c.check_edges.ensures.err))
