-- the literals on all names
use Rattle.std.proofs.Common.{◌≡◌, ℕ, true, sym, subst, arith}
use Rattle.std.proofs.lemmas.Result.{IfOk-weaker}
use Rattle.omega_hoa_label.specs.Raw.{constant}
use Rattle.omega_ltl_translation.specs.private.Labels.{IsLabelAt, IsLabelBelow, IsLabelOrNone, IsTrueCube}
use Rattle.omega_ltl_translation.proofs.LabelLemmas.{looser, true_cube, true_label}
use Rattle.omega_ltl_translation.proofs.labels.cube_label.Goals as goal

pub returns-in-None-clause-label : goal.returns-in-None-clause-label
returns-in-None-clause-label c =
    let all : c.loop-name.name ≡ 64 = omega arith in
    let done : IsLabelOrNone 2 192 66 (λ letter. IsTrueCube letter c.args.cube) c.loop-name.label = true_cube c.args.cube c.loop-name.label c.word_ends.ensures c.word_ends-2.ensures
    (subst (λ (n : ℕ). IsLabelBelow c.args.cube n c.loop-name.label) all c.loop-name.invariant) in
    IfOk-weaker c.constant.result _ _
    (λ label is. subst (IsLabelAt 2 192 66 (λ letter. IsTrueCube letter c.args.cube)) (sym is)
    (looser 2 2 1 192 1 66 (λ letter. IsTrueCube letter c.args.cube) (constant true) (omega arith) (omega arith) (omega arith) (true_label (λ letter. IsTrueCube letter c.args.cube) (subst (IsLabelOrNone 2 192 66 (λ letter. IsTrueCube letter c.args.cube)) c.in-None.is done).none)))
    c.constant.ensures.ok

pub returns-in-Some-clause-label : goal.returns-in-Some-clause-label
returns-in-Some-clause-label c =
    let all : c.loop-name.name ≡ 64 = omega arith in
    let done : IsLabelOrNone 2 192 66 (λ letter. IsTrueCube letter c.args.cube) c.loop-name.label = true_cube c.args.cube c.loop-name.label c.word_ends.ensures c.word_ends-2.ensures
    (subst (λ (n : ℕ). IsLabelBelow c.args.cube n c.loop-name.label) all c.loop-name.invariant) in
    (subst (IsLabelOrNone 2 192 66 (λ letter. IsTrueCube letter c.args.cube)) c.in-Some.is done).some
