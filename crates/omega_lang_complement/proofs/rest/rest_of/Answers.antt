-- the nodes are those of the label of the missing letters
use Rattle.std.proofs.Common.{subst, sym}
use Rattle.std.proofs.lemmas.Result.{IfErr-weaker, IfOk-weaker}
use Rattle.omega_hoa_label.specs.Label.{LabelTree}
use Rattle.omega_lang_complement.specs.Letters.{IsRestLabel}
use Rattle.omega_lang_complement.proofs.Puts.{rest_nodes, rest_unfit}
use Rattle.omega_lang_complement.proofs.rest.rest_of.Goals as goal

pub fitting_nodes-requires : goal.fitting_nodes-requires
fitting_nodes-requires c =
    let put = c.in_ok-put_rest.ensures.rest in
    (put.0, rest_nodes c.args.labels.now _ _ c.new-nodes.ensures put)

pub returns-clause-rest : goal.returns-clause-rest
returns-clause-rest c =
    let put = c.in_ok-put_rest.ensures.rest in
    IfOk-weaker c.fitting_nodes.result _ _
    (λ label is. subst (λ (tree : LabelTree). IsRestLabel c.args.labels.now tree)
    (sym (is put.0 (rest_nodes c.args.labels.now _ _ c.new-nodes.ensures put))) put.1)
    c.fitting_nodes.ensures.label

pub returns-clause-err : goal.returns-clause-err
returns-clause-err c =
    let put = c.in_ok-put_rest.ensures.rest in
    IfErr-weaker c.fitting_nodes.result _ _
    (λ refusal is. rest_unfit c.args.labels.now put.0 put.1 refusal (is put.0 (rest_nodes c.args.labels.now _ _ c.new-nodes.ensures put)))
    c.fitting_nodes.ensures.err
