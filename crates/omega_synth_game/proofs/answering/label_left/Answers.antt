-- the nodes are those of the label with constants in place of inputs, which is as deep
use Rattle.std.proofs.Common.{◌≡◌, ℕ, List, map, ap, ◌∙◌}
use Rattle.std.proofs.lemmas.Result.{IfErr-weaker, IfOk-weaker}
use Rattle.omega_hoa_label.specs.Label.{LabelTree}
use Rattle.omega_hoa_label.specs.Postfix.{postfix}
use Rattle.omega_hoa_label.specs.declared.label.LabelNode.{LabelNode}
use Rattle.omega_synth_game.specs.Answering.{restricted}
use Rattle.omega_synth_game.specs.private.Restricted.{restricted_node}
use Rattle.omega_synth_game.proofs.Restricting.{memory_only, nodes_left}
use Rattle.omega_synth_game.proofs.answering.label_left.Goals as goal

flat : (controlled letter : List ℕ) (tree : LabelTree) (all left : List LabelNode) → all ≡ postfix tree
    → left ≡ map (restricted_node controlled letter) all → left ≡ postfix (restricted controlled letter tree)
flat controlled letter tree all left are is = is ∙ ap (map (restricted_node controlled letter)) are ∙ nodes_left controlled letter tree

pub of_postfix-requires : goal.of_postfix-requires
of_postfix-requires c = (
  restricted c.args.controlled.now c.args.letter.now c.args.label.now,
  flat c.args.controlled.now c.args.letter.now c.args.label.now _ _ c.nodes.ensures.nodes c.in_ok-nodes.ensures.nodes,
)

pub returns-clause-label : goal.returns-clause-label
returns-clause-label c =
    IfOk-weaker c.of_postfix.result _ _
    (λ left is. is (restricted c.args.controlled.now c.args.letter.now c.args.label.now)
    (flat c.args.controlled.now c.args.letter.now c.args.label.now _ _ c.nodes.ensures.nodes c.in_ok-nodes.ensures.nodes))
    c.of_postfix.ensures.ok

pub returns-clause-memory : goal.returns-clause-memory
returns-clause-memory c =
    memory_only c.args.controlled.now c.args.letter.now c.of_postfix.result c.args.label.now c.nodes.ensures.shallow
    (IfErr-weaker c.of_postfix.result _ _
    (λ refusal is. is (restricted c.args.controlled.now c.args.letter.now c.args.label.now)
    (flat c.args.controlled.now c.args.letter.now c.args.label.now _ _ c.nodes.ensures.nodes c.in_ok-nodes.ensures.nodes))
    c.of_postfix.ensures.err)
