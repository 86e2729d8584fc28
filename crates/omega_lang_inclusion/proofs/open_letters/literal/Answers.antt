-- the nodes are those of the literal
use Rattle.std.proofs.Common.{◌≤◌, ℕ, Bool, true, false, arith}
use Rattle.std.proofs.lemmas.Result.{IfOk-weaker}
use Rattle.omega_hoa_expression.specs.Limits.{most_depth}
use Rattle.omega_hoa_label.specs.Label.{label_depth}
use Rattle.omega_lang_inclusion.specs.Opening.{literal_of}
use Rattle.omega_lang_inclusion.proofs.open_letters.literal.Goals as goal

shallow : (number : ℕ) (value : Bool) → label_depth (literal_of number value) ≤ most_depth
shallow number true = omega arith
shallow number false = omega arith

pub from_postfix-requires : goal.from_postfix-requires
from_postfix-requires c = record {
  tree = literal_of c.args.number c.args.value;
  flat = c.in_ok-nodes.ensures.nodes;
  shallow = shallow c.args.number c.args.value;
}

pub returns-clause-label : goal.returns-clause-label
returns-clause-label c =
    IfOk-weaker c.from_postfix.result _ _ (λ label is. is (literal_of c.args.number c.args.value) c.in_ok-nodes.ensures.nodes) c.from_postfix.ensures.ok
