-- The fields of an acceptance formula, given back by its tree.
use Rattle.std.specs.Prelude.{◌≡◌, ℕ, List}
use Rattle.std.proofs.Common.{ap, ◌∙◌}
use Rattle.omega_hoa_acceptance.specs.Acceptance.{acc_depth}
use Rattle.omega_hoa_acceptance.specs.private.layout.Acceptance.{IsAcc, acc_postfix, acc_tree_of}
use Rattle.omega_hoa_acceptance.specs.declared.formula.AccNode.{AccNode}
use Rattle.omega_hoa_acceptance.specs.declared.formula.Acc.TheInside.{Inside}

-- the fields with these nodes and this depth
abbrev pub fields : List AccNode → ℕ → Inside
fields nodes deep = record { nodes = nodes; depth = deep }

-- the tree of a formula's fields gives them back
pub acc_given_back : (a : Inside) → IsAcc a.nodes a.depth
    → fields (acc_postfix (acc_tree_of a.nodes)) (acc_depth (acc_tree_of a.nodes)) ≡ a
acc_given_back a is = ap (λ nodes. fields nodes (acc_depth (acc_tree_of a.nodes))) is.flat
    ∙ ap (λ deep. fields a.nodes deep) is.depth_is
