-- The fields of an acceptance formula as it is written, given back by its tree.
use Rattle.std.specs.Prelude.{◌≡◌, ℕ, List}
use Rattle.std.proofs.Common.{ap, ◌∙◌}
use Rattle.omega_hoa_expression.specs.Depth.{counted}
use Rattle.omega_hoa_acceptance.specs.Raw.{raw_acc_depth}
use Rattle.omega_hoa_acceptance.specs.private.layout.Raw.{IsRawAcc, atom_names}
use Rattle.omega_hoa_acceptance.specs.private.layout.Raw.{raw_acc_postfix, raw_acc_tree_of}
use Rattle.omega_hoa_acceptance.specs.declared.raw.RawAccNode.{RawAccNode}
use Rattle.omega_hoa_acceptance.specs.declared.raw.RawAcc.TheInside.{Inside}

-- the fields with these nodes, names and depth
abbrev pub fields : List RawAccNode → List ℕ → ℕ → Inside
fields nodes names deep = record { nodes = nodes; names = names; depth = deep }

-- the tree of a formula's fields gives them back
pub raw_acc_given_back : (a : Inside) → IsRawAcc a.nodes a.names a.depth
    → fields (raw_acc_postfix (raw_acc_tree_of a.nodes a.names))
    (atom_names (raw_acc_tree_of a.nodes a.names))
    (counted (raw_acc_depth (raw_acc_tree_of a.nodes a.names))) ≡ a
raw_acc_given_back a is = ap (λ nodes. fields nodes (atom_names (raw_acc_tree_of a.nodes a.names))
    (counted (raw_acc_depth (raw_acc_tree_of a.nodes a.names)))) is.flat
    ∙ (ap (λ names. fields a.nodes names (counted (raw_acc_depth (raw_acc_tree_of a.nodes a.names)))) is.named
    ∙ ap (λ deep. fields a.nodes a.names deep) is.depth_is)
