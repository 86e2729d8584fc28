-- The nodes of labels as bytes.
use Rattle.std.specs.Prelude.{ℕ, ◌==◌, nat_lt, false, true, if◌then◌else◌, Option, None, Some}
use Rattle.omega_hoa_label.specs.declared.label.LabelNode.{LabelNode}
use Rattle.omega_hoa_label.specs.declared.label.LabelNode.TheVariants.{Alias, And, Constant, Group}
use Rattle.omega_hoa_label.specs.declared.label.LabelNode.TheVariants.{Not, Or, Proposition}

-- the node of a byte: from 250 on what is no proposition
abbrev pub node_of : ℕ → LabelNode
node_of code = if code == 250 then Constant false else (if code == 251 then Constant true
    else (if code == 252 then Not else (if code == 253 then And else (if code == 254 then Or
    else (if code == 255 then Group else Proposition code)))))

-- the byte of a node, if it has one
abbrev pub code_of : LabelNode → Option ℕ
code_of (Constant value) = Some (if value then 251 else 250)
code_of (Proposition number) = if nat_lt number 250 then Some number else None
code_of (Alias count) = None
code_of Not = Some 252
code_of And = Some 253
code_of Or = Some 254
code_of Group = Some 255
