-- The literals of the nodes of a label that were read, in postfix order.
use Rattle.std.specs.Prelude.{ℕ, ◌^◌, ◌==◌, true, false, nat_lt, bit_or, if◌then◌else◌}
use Rattle.std.specs.Prelude.{Option, None, Some, List, [], ◌∷◌}
use Rattle.omega_hoa_label.specs.declared.label.LabelNode.{LabelNode}
use Rattle.omega_hoa_label.specs.declared.label.LabelNode.TheVariants.{Alias, And, Constant, Group}
use Rattle.omega_hoa_label.specs.declared.label.LabelNode.TheVariants.{Not, Or, Proposition}
use Rattle.omega_hoa_satisfiable.specs.declared.literals.ReadLiterals.{ReadLiterals}

-- no node was read
abbrev pub no_literals : ReadLiterals
no_literals = record { held = 0; unheld = 0; last = 0 }

-- the last proposition is not negated
abbrev pub with_last_held : ReadLiterals → ReadLiterals
with_last_held read =
    record { held = bit_or read.held read.last; unheld = read.unheld; last = 0 }

-- it is
abbrev pub with_last_unheld : ReadLiterals → ReadLiterals
with_last_unheld read =
    record { held = read.held; unheld = bit_or read.unheld read.last; last = 0 }

-- a proposition comes last
abbrev pub with_last : ReadLiterals → ℕ → ReadLiterals
with_last read number =
    record { held = bit_or read.held read.last; unheld = read.unheld; last = 2 ^ number }

-- what was read with one node more, if that belongs to a conjunction of literals
abbrev pub with_node : ReadLiterals → LabelNode → Option ReadLiterals
with_node read (Proposition number) = if nat_lt number 64 then Some (with_last read number) else None
with_node read Not = if read.last == 0 then None else Some (with_last_unheld read)
with_node read And = Some (with_last_held read)
with_node read (Constant true) = Some (with_last_held read)
with_node read (Constant false) = None
with_node read Or = None
with_node read (Alias count) = None
with_node read Group = None

-- and if those before belong to one
abbrev pub with_next : Option ReadLiterals → LabelNode → Option ReadLiterals
with_next None node = None
with_next (Some read) node = with_node read node

-- with all nodes of a list
abbrev pub with_nodes : Option ReadLiterals → List LabelNode → Option ReadLiterals
with_nodes read [] = read
with_nodes read (node ∷ nodes) = with_nodes (with_next read node) nodes
