-- Pending prefixes, parentheses and operators, as signs and the depths of operators beside them.
use Rattle.std.specs.Prelude.{ℕ, List, [], ◌∷◌}
use Rattle.omega_hoa_expression.specs.declared.pending.Pending.{Pending}
use Rattle.omega_hoa_expression.specs.declared.pending.Pending.TheVariants as pending
use Rattle.omega_hoa_expression.specs.declared.signs.Sign.{Sign}
use Rattle.omega_hoa_expression.specs.declared.signs.Sign.TheVariants.{And, Not, Open, Or}
use Rattle.omega_hoa_expression.specs.Depths.{depths_below, top_depth}

-- what is pending, by its signs and the depths of its operators, the last first
abbrev pub pending_in : List Sign → List ℕ → List Pending
pending_in [] depths = []
pending_in (Open ∷ signs) depths = pending.Open ∷ pending_in signs depths
pending_in (Not ∷ signs) depths = pending.Not ∷ pending_in signs depths
pending_in (And ∷ signs) depths =
    pending.And (top_depth depths) ∷ pending_in signs (depths_below depths)
pending_in (Or ∷ signs) depths =
    pending.Or (top_depth depths) ∷ pending_in signs (depths_below depths)
