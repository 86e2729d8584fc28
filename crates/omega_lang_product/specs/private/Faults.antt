-- Why two automata without universal branching have no graph, and no product.
use Rattle.omega_text.specs.declared.refusal.task.TaskFault.{TaskFault}
use Rattle.omega_text.specs.declared.refusal.task.TaskFault.TheVariants.{TooLarge, TooManyPropositions}
use Rattle.omega_hoa_automaton.specs.Automaton.{Description}
use Rattle.omega_lang_product.specs.Refusing.{HasUndecidedMeeting, IsGraphTooLarge, IsProductTooLarge}

-- `TooManyPropositions`, or `TooLarge` for a reason
abbrev pub IsJoinFault : Type 0 → Description → Description → TaskFault → Type 0
IsJoinFault large one other TooManyPropositions = HasUndecidedMeeting one other
IsJoinFault large one other TooLarge = large
IsJoinFault large one other fault = ⊥

-- the fault of the graph
abbrev pub IsGraphFault : Description → Description → TaskFault → Type 0
IsGraphFault one other = IsJoinFault (IsGraphTooLarge one other) one other

-- the fault of the product
abbrev pub IsProductFault : Description → Description → TaskFault → Type 0
IsProductFault one other = IsJoinFault (IsProductTooLarge one other) one other
