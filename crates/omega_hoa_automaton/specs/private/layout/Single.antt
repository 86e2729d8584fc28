-- The items that may not repeat, by their kind.
use Rattle.std.specs.Prelude.{Bool, is_some}
use Rattle.omega_hoa_syntax.specs.declared.raw_item.RawItem.{RawItem}
use Rattle.omega_hoa_automaton.specs.Items.{acc_name_in, acceptance_in, name_in}
use Rattle.omega_hoa_automaton.specs.Items.{propositions_in, states_in, tool_in}
use Rattle.omega_hoa_automaton.specs.declared.judging.header.Single.{Single}
use Rattle.omega_hoa_automaton.specs.declared.judging.header.Single.TheVariants as kind

-- whether an item is of this kind
abbrev pub says : Single → RawItem → Bool
says kind.States = λ item. is_some (states_in item)
says kind.Propositions = λ item. is_some (propositions_in item)
says kind.Acceptance = λ item. is_some (acceptance_in item)
says kind.AccName = λ item. is_some (acc_name_in item)
says kind.Tool = λ item. is_some (tool_in item)
says kind.Name = λ item. is_some (name_in item)
