-- What is gathered of the items of a header, item by item.
use Rattle.std.specs.Prelude.{◌≡◌, ◌++◌, List, option_map, option_to_list}
use Rattle.std.specs.List.{filter_map, flat_map}
use Rattle.std.specs.Option.{option_or}
use Rattle.omega_hoa_syntax.specs.declared.raw_item.RawItem.{RawItem}
use Rattle.omega_hoa_automaton.specs.Items.{acc_name_in, acceptance_in, first_said, name_in, properties_in}
use Rattle.omega_hoa_automaton.specs.Items.{propositions_in, start_in, tool_in, unknown_in}
use Rattle.omega_hoa_automaton.specs.declared.making.gathered.Gathered.{Gathered}

-- one more item was taken: of what may not repeat the first stays, and all else is put last
pub record HasTaken (old : Gathered) (item : RawItem) (new : Gathered) : Type 0 where
  pub tool : new.tool ≡ option_or old.tool (tool_in item)
  pub name : new.name ≡ option_or old.name (name_in item)
  pub starts : new.starts.items ≡ old.starts.items ++ option_to_list (start_in item)
  pub propositions : new.propositions
      ≡ option_or old.propositions (option_map (λ named. named.names) (propositions_in item))
  pub acc_name : new.acc_name ≡ option_or old.acc_name (acc_name_in item)
  pub acceptance : new.acceptance
      ≡ option_or old.acceptance (option_map (λ accepted. accepted.formula) (acceptance_in item))
  pub properties : new.properties.items ≡ old.properties.items ++ properties_in item
  pub unknown : new.unknown.items ≡ old.unknown.items ++ option_to_list (unknown_in item)

-- all items were taken: what may not repeat is that of the first item, and all else is in the order written
pub record HasGathered (items : List RawItem) (all : Gathered) : Type 0 where
  pub tool : all.tool ≡ first_said tool_in items
  pub name : all.name ≡ first_said name_in items
  pub starts : all.starts.items ≡ filter_map start_in items
  pub propositions : all.propositions
      ≡ option_map (λ named. named.names) (first_said propositions_in items)
  pub acc_name : all.acc_name ≡ first_said acc_name_in items
  pub acceptance : all.acceptance
      ≡ option_map (λ accepted. accepted.formula) (first_said acceptance_in items)
  pub properties : all.properties.items ≡ flat_map properties_in items
  pub unknown : all.unknown.items ≡ filter_map unknown_in items
