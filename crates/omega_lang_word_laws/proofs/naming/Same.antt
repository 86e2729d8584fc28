-- A complement has the propositions of its automaton.
use Rattle.std.proofs.Common.{◌≡◌, List, [], ap, ◌∙◌}
use Rattle.std.specs.Prelude.{option_map}
use Rattle.std.specs.Option.{unwrap_or}
use Rattle.omega_hoa_automaton.specs.Automaton.{Description}
use Rattle.omega_hoa_automaton.specs.Items.{first_said, propositions_in}
use Rattle.omega_hoa_syntax.specs.declared.raw_item.RawItem.{RawItem}
use Rattle.omega_lang_complement.specs.Complement.{IsComplement}

pub same_names : (a c : Description) → IsComplement a c → c.propositions ≡ a.propositions
same_names a c (raw, written, means) =
    means.propositions ∙ ap (λ (items : List RawItem). unwrap_or (option_map (λ named. named.names) (first_said propositions_in items)) []) written.items
