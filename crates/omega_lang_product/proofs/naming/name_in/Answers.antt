-- the name stands at the place of the number
use Rattle.std.proofs.Common.{None, get_or, map, List, ap, sym, ◌∙◌}
use Rattle.omega_hoa_automaton.specs.declared.state.State.{State}
use Rattle.omega_lang_product.proofs.Rows.{name_found, name_missing}
use Rattle.omega_lang_product.proofs.naming.name_in.Goals as goal

pub returns-in-Some : goal.returns-in-Some
returns-in-Some c =
    c.name_at_place.ensures
    ∙ ap (λ (states : List State). get_or (map (λ (state : State). state.name) states) c.in-Some.place None) c.defined.ensures
    ∙ sym (name_found c.args.automaton.now.defined c.args.table.now.numbers.keys c.args.number c.requires c.in-Some.place (sym c.in-Some.ensures.index))

pub returns-in-None : goal.returns-in-None
returns-in-None c = sym (name_missing c.args.automaton.now.defined c.args.table.now.numbers.keys c.args.number c.requires (sym c.in-None.ensures.index))
