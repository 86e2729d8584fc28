-- The name is among the names with the number that is returned, and behind the others if it is new.
use Rattle.std.proofs.Common.{◌≡◌, true, List, ℕ, ap, sym, subst, ◌∙◌}
use Rattle.std.specs.Str.{bytes_eq}
use Rattle.omega_ltl_formula.specs.private.Keys.{bytes_of}
use Rattle.omega_ltl_formula.proofs.Keys.{found_there, named_already, named_more, named_there}
use Rattle.omega_ltl_formula.proofs.names.number_of_name.Goals as goal

pub returns-in-Some-clause-names : goal.returns-in-Some-clause-names
returns-in-Some-clause-names c = named_already c.args.name.now c.args.names.now.keys (sym c.in-Some.ensures.found)

pub returns-in-Some-clause-number : goal.returns-in-Some-clause-number
returns-in-Some-clause-number c = found_there c.args.names.now.keys c.in-Some.number c.args.name.now (sym c.in-Some.ensures.index)

pub returns-clause-names : goal.returns-clause-names
returns-clause-names c =
    ap bytes_of c.in_ok-number.ensures.keys ∙ named_more c.args.names.now.keys c.in_ok-copy.copy c.args.name.now c.in_ok-copy.ensures.items

pub returns-clause-number : goal.returns-clause-number
returns-clause-number c =
    let stored = c.in_ok-number.ensures.stored in
    named_there c.insert_full.new.self.keys c.in_ok-number.number c.args.name.now stored.0 stored.1
    (subst (λ (n : List ℕ). bytes_eq n stored.0.items ≡ true) c.in_ok-copy.ensures.items stored.2)
