-- The variable is a key exactly if the set finds it.
use Rattle.std.proofs.Common.{◌≡◌, ◌/◌, refl, sym, ◌∙◌}
use Rattle.std.specs.Prelude.{nat_eq}
use Rattle.std.specs.List.{list_any}
use Rattle.omega_circuit.proofs.Members.{found_with, there_any}
use Rattle.omega_circuit.proofs.Places.{same_number}
use Rattle.omega_circuit.proofs.literals.is_defined.Goals as goal

pub returns : goal.returns
returns c =
    let found : c.contains.result ≡ list_any (nat_eq (c.args.literal / 2)) c.args.variables.now.keys = c.contains.ensures in (
      λ is. found_with c.args.variables.now.keys (c.args.literal / 2) (sym found ∙ is),
      λ there. found ∙ there_any (nat_eq (c.args.literal / 2)) (c.args.literal / 2) (same_number (c.args.literal / 2) (c.args.literal / 2) refl) c.args.variables.now.keys there,
    )
