use Rattle.omega_laws.proofs.saying.Described.{same_parts}
use Rattle.omega_laws.proofs.saying.JudgedCircuits.{circuits_judged}
use Rattle.omega_laws.proofs.judged_circuits.circuits_are_judged.Goals as goal

pub returns : goal.returns
returns c = circuits_judged (same_parts c.cuts_are_one.ensures c.raws_are_one.ensures) c.circuits_of_texts_are_one.ensures c.circuit_verdicts_are_exact.ensures
