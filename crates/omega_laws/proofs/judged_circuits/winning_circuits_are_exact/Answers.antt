use Rattle.omega_laws.proofs.saying.Described.{same_parts}
use Rattle.omega_laws.proofs.saying.JudgedCircuits.{winning_circuits_exact}
use Rattle.omega_laws.proofs.judged_circuits.winning_circuits_are_exact.Goals as goal

pub returns : goal.returns
returns c =
    winning_circuits_exact (same_parts c.cuts_are_one.ensures c.raws_are_one.ensures) c.winners_of_texts_are_exact.ensures
    c.written_circuits_realize.ensures
