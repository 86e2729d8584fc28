-- How a text is cut into pieces changes neither its items nor its last refusal.
use Rattle.omega_hoa.proofs.AnyCut.{cuts_change_nothing, pieces_are_fed, pieces_change_nothing}
use Rattle.omega_hoa.proofs.Readings.{readings_of}
use Rattle.omega_hoa.proofs.laws.pieces_change_nothing.Goals as goal

pub returns-clause-fed : goal.returns-clause-fed
returns-clause-fed c = λ seen.
    cuts_change_nothing (readings_of c.raws_are_one.ensures c.meanings_are_one.ensures) c.goes_on_one_way.ensures c.cuts_are_one.ensures seen

pub returns-clause-together : goal.returns-clause-together
returns-clause-together c = pieces_are_fed

pub returns-clause-pieces : goal.returns-clause-pieces
returns-clause-pieces c = pieces_change_nothing (returns-clause-fed c)
