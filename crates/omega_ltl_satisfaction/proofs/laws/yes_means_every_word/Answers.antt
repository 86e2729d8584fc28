-- the law by what the answer says
use Rattle.omega_ltl_satisfaction.proofs.laws.yes_means_every_word.Goals as goal

pub returns : goal.returns
returns c omniscience a formula satisfied word accepted = satisfied omniscience word accepted
