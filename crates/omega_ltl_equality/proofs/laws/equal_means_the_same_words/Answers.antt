-- the law by what the answer says
use Rattle.omega_ltl_equality.proofs.laws.equal_means_the_same_words.Goals as goal

pub returns : goal.returns
returns c omniscience a formula equal word = equal omniscience word
