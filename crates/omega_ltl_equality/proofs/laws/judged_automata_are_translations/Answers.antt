-- both ways
use Rattle.omega_ltl_equality.proofs.laws.judged_automata_are_translations.Goals as goal

pub returns : goal.returns
returns c omniscience formula a judged = record {
  sound = λ word accepted. (judged.exact omniscience word).0 accepted;
  complete = λ again word satisfied. (judged.exact again word).1 satisfied;
}
