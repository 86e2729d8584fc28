-- the law by its lemmas
use Rattle.omega_lang_inclusion.proofs.Running.{accepted_admits, admitted_accepts}
use Rattle.omega_lang_inclusion.proofs.laws.word_automata_accept_admitted.Goals as goal

pub returns : goal.returns
returns c word a named means = (accepted_admits word a means named, admitted_accepts word a means named)
