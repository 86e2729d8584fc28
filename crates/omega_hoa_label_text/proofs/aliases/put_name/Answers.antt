-- A name that is not there is put last.
use Rattle.omega_hoa_label_text.proofs.PutLemmas.{key-put}
use Rattle.omega_hoa_label_text.proofs.aliases.put_name.Goals as goal
use Rattle.omega_hoa_label_text.proofs.aliases.put_name.Goals.{in-Err, in-Ok}

pub returns-clause-ok : goal.returns-clause-ok
returns-clause-ok c = elim c.match-insert.branch [
  | in-Ok w ↦ rw w.result-is (key-put c.args.names.now.keys c.insert.new.self.keys c.in_ok-key.key c.args.name.now w.in-Ok.ensures.keys c.in_ok-key.ensures.ok c.requires)
  | in-Err w ↦ rw w.result-is tt
]
