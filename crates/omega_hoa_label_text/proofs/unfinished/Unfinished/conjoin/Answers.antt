-- The last node is `&`.
use Rattle.omega_hoa_label_text.proofs.unfinished.Unfinished.conjoin.Goals as goal

pub returns-clause-nodes : goal.returns-clause-nodes
returns-clause-nodes c = c.in_ok-push.ensures.ok
