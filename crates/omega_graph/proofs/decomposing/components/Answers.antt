-- `components`: the edges inside strongly connected components.
use Rattle.std.proofs.Common.{[]}
use Rattle.omega_graph.proofs.decomposing.components.Goals as goal

pub returns-clause-some : goal.returns-clause-some
returns-clause-some c = (c.in_ok-edge_components.ensures.components (λ n. [])).some

pub returns-clause-among : goal.returns-clause-among
returns-clause-among c = (c.in_ok-edge_components.ensures.components (λ n. [])).among

pub returns-clause-connected : goal.returns-clause-connected
returns-clause-connected c = λ marks. (c.in_ok-edge_components.ensures.components marks).connected

pub returns-clause-closed : goal.returns-clause-closed
returns-clause-closed c = λ marks. (c.in_ok-edge_components.ensures.components marks).closed

pub returns-clause-apart : goal.returns-clause-apart
returns-clause-apart c = (c.in_ok-edge_components.ensures.components (λ n. [])).apart
