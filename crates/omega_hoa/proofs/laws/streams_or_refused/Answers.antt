-- No text is neither a stream nor refused.
use Rattle.omega_hoa.proofs.Neither.{stream_or_refused}
use Rattle.omega_hoa.proofs.laws.streams_or_refused.Goals as goal

pub returns : goal.returns
returns c = stream_or_refused c.meanings_are_there.ensures c.goes_on_one_way.ensures c.cut_or_fault.ensures
