-- No bytes were fed.
use Rattle.omega_hoa.proofs.Feeds.{nothing_fed, nothing_known}
use Rattle.omega_hoa.proofs.stream.Stream.new.Goals as goal

pub invariant_of-result : goal.invariant_of-result
invariant_of-result c = nothing_known c.new.result.items c.new-2.result c.new.ensures.items c.new-2.ensures.reads c.new-2.ensures.sound

pub returns-clause-fed : goal.returns-clause-fed
returns-clause-fed c = nothing_fed c.new.result.items c.new-2.result c.new.ensures.items c.new-2.ensures.reads c.new-2.ensures.sound
