-- `status_of`: what is left of the input is as `obey` leaves it.
use Rattle.omega.proofs.running.status_of.Goals as goal

pub returns : goal.returns
returns c =
    record {
      unread = _;
      obeyed = c.obey.ensures;
    }
