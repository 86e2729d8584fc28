-- Bytes that are passed append no items.
use Rattle.omega_hoa.proofs.Results.{nothing_more}
use Rattle.omega_hoa.proofs.progress.read_on.Goals as goal

pub returns-then-end-bytes-clause-read : goal.returns-then-end-bytes-clause-read
returns-then-end-bytes-clause-read c = λ prior items so_far. nothing_more _ _ _ (c.pass_inside-after.ensures.read prior items so_far)

pub returns-clause-read : goal.returns-clause-read
returns-clause-read c = λ prior items so_far. c.in_ok-read.ensures.read prior items (c.pass_inside-after.ensures.read prior items so_far)

pub returns-clause-extends : goal.returns-clause-extends
returns-clause-extends c = c.in_ok-read.ensures.extends
