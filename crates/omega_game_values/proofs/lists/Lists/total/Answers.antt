-- `Lists::total`: the number of items of all lists together.
use Rattle.std.proofs.Common.{ap, length, sum_by, arith}
use Rattle.omega_text.proofs.JoinedLists.{sum_by-lists_of}
use Rattle.omega_game_values.proofs.lists.Lists.total.Goals as goal

pub returns : goal.returns
returns g c = omega (arith, c.len.ensures, sum_by-lists_of c.self.inside.starts.items c.self.inside.items.items c.self.invariant, ap (sum_by (λ list. length list)) c.self.view_is)
