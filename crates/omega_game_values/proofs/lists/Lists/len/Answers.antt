-- `Lists::len`: the number of lists.
use Rattle.std.proofs.Common.{ap, length, arith}
use Rattle.omega_text.proofs.JoinedLists.{length-lists_of}
use Rattle.omega_game_values.proofs.lists.Lists.len.Goals as goal

pub returns : goal.returns
returns g c = omega (arith, c.len.ensures, length-lists_of c.self.inside.starts.items c.self.inside.items.items, ap length c.self.view_is)
