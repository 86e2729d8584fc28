-- `Lists::new`: no list, which takes no memory.
use Rattle.std.proofs.Common.{refl}
use Rattle.omega_text.specs.JoinedLists.{lists_of}
use Rattle.omega_game_values.proofs.lists.Lists.new.Goals as goal

pub returns : goal.returns
unfolding lists_of
returns g c = rw c.new.ensures.items refl
