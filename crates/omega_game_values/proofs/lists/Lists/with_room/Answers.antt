-- `Lists::with_room`: no list, and room for so many.
use Rattle.std.proofs.Common.{refl}
use Rattle.omega_text.specs.JoinedLists.{lists_of}
use Rattle.omega_game_values.proofs.lists.Lists.with_room.Goals as goal

pub returns : goal.returns
unfolding lists_of
returns g c = rw c.in_ok-starts.ensures.items refl
