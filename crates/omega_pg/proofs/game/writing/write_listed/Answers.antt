-- `write_listed`: the first identifier, and the others after it.
use Rattle.std.proofs.Common.{◌<◌, length, drop}
use Rattle.std.proofs.lemmas.List.Elements.{All-drop, All-take}
use Rattle.omega_pg.proofs.game.writing.write_listed.Goals as goal

pub id-requires : goal.id-requires
id-requires c = c.requires 0 0 c.in-len1-up.len_at_least

pub write_others-requires : goal.write_others-requires
write_others-requires c =
    All-take (λ place. place < length c.args.game.now) _ (drop 1 c.args.places.now) (All-drop (λ place. place < length c.args.game.now) 1 c.args.places.now c.requires)
