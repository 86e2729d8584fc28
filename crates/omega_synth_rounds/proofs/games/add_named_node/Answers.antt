-- the last node gets its name, which has allowed bytes alone
use Rattle.std.proofs.Common.{◌++◌, [], ◌∷◌, List, ℕ, ap, sym, subst, ◌∙◌}
use Rattle.std.specs.List.{All}
use Rattle.omega_game_values.specs.Building.{with_last, with_name}
use Rattle.omega_game_values.specs.Game.{IsNameByte}
use Rattle.omega_synth_rounds.specs.RoundsGame.{node_for}
use Rattle.omega_synth_rounds.proofs.Making.{begun, with_last_push}
use Rattle.omega_synth_rounds.proofs.Named.{name_bytes, on_ok_same}
use Rattle.omega_synth_rounds.proofs.games.add_named_node.Goals as goal

pub set_name-requires-clause-begun : goal.set_name-requires-clause-begun
set_name-requires-clause-begun c =
    begun c.add_node_at.new.builder c.args.builder.now (node_for c.args.rounds.now c.args.place) c.in_ok-add_node_at.ensures.ok

pub set_name-requires-clause-bytes : goal.set_name-requires-clause-bytes
set_name-requires-clause-bytes c =
    subst (λ (bytes : List ℕ). All IsNameByte bytes) (sym (c.as_slice.ensures.value ∙ c.in_ok-name.ensures.name))
    (name_bytes c.args.rounds.now c.requires.rounds c.args.states.now c.requires.states c.requires.fits c.args.place c.requires.place)

pub returns-clause-ok : goal.returns-clause-ok
returns-clause-ok c =
    let node = node_for c.args.rounds.now c.args.place in
    on_ok_same c.set_name.result _ _ _ c.set_name.ensures.ok
    (ap (with_last (with_name c.as_slice.result.now)) c.in_ok-add_node_at.ensures.ok
    ∙ with_last_push (with_name c.as_slice.result.now) c.args.builder.now node
    ∙ ap (λ (name : List ℕ). c.args.builder.now ++ with_name name node ∷ []) (c.as_slice.ensures.value ∙ c.in_ok-name.ensures.name))
