-- Nodes and entries are counted as the limit is stated.
use Rattle.std.proofs.Common.{◌≡◌, ℕ, ◌*◌, length, sym, ap, ◌∙◌}
use Rattle.std.specs.Prelude.{count_by, nat_lt, not}
use Rattle.std.proofs.lemmas.List.{length-map}
use Rattle.omega_game_values.specs.Bound.{losing_priorities}
use Rattle.omega_game_values.specs.Game.{priorities}
use Rattle.omega_game_values.specs.Player.{loses}
use Rattle.omega_measure.specs.Limits.{most_cells}
use Rattle.omega_measure.proofs.Listed.{losing-counted}
use Rattle.omega_measure.proofs.cells.fits.Goals as goal

pub returns : goal.returns
returns c =
    let setting = priorities c.args.game.now in
    let nodes : c.len.result ≡ length setting = c.len.ensures.count ∙ sym (length-map c.args.game.now (λ node. node.priority)) in
    let entries : c.losing_among.result ≡ length (losing_priorities c.args.player setting) =
    c.losing_among.ensures ∙ ap (count_by (λ count. loses c.args.player count.priority)) c.priority_counts.ensures ∙ losing-counted c.args.player setting in
    ap not
    (c.is_too_wide.ensures.wide
    ∙ ap (λ (n : ℕ). nat_lt most_cells (n * c.losing_among.result)) nodes
    ∙ ap (λ (n : ℕ). nat_lt most_cells (length setting * n)) entries)
