-- The limit of tables of measures, as a number.
use Rattle.std.specs.Prelude.{ℕ}

-- the most measure cells of a table: nodes times losing priorities in use
abbrev pub most_cells : ℕ
most_cells = 67108864
