-- The texts of the formulas that `clap` found.
use Rattle.std.proofs.Common.{◌≡◌, List, [], Option, None, Some, option_map, refl, slice_get, unwrap_or}
use Rattle.std.specs.Prelude.{find, option_and_then}
use Rattle.std.specs.Str.{bytes_eq}
use Rattle.clap.specs.Words.{Row, first_of}
use Rattle.omega_cli.specs.Found.{given_formulas, id_of}
use Rattle.omega_cli_command.specs.declared.options.OptionName.TheVariants.{Formula}

-- the first of them is the first value of the row
pub first_given : (rows : List Row) → slice_get (given_formulas rows) 0 ≡ first_of (id_of Formula) rows
first_given rows = go (find (λ r. bytes_eq r.id (id_of Formula)) rows)
  where
    go : (found : Option Row) → slice_get (unwrap_or (option_map (λ r. r.values) found) []) 0
        ≡ option_and_then (λ r. slice_get r.values 0) found
    go None = refl
    go (Some row) = refl
