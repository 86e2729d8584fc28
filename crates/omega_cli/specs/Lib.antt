-- What contracts of the command line as `clap` has it cite.
pub mod Found
pub mod Words
pub mod Program
pub mod private
pub use Rattle.omega_game_values.specs.Player
pub use Rattle.omega_cli_command.specs.Mistakes
pub use Rattle.omega_cli_command.specs.Options
pub use Rattle.omega_cli_command.specs.Request
pub use Rattle.omega_cli_command.specs.Subcommands
