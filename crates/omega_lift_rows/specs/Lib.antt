-- What contracts of rows of measures cite, with the words of lifting that these need.
pub use Rattle.omega_lift_laws.specs.Measure
pub use Rattle.omega_lift_laws.specs.Least
pub mod Rows
