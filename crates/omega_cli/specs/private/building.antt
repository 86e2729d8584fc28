-- How the command line is put together.
pub mod Building
