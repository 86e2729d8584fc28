-- The lines that say what is to be mended in a refused text.
pub mod GameCauses
pub mod Laws
pub mod Places
pub mod SolutionCauses
pub mod SolutionReasons
pub mod private
