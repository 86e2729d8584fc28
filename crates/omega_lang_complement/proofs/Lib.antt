pub mod Depths
pub mod Faults
pub mod Full
pub mod Judged
pub mod Puts
pub mod Rests
pub mod LimitTests
pub mod Turned
