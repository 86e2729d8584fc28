-- Lemmas of the answers about circuits: texts of canonical forms, circuits that mean the same, the judge, and circuits
-- that are written.
pub mod Canonical
pub mod Same
pub mod JudgedCircuits
pub mod SidesRefused
pub mod JudgeReported
pub mod JudgingExact
pub mod JudgeLists
pub mod SidesTold
pub mod NamedSymbols
pub mod NamedPositions
pub mod ControllerCircuits
pub mod OwnRefusals
pub mod CircuitWritten
pub mod WrittenJudged
pub mod NotAtFault
