-- Definitions that only private contracts cite: the table of edges, the runs of marks, and the referee's answers inside
-- the crate.
pub mod EdgeTable
pub mod Judged
pub mod Runs
