-- Lemmas on unions: edges and states one by one, marks that rise, counts, and what is formed.
pub mod Counted
pub mod Deep
pub mod Formed
pub mod Guards
pub mod Parts
pub mod Rising
