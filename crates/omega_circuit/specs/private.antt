-- What only private contracts cite.
pub mod Numbers
pub mod Orders
pub mod Steps
pub mod Renumbered
pub mod Wires
