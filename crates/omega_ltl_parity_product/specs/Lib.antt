-- Products of deterministic parity automata: what contracts cite.
pub mod Limits
