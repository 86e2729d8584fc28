-- What contracts cite: one segment, streams of segments, and what a stream in pieces keeps.
pub mod Alone
pub mod Feeding
pub mod Kept
pub mod Laws
pub mod Segment
pub mod Stream
pub mod private
