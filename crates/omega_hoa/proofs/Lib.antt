-- Lemmas: answers and lists that grow, cuts in parts, segments token by token, the tokens that bytes settle,
-- and automata as they are written.
pub mod AnyCut
pub mod Cutting
pub mod Dividing
pub mod Endings
pub mod Feeds
pub mod Filling
pub mod FirstEnds
pub mod Fronts
pub mod Neither
pub mod Ones
pub mod OneStream
pub mod OneText
pub mod Outlines
pub mod Passing
pub mod Places
pub mod Readings
pub mod Results
pub mod Segments
pub mod Settling
pub mod Taking
pub mod Unended
pub mod Wholes
pub mod Wholly
pub mod Writing
pub mod Written
