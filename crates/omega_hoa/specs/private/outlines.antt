-- What only private contracts cite: a text that is to hold one segment, without the inside of the segment.
pub mod Outline
