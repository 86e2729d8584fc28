-- The grammar of labels as they are written; in `private` what only private contracts cite.
-- What aliases stand for, and what a label means under them; in `private` what only private contracts cite.
pub mod Reading
pub mod private
pub mod Expanding
