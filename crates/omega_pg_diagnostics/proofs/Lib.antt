-- Lemmas of the lines that say what is to be mended.
mod games
mod reading
mod solutions
