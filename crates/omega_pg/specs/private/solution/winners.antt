-- What only the reader of winners keeps and promises.
pub mod Lines
