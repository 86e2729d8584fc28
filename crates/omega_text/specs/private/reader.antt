-- What only the loop over tokens cites.
pub mod Taking
