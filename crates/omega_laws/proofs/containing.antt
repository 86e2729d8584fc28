-- That texts which are met and complemented say whether the words of one are words of another.
pub mod Inclusion
pub mod Joined
pub mod Memberships
pub mod Parted
pub mod Texts
pub mod Trimmed
