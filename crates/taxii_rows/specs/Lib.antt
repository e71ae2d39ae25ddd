pub mod Described
pub mod Keeper
pub mod SoundRow
pub mod StoreState
pub mod Version
pub mod Identity
pub mod Picking
pub mod Causes
