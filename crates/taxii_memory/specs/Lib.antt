pub mod MemoryKeeper
