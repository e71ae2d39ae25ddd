pub mod ShowEndings
