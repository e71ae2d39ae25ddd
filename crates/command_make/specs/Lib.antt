pub mod MakeEndings
