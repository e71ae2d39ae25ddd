pub mod TokenClass
pub mod Tree
pub mod Grammar
pub mod Prefixes
pub mod Answer
pub mod Depth
pub mod SyntaxRefusal
pub mod inner
