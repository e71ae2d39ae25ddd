pub mod HeadText
