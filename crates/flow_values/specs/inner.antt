pub mod StandardNames
