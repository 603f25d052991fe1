-- A pivot of one piece or two: the lists and the pieces after it.
pub mod After
pub mod Overflows
pub mod Steps
pub mod Asked
pub mod Named
pub mod Laws
