mod Leaves
mod Pens
mod Said
mod Loops
mod Moves
mod Calls
