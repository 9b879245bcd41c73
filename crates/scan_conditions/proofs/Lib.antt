mod Faultless
mod Leaves
mod Lexing
mod Operands
mod Parted
mod Places
mod Reading
mod Steps
