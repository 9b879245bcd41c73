mod Columns
mod Jsons
mod Lines
mod Meant
mod Numerals
