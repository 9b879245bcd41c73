pub mod Cells
pub mod Csv
pub mod CsvReader
pub mod JsonLines
pub mod Lists
pub mod Meaning
