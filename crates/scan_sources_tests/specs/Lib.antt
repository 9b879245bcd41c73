pub mod SixRows
