-- `Places` is to be read first: the table of docs/IMAGE.md, a line for each field, and proved.
pub mod Codec
pub mod Layout
pub mod Image
pub mod Sizes
pub mod Places
pub mod Lists
