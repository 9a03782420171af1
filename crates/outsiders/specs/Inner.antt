pub mod Outsiders
