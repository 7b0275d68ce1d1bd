pub mod Hostile
