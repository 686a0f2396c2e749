pub mod Figures
pub mod Tables
