pub mod Writables
