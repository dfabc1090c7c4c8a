pub mod Caches
