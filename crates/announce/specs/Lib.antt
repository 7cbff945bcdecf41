pub mod AfterNamespace
pub mod Told
