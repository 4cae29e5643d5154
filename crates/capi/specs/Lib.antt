pub mod Capi
