pub mod Building
pub mod Standing
pub mod Asking
pub mod Desks
