pub mod Asking
pub mod Loading
pub mod RunInMemory
pub mod RunTexts
pub mod Running
pub mod Taking
