pub mod Letters
pub mod Founded
pub mod StepLaws
pub mod Hints
mod Told
