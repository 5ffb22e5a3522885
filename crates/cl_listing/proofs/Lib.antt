pub mod Rules
pub mod Sentences
pub mod Walking
pub mod Numbers
