pub mod AttributeLemmas
pub mod Keys
pub mod PayloadLemmas
pub mod PropertiesBack
pub mod Texts
pub mod Whole
