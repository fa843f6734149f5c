pub mod WordLaws
pub mod FormulaParts
pub mod EffectParts
pub mod Tallies
pub mod Additions
pub mod PartWords
pub mod Outcomes
pub mod Starts
