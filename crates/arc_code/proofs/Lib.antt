pub mod WritesCompose
pub mod RenamingKeepsSteps
pub mod StepOutcomes
pub mod EffectsFollowed
pub mod HeightsKept
