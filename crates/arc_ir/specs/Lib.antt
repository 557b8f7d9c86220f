pub mod ActionSteps
