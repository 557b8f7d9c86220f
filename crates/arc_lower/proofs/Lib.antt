mod CaseAnalysis
mod CountsKept
mod ExpressionWeight
mod ActionLists
mod JumpPatching
mod RecountedSteps
mod RunsCompose
mod StackAccess
mod ReleaseSimulation
mod BlockSimulation
mod CallSimulation
mod StackEffect
mod StepHeights
mod ProgramHeights
mod ActionSafety
mod LoweringCorrect
pub mod ActionCount
