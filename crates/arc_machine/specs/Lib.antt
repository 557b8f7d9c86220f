pub mod TurnBeginning
pub mod FaultNames
pub mod ClassesWithoutDealloc
pub mod PreparedEngine
pub mod RunAnswer
