pub mod NoDeallocClassSteps
pub mod EngineStaysPrepared
pub mod StartRepresented
