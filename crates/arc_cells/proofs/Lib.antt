pub mod BlockChanges
pub mod NewObjectBlock
pub mod InstructionShapes
pub mod StackTopFirst
pub mod LookupRowsCorrect
pub mod SubclassRangesSound
pub mod SentBlocksSound
