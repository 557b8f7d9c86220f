pub mod RunsSteady
pub mod Composition
pub mod Ancestry
pub mod DeallocChain
pub mod OperatorTotality
pub mod FieldOrder
pub mod SelectorComponents
