pub mod ListSuffixes
pub mod VisibleVariables
pub mod ScopeKept
pub mod DeclaredVariables
pub mod TableKnowsNames
