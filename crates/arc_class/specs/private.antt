-- The vocabulary of private functions: no contract of a public call speaks of it.
pub mod Entries
pub mod FunctionSummary
pub mod Scopes
pub mod TableParts
pub mod RuleGroups
pub mod CheckedTable
