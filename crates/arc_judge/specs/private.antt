-- The vocabulary of private functions: no contract of a public call speaks of it.
pub mod ExpressionJudgements
