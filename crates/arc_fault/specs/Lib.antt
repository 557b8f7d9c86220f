pub mod Parse
pub mod Class
pub mod Check
pub mod Own
pub mod Report
