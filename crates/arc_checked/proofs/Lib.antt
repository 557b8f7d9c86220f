pub mod NodeParts
