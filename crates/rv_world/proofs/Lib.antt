pub mod OfParts
