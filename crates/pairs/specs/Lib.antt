-- What the call on a shape word and a class word promises.
pub mod Pairs
