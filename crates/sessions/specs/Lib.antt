-- What the calls on sessions promise: each file says which paragraph of document 01 it states.
pub mod Opening
pub mod Step
pub mod Private
