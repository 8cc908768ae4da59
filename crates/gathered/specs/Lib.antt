-- What the calls of the gathered mode promise is stated in `sessions` and `characters`, over a mode: here is only what
-- the code needs.
pub mod Private
